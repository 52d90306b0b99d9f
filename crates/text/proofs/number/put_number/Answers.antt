-- `number::put_number` meets its contract: the digits of y, put at `at`, give what is asked; behind the first digit all are written.
use Rattle.std.proofs.Common.{◌∙◌, refl, arith}
use Rattle.text.proofs.Decimal.{some_digit, last_digit, first_digit}
use Rattle.text.proofs.number.put_number.Goals as goal

pub loop-i-init : goal.loop-i-init
loop-i-init c = record {
  here = omega arith;
  left = λ h. (omega arith, refl);
  done = λ h. absurd (omega (arith, some_digit c.args.x (omega arith)));
}

pub loop-i-preserved : goal.loop-i-preserved
loop-i-preserved c =
    let i = c.loop-i.i in
    let n = c.loop-i.invariant.left (omega arith) in
    record {
      here = omega arith;
      left = λ h. let e = last_digit c.loop-i.out c.args.at i c.loop-i.y (omega arith) n.0 (omega arith) h in (e.0, e.1 ∙ n.1);
      done = λ h. first_digit c.loop-i.out c.args.at i c.loop-i.y (omega arith) n.0 (omega arith) h (omega arith) ∙ n.1;
    }
