-- `number::digits` meets its contract.
use Rattle.std.proofs.Common.{◌∙◌, sym}
use Rattle.rules.specs.Number.{is_digit}
use Rattle.text.proofs.Digits.{digit_more, digit_bad, digit_none, digit_small, ten_more}
use Rattle.text.proofs.number.digits.Goals as goal

pub returns-then-not-is_ascii_digit : goal.returns-then-not-is_ascii_digit
unfolding is_digit
returns-then-not-is_ascii_digit c =
    sym (c.loop-b.invariant.same ∙ digit_bad c.args.s.now c.loop-b.b-index c.loop-b.value c.loop-b-test.true (sym c.is_ascii_digit.ensures.value ∙ c.if-not-is_ascii_digit.true))

pub loop-b-preserved : goal.loop-b-preserved
unfolding is_digit
loop-b-preserved c =
    let digit = sym c.is_ascii_digit.ensures.value ∙ c.if-not-is_ascii_digit.false in
    rw c.from.ensures record {
      same = c.loop-b.invariant.same ∙ digit_more c.args.s.now c.loop-b.b-index c.loop-b.value c.loop-b-test.true digit;
      small = ten_more c.loop-b.value _ c.loop-b.b-index c.loop-b.invariant.small (digit_small _ digit);
    }

pub returns : goal.returns
returns c = sym (c.loop-b.invariant.same ∙ digit_none c.args.s.now c.loop-b.b-index c.loop-b.value c.loop-b-test.false)
