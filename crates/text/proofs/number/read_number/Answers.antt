-- `number::read_number` meets its contract.
use Rattle.std.proofs.Common.{◌∙◌, sym, arith}
use Rattle.std.proofs.lemmas.Bool.Decides.{nat_tests}
use Rattle.rules.specs.Number.{leading_zero}
use Rattle.text.proofs.Digits.{number_short, number_long, number_zero, number_is}
use Rattle.text.proofs.number.read_number.Goals as goal

pub returns-then-is_empty : goal.returns-then-is_empty
returns-then-is_empty c = grind (arith, nat_tests, number_short, number_long)

pub returns-then-s-eq48 : goal.returns-then-s-eq48
returns-then-s-eq48 c = sym (number_zero c.args.s.now c.if-s-gt1.true c.if-s-eq48.true)

pub returns : goal.returns
unfolding leading_zero
returns c = c.digits.ensures ∙ number_is c.args.s.now (grind (arith, nat_tests)) (omega arith) (grind (arith, nat_tests))
