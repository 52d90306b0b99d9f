-- `step` meets its contract: the sum and the difference fit.
use Rattle.std.proofs.Common.{◌≡◌, ◌∙◌, pos, to_z, of_z, w64, arith}
use Rattle.std.specs.Int.{int_min}
use Rattle.std.proofs.lemmas.Int.{ints}
use mir.Facts.{to_z-of_z}
use Rattle.charge.specs.Charge.{charge_next}
use Rattle.charge.proofs.Step.{read_next, min_smaller}
use Rattle.charge.proofs.run.step.Goals as goal

pub returns : goal.returns
unfolding charge_next
returns c =
    let a = c.args in
    let capacity : to_z w64 (of_z w64 (pos a.capacity)) ≡ pos a.capacity = omega (arith, ints) in
    let next = read_next a.c a.rate a.draw c.requires.charge_bound.0 c.requires.charge_bound.1 c.ranges.rate.fits (omega arith) in
    to_z-of_z {w = w64} (record { sfits = c.min.type_inv }) ∙ c.min.ensures.value ∙ rw (c.from.ensures, c.from-2.ensures) ((λ i. int_min (capacity i) (next i)) ∙ min_smaller _ _)
