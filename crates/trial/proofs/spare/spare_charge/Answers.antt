-- `spare_charge` meets its contract: what a charge is over a limit fits.
use Rattle.std.proofs.Common.{◌≡◌, ◌∙◌, pos, ◌-ℤ◌, to_z, of_z, w64, arith}
use Rattle.std.specs.Int.{int_min}
use Rattle.std.proofs.lemmas.Int.{ints}
use mir.Facts.{to_z-of_z}
use Rattle.charge.proofs.Step.{min_smaller}
use Rattle.trial.specs.Trial.{spare_of}
use Rattle.trial.proofs.Spared.{over_limits}
use Rattle.trial.proofs.spare.spare_charge.Goals as goal

pub overflow_sub-over_floor : goal.overflow_sub-over_floor
overflow_sub-over_floor c = omega (arith, ints, over_limits c.args.header c.args.projection c.requires)

pub overflow_sub-over_handover : goal.overflow_sub-over_handover
overflow_sub-over_handover c = omega (arith, ints, over_limits c.args.header c.args.projection c.requires)

pub returns : goal.returns
unfolding spare_of
returns c =
    let h = c.args.header in
    let p = c.args.projection in
    let k = over_limits h p c.requires in
    let low : to_z w64 (of_z w64 (to_z w64 (of_z w64 p.lowest) -ℤ to_z w64 (of_z w64 c.from.result))) ≡ p.lowest -ℤ pos h.floor = omega (arith, ints, k) in
    let last : to_z w64 (of_z w64 (to_z w64 (of_z w64 p.last) -ℤ to_z w64 (of_z w64 c.from-2.result))) ≡ p.last -ℤ pos h.handover = omega (arith, ints, k) in
    to_z-of_z {w = w64} (record { sfits = c.min.type_inv }) ∙ c.min.ensures.value ∙ (λ i. int_min (low i) (last i)) ∙ min_smaller _ _
