-- `keeps_charge` meets its contract: an activity that draws no more than can be spared keeps the limits, and the trial judges any other.
use Rattle.std.proofs.Common.{rules, ◌≡◌, sym, ◌∙◌, pos, ◌≤ℤ◌, to_z, w64, arith}
use Rattle.std.proofs.lemmas.Int.{ints}
use mir.Val.{SFits}
use mir.Facts.{to_z-of_z}
use Rattle.charge.specs.Charge.{own_view, at_tick}
use Rattle.rules.proofs.Signed.{le_z_true}
use Rattle.trial.proofs.Spared.{spare_kept}
use Rattle.trial.proofs.keeps_charge.Goals as goal

pub returns-then-energy-base : goal.returns-then-energy-base
returns-then-energy-base c =
    let base = c.args.base.now in
    let h = base.drawn.header in
    let f : SFits w64 base.spare = search rules in
    let energy : to_z w64 c.energy.result ≡ pos c.energy.result = omega (arith, ints) in
    let l : pos c.energy.result ≤ℤ base.spare = le_z_true (rw (energy, to_z-of_z f) at c.if-energy-base.true) in
    c.if-energy-base.true ∙ sym (spare_kept h (at_tick base.drawn.draws.now) (own_view c.args.own) c.args.own.heat_le_start c.args.own.start_le_end (rw (← c.energy.ensures.value, ← base.spared) l))
