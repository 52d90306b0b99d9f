-- `write_runs` meets its contract.
use Rattle.std.proofs.Common.{◌≡◌, refl, ◌∙◌, length}
use Rattle.rules.specs.Runs.{runs_from}
use Rattle.rules.specs.Calls.{slice_after}
use Rattle.schedule.specs.Search.{meets_in}
use Rattle.schedule.proofs.Columns.{dropped_more, written_more, written_all}
use Rattle.schedule.proofs.runs.write_runs.Goals as goal

pub loop-i-init : goal.loop-i-init
unfolding slice_after
loop-i-init c =
    let all = runs_from (meets_in c.args.table.now.sets.now c.args.set) 0 (length c.args.table.now.sets.now) in
    let none : c.into_iter-i-iterator.result.count ≡ 0 = (cc) in
    let left : all ≡ c.into_iter-i-iterator.result.iter = (cc) in
    rw none (left, refl, refl)

pub loop-i-preserved : goal.loop-i-preserved
loop-i-preserved c =
    let at = c.loop-i.invariant in
    let all = runs_from (meets_in c.args.table.now.sets.now c.args.set) 0 (length c.args.table.now.sets.now) in
    let step = c.in-Some.ensures.steps in
    let next = at.0 ∙ step.0 in
    rw (step.1, step.2) (
      dropped_more c.loop-i.i-iterator.count all _ _ next,
      written_more c.loop-i.i-iterator.count all _ _ next (λ r. r.first) _ _ c.requires.firsts_room at.1,
      written_more c.loop-i.i-iterator.count all _ _ next (λ r. r.last) _ _ c.requires.lasts_room at.2,
    )

pub returns-clause-firsts : goal.returns-clause-firsts
returns-clause-firsts c = let at = c.loop-i.invariant in written_all _ _ _ _ _ (at.0 ∙ c.in-None.ensures.steps.0.0) at.1

pub returns-clause-lasts : goal.returns-clause-lasts
returns-clause-lasts c = let at = c.loop-i.invariant in written_all _ _ _ _ _ (at.0 ∙ c.in-None.ensures.steps.0.0) at.2
