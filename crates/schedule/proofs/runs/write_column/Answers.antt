-- `write_column` meets its contract.
use Rattle.std.proofs.Common.{◌≡◌, refl, ◌∙◌, length, length-set}
use Rattle.rules.specs.Runs.{runs_from}
use Rattle.rules.specs.Calls.{slice_after}
use Rattle.schedule.specs.Search.{meets_in}
use Rattle.schedule.proofs.Columns.{dropped_more, written_more, written_all}
use Rattle.schedule.proofs.runs.write_column.Goals as goal

pub loop-i-init : goal.loop-i-init
unfolding slice_after
loop-i-init g c =
    let all = runs_from (meets_in c.args.table.now.sets.now c.args.set) 0 (length c.args.table.now.sets.now) in
    let none : c.into_iter-i-iterator.result.count ≡ 0 = (cc) in
    let left : all ≡ c.into_iter-i-iterator.result.iter = (cc) in
    rw none (left, refl, (λ taken h. refl))

pub returns : goal.returns
returns g c = λ taken h. let at = c.loop-i.invariant in written_all _ _ _ _ _ (at.0 ∙ c.in-None.ensures.steps.0.0) (at.2 taken h)

pub loop-i-preserved : goal.loop-i-preserved
loop-i-preserved g c =
    let at = c.loop-i.invariant in
    let all = runs_from (meets_in c.args.table.now.sets.now c.args.set) 0 (length c.args.table.now.sets.now) in
    let step = c.in-Some.ensures.steps in
    let next = at.0 ∙ step.0 in
    rw (step.1, step.2) (
      dropped_more c.loop-i.i-iterator.count all _ _ next,
      length-set _ _ _ ∙ at.1,
      λ taken h. rw (h _ _ c.column.ensures) (written_more c.loop-i.i-iterator.count all _ _ next taken _ _ c.requires.room (at.2 taken h)),
    )
