-- `put_if_placed` meets its contract.
use Rattle.rules.specs.Outcomes.{added}
use Rattle.placed.proofs.Filling.{held_more}
use Rattle.placing.proofs.next.put_if_placed.Goals as goal

pub returns-in-Placed-clause-held : goal.returns-in-Placed-clause-held
unfolding added
returns-in-Placed-clause-held c =
    let w = c.put_start.ensures in
    λ before C H. rw (c.in-Placed.is, w.counted) (held_more _ _ _ _ _ before w.same_below w.ticks_at (w.candidate_at _ C) H)

pub returns-in_default-clause-held : goal.returns-in_default-clause-held
unfolding added
returns-in_default-clause-held c = λ before C H. rw c.in_default.is H
