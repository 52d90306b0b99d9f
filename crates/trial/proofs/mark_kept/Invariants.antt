-- The loop of `mark_kept`: the starts below s are marked.
use Rattle.sets.specs.Table.{Marked}
use Rattle.charge.specs.Charge.{at_tick}
use Rattle.trial.specs.Trial.{kept_at}
use Rattle.trial.proofs.mark_kept.Given as goal

abbrev pub invariant-loop-s : goal.invariant-loop-s
invariant-loop-s l =
    Marked (kept_at l.drawn.header (at_tick l.drawn.draws.now) l.duration l.draw l.warm) l.by l.s l.initial.table l.table
