-- The loop of `mark_clear`: the invariant has the tick from which the weight fits in all ticks passed.
use Prim.Native.Nat.{◌+◌, ◌-◌, ◌≤◌}
use mathlib.Core.Path.{◌≡◌}
use Rattle.load.specs.Loads.{number_at}
use Rattle.load.specs.Clear.{fits, clear_for, clear_since}
use Rattle.sets.specs.Table.{Marked}
use Rattle.load.proofs.clear.mark_clear.Given as goal

abbrev pub invariant-loop-s : goal.invariant-loop-s
invariant-loop-s l = (l.s ≤ l.count) × (l.since ≡ clear_since (fits (number_at l.loads) l.weight l.limit) (l.s + l.last)) × Marked (clear_for (fits (number_at l.loads) l.weight l.limit) l.duration) l.by l.s l.initial.table l.table

abbrev pub decreases-loop-s : goal.decreases-loop-s
decreases-loop-s l = l.count - l.s
