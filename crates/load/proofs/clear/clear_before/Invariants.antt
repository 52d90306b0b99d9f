-- The loop of `clear_before`: the invariant is the definition at the ticks passed.
use Prim.Native.Nat.{◌-◌, ◌≤◌}
use mathlib.Core.Path.{◌≡◌}
use Rattle.load.specs.Loads.{number_at}
use Rattle.load.specs.Clear.{fits, clear_since}
use Rattle.load.proofs.clear.clear_before.Given as goal

abbrev pub invariant-loop-t : goal.invariant-loop-t
invariant-loop-t l = (l.t ≤ l.to) × (l.since ≡ clear_since (fits (number_at l.loads) l.weight l.limit) l.t)

abbrev pub decreases-loop-t : goal.decreases-loop-t
decreases-loop-t l = l.to - l.t
