-- The loop of `fill`: the invariant is the table of the conditions passed.
use Prim.Native.Nat.{ℕ, ◌-◌, ◌≤◌}
use mathlib.Core.Path.{◌≡◌}
use lib.ListN.{length, get_or}
use Rattle.rules.specs.Plan.{Schedule}
use Rattle.rules.specs.Conditions.{all_conditions, meets}
use Rattle.activity.specs.View.{header_view, activity_view}
use Rattle.sets.proofs.Stage.{Stage}
use Rattle.conditions.specs.Ready.{Beside}
use Rattle.conditions.proofs.fill.Given as goal

abbrev pub invariant-loop-c : goal.invariant-loop-c
invariant-loop-c l = (l.c ≤ 9) × (length l.table ≡ 4096) × ((k : ℕ) → get_or l.table k 0 ≤ all_conditions) × ((placed : Schedule) → Beside l.header l.candidate l.placed.rows l.placed.count placed → Stage (meets (header_view l.header) placed (activity_view l.candidate)) l.count l.c l.table)

abbrev pub decreases-loop-c : goal.decreases-loop-c
decreases-loop-c l = 9 - l.c
