-- The places of a plan: what is placed at the first ones, and their answers, as the code holds them.
use Rattle.std.specs.Prelude.{ℕ, ◌<◌, ◌≤◌, ◌≡◌, List, get_or}
use Rattle.rules.specs.Conditions.{meets}
use Rattle.rules.specs.Outcomes.{starts, activity_at, placed, outcome}
use Rattle.rules.specs.declared.Outcome.TheVariants.{Placed}
use Rattle.plan.specs.View.{plan_view}
use Rattle.plan.specs.declared.Plan.{Plan as PlanStruct}
use Rattle.placed.specs.Held.{Held, Reached}
use Rattle.sets.specs.Table.{Table}
use Rattle.placing.specs.declared.next.Placing.{Placing}

-- the first k places are answered, and what they place is placed
pub record PlacedTo (p : PlanStruct) (k : ℕ) (x : Placing) : Type 0 where
  pub held : Held (plan_view p).header x.placed.rows x.placed.count (placed (plan_view p) k)
  pub few : x.placed.count ≤ k
  pub reached : Reached (plan_view p).header (placed (plan_view p) k)
  pub answered : (i : ℕ) → i < k → get_or x.answers i (Placed 0) ≡ outcome (plan_view p) i

-- the table has the sets of conditions that the starts of the activity at place k meet, beside those placed at earlier places
abbrev pub TableAt : PlanStruct → ℕ → List ℕ → Type 0
TableAt p k table =
    Table (meets (plan_view p).header (placed (plan_view p) k) (activity_at (plan_view p) k)) (starts (plan_view p).header (activity_at (plan_view p) k)) table
