-- What placing needs of a plan.
use Rattle.std.specs.Prelude.{ℕ, ◌<◌, ◌≤◌, ◌≡◌, length}
use Rattle.rules.specs.Plan.{Plan}
use Rattle.rules.specs.Order.{order}
use Rattle.rules.specs.WellFormed.{HeaderFormed, ActivityFormed, Reachable}
use Rattle.rules.specs.Outcomes.{activity_at}

-- its activities are few, in their bounds and by place, and the handover charge can be reached
pub record Placeable (p : Plan) : Type 0 where
  pub few : length p.activities ≤ 64
  pub header : HeaderFormed p.header
  pub each : (k : ℕ) → k < length p.activities → ActivityFormed p.header (activity_at p k)
  pub ordered : order p.activities ≡ p.activities
  pub reachable : Reachable p
