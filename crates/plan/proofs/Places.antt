-- Laws of a plan's places, for callers: how many there are, and what the activity of each is.
-- Assumes nothing.
use Rattle.std.proofs.Common.{◌≡◌, ◌<◌, ℕ, length, slice_index_or}
use Rattle.std.proofs.lemmas.List.{length-map, get_or-map}
use Rattle.rules.specs.Outcomes.{activity_at, no_activity}
use Rattle.activity.specs.View.{header_view}
use Rattle.order.specs.declared.Line.{Line}
use Rattle.plan.specs.Said.{said_by}
use Rattle.plan.specs.View.{plan_view}
use Rattle.plan.specs.Placeable.{Placeable}
use Rattle.plan.specs.declared.Plan.{Plan as PlanStruct}

-- a plan that is held can be placed
pub placeable : (p : PlanStruct) → Placeable (plan_view p)
unfolding plan_view
placeable p = p.is_placeable

pub place_count : (p : PlanStruct) → length (plan_view p).activities ≡ length p.lines
unfolding plan_view
place_count p = length-map p.lines (said_by (header_view p.header) p.bytes.now)

place_at : (p : PlanStruct) (k : ℕ) (d : Line) → k < length p.lines → slice_index_or (plan_view p).activities k no_activity ≡ said_by (header_view p.header) p.bytes.now (slice_index_or p.lines k d)
unfolding plan_view
place_at p k d h = get_or-map (said_by (header_view p.header) p.bytes.now) p.lines k d no_activity h

pub place_is : (p : PlanStruct) (k : ℕ) (d : Line) → k < length p.lines → activity_at (plan_view p) k ≡ said_by (header_view p.header) p.bytes.now (slice_index_or p.lines k d)
unfolding activity_at
place_is p k d h = rw (placeable p).ordered (place_at p k d h)
