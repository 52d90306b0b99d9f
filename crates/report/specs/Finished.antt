-- The rows of a finished schedule, as far as the end line needs them.
use Rattle.std.specs.Prelude.{ℕ, List}
use Rattle.rules.specs.Plan.{Schedule}
use Rattle.activity.specs.View.{header_view}
use Rattle.activity.specs.declared.Header.{Header as HeaderStruct}
use Rattle.placed.specs.Held.{TicksAt, AmountsAt, Rows, Reached}
use Rattle.placed.specs.Bounds.{AmountsBounded}
use Rattle.placed.specs.declared.row.Row.{Row}

-- the first n rows say the schedule, which the planner can have reached
pub record RowsSay (h : HeaderStruct) (rows : List Row) (n : ℕ) (placed : Schedule) : Type 0 where
  pub said : Rows (λ i e. TicksAt (header_view h) rows i e × AmountsAt rows i e.activity) n placed
  pub reached : Reached (header_view h) placed

-- they say some schedule, of bounded amounts
pub record Finished (h : HeaderStruct) (rows : List Row) (n : ℕ) : Type 0 where
  pub amounts_bounded : AmountsBounded rows n
  pub placed : Schedule
  pub say : RowsSay h rows n placed
