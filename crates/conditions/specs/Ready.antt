-- What is placed, as the rows say it, and a candidate in the row behind: true of every accepted plan, and kept by the placing loop.
use Rattle.std.specs.Prelude.{ℕ, ◌<◌, List}
use Rattle.rules.specs.Plan.{Schedule}
use Rattle.rules.specs.WellFormed.{ActivityFormed}
use Rattle.activity.specs.View.{header_view, activity_view}
use Rattle.activity.specs.declared.Header.{Header as HeaderStruct}
use Rattle.activity.specs.declared.Activity.{Activity as ActivityStruct}
use Rattle.placed.specs.declared.row.Row.{Row}
use Rattle.placed.specs.Held.{CandidateAt, Held, Reached}

-- the rows say the schedule, and row n the candidate
pub record Beside (h : HeaderStruct) (a : ActivityStruct) (rows : List Row) (n : ℕ) (placed : Schedule) : Type 0 where
  pub few : n < 64
  pub held : Held (header_view h) rows n placed
  pub row : CandidateAt rows n (activity_view a)
  pub reached : Reached (header_view h) placed
  pub candidate : ActivityFormed (header_view h) (activity_view a)

-- they say some schedule
abbrev pub Ready : HeaderStruct → ActivityStruct → List Row → ℕ → Type 0
Ready h a rows n = (placed : Schedule) × Beside h a rows n placed
