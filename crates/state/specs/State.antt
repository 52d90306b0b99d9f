-- The test of S over the rows: row n is the candidate's, the rows before it are those of the placed.
use Rattle.std.specs.Prelude.{ℕ, ◌+◌, Bool, ◌&&◌, List, length}
use Rattle.placed.specs.declared.row.Row.{Row}
use Rattle.placed.specs.Tables.{end_at}
use Rattle.state.specs.declared.judged.Judged.{Judged}
use Rattle.state.specs.Own.{own_met}
use Rattle.state.specs.Spoils.{spoil_at, placed_met}
use Rattle.state.specs.Judging.{end_in, spoil_in}

-- all needs are met with the candidate at the start s, of the placed those of these entries
unfoldable pub needs_met : List Row → ℕ → List Judged → ℕ → ℕ → Bool
needs_met rows n entries duration s = own_met rows n s (s + duration) && placed_met (spoil_in entries) (end_in entries) (length entries) (s + duration)

-- with those of all rows
unfoldable pub state_met : List Row → ℕ → ℕ → ℕ → Bool
state_met rows n duration s = own_met rows n s (s + duration) && placed_met (spoil_at rows n) (end_at rows) n (s + duration)
