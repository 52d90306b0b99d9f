-- The value of a variable that stands at a tick, by the rows; a value as its code, one more than it.
use Rattle.std.specs.Prelude.{ℕ, zero, suc, cond, ◌&&◌, not, List, leb, eqb}
use Rattle.placed.specs.declared.row.Row.{Row}
use Rattle.placed.specs.Tables.{end_at, set_at}
use Rattle.state.specs.declared.standing.StandingValue.{StandingValue}

-- the value that stands at tick t with one more set, in effect from `end`: over b, unless b took effect later
unfoldable pub later_value : ℕ → ℕ → ℕ → StandingValue → StandingValue
later_value end code t b = cond (not (eqb code 0) && leb end t && leb b.since end) (record { since = end; code = code }) b

-- the value of v that stands at tick t by the sets of the first n rows; a variable is 0 at tick 0
unfoldable pub standing_by : List Row → ℕ → ℕ → ℕ → StandingValue
standing_by rows v t zero = record { since = 0; code = 1 }
standing_by rows v t (suc n) = later_value (end_at rows n) (set_at rows n v) t (standing_by rows v t n)
