-- When the activities that a candidate comes after have ended, by the rows of the placed.
use Rattle.std.specs.Prelude.{ℕ, zero, suc, ◌≤◌, ◌≡◌, min, max, cond, List, Option, None, Some, eqb, get_or}
use Rattle.placed.specs.declared.row.Row.{Row}
use Rattle.placed.specs.Tables.{id_at, end_at}
use Rattle.placed.specs.Bounds.{never}

-- the earliest end of the first n rows of this id; what is not placed never ends
unfoldable pub first_end : List Row → ℕ → ℕ → ℕ
first_end rows id zero = never
first_end rows id (suc n) = min (cond (eqb (id_at rows n) id) (end_at rows n) never) (first_end rows id n)

-- the first start by which the first `count` of these ids have each ended
unfoldable pub ready_from : List Row → ℕ → List ℕ → ℕ → ℕ
ready_from rows n ids zero = 0
ready_from rows n ids (suc count) = max (first_end rows (get_or ids count 0) n) (ready_from rows n ids count)

-- an answer of the code says the tick t; ticks past every end are as none
abbrev pub IsReady : ℕ → Option ℕ → Type 0
IsReady t None = never ≤ t
IsReady t (Some r) = min r never ≡ min t never
