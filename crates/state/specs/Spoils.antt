-- The test of the needs of the placed: the ticks of effect at which the candidate's sets, which row n says, spoil them.
use Rattle.std.specs.Prelude.{ℕ, Bool, cond, ◌&&◌, not, List, leb, ltb, eqb, get_or}
use Rattle.rules.specs.Tests.{each}
use Rattle.placed.specs.declared.need.Need.{Need}
use Rattle.placed.specs.declared.row.Row.{Row}
use Rattle.placed.specs.Tables.{no_need, row_in, start_at, set_at}
use Rattle.placed.specs.Bounds.{never}
use Rattle.state.specs.Standing.{standing_by}

-- a set can spoil a need: both are there, and of different values
unfoldable pub can_spoil : ℕ → ℕ → Bool
can_spoil code need = not (eqb code 0) && not (eqb need 0) && not (eqb code need)

-- the first tick of effect at which the candidate's sets spoil a need of an activity that starts at `start`: that from which another set stands there
unfoldable pub spoils_from : List Row → ℕ → Need → ℕ → ℕ
spoils_from rows n need start = cond (can_spoil (set_at rows n need.variable) need.code) (standing_by rows need.variable start n).since never

-- of need number j of row p
abbrev pub spoil_at : List Row → ℕ → ℕ → ℕ → ℕ
spoil_at rows n p j = spoils_from rows n (get_or (row_in rows p).needs j no_need) (start_at rows p)

-- the tick of effect e is in the range that spoils a need of an activity that ends at `end`
unfoldable pub spoilt_by : ℕ → ℕ → ℕ → Bool
spoilt_by from end e = leb from e && ltb e end

-- no need of the first n rows is spoilt, four to a row, by the first ticks that `spoil` says
unfoldable pub placed_met : (ℕ → ℕ → ℕ) → (ℕ → ℕ) → ℕ → ℕ → Bool
placed_met spoil ends n e = each (λ p. each (λ j. not (spoilt_by (spoil p j) (ends p) e)) 4) n
