-- The test of the candidate's own needs, which row n says: at its start, and wherever a placed activity ends inside it.
use Rattle.std.specs.Prelude.{ℕ, suc, Bool, cond, ◌&&◌, not, List, leb, ltb, eqb, get_or}
use Rattle.rules.specs.Tests.{each}
use Rattle.placed.specs.declared.need.Need.{Need}
use Rattle.placed.specs.declared.row.Row.{Row}
use Rattle.placed.specs.Tables.{no_need, row_in, end_at, need_variable_at, need_code_at}
use Rattle.state.specs.Standing.{standing_by}

-- a tick at which a need is judged: the end of a placed activity, and the start
unfoldable pub change_at : List Row → ℕ → ℕ → ℕ → ℕ
change_at rows n k start = cond (ltb k n) (end_at rows k) start

-- need number j is unmet at the tick number k, which is before `end` and not before `start`
unfoldable pub unmet_at : List Row → ℕ → ℕ → ℕ → ℕ → ℕ → Bool
unmet_at rows n j start end k =
    let t = change_at rows n k start in leb start t && ltb t end && not (eqb (standing_by rows (need_variable_at rows n j) t n).code (need_code_at rows n j))

-- at how many ticks it is judged: at none where there is no such need
unfoldable pub judged : List Row → ℕ → ℕ → ℕ
judged rows n j = cond (eqb (need_code_at rows n j) 0) 0 (suc n)

-- no need is unmet at any of the ticks
unfoldable pub own_met : List Row → ℕ → ℕ → ℕ → Bool
own_met rows n start end = each (λ j. each (λ k. not (unmet_at rows n j start end k)) (judged rows n j)) 4

-- the code that stands, at tick t, of the variable of a need; 0 where there is no such need
unfoldable pub code_of_need : List Row → ℕ → Need → ℕ → ℕ
code_of_need rows n need t = cond (eqb need.code 0) 0 (standing_by rows need.variable t n).code

-- that of need number j
abbrev pub code_standing : List Row → ℕ → ℕ → ℕ → ℕ
code_standing rows n j t = code_of_need rows n (get_or (row_in rows n).needs j no_need) t

-- at the end of row k
abbrev pub code_at_end : List Row → ℕ → ℕ → ℕ → ℕ
code_at_end rows n j k = code_standing rows n j (end_at rows k)
