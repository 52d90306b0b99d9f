-- What is judged of each entry, as the code holds it for all starts of a candidate.
use Rattle.std.specs.Prelude.{ℕ, ◌<◌, ◌≡◌, Bool, List, [], ltb, length, get_or}
use Rattle.rules.specs.Tests.{ever}
use Rattle.placed.specs.declared.row.Row.{Row}
use Rattle.placed.specs.Tables.{end_at}
use Rattle.placed.specs.Bounds.{never}
use Rattle.state.specs.declared.judged.Judged.{Judged}
use Rattle.state.specs.Own.{code_at_end}
use Rattle.state.specs.Spoils.{spoil_at}

-- what stands beyond the end of a list
abbrev pub no_judged : Judged
no_judged = record { end = 0; codes = []; spoils = [] }

-- number p of them, its end, and the first ticks that spoil its needs
abbrev pub judged_in : List Judged → ℕ → Judged
judged_in entries p = get_or entries p no_judged

abbrev pub end_in : List Judged → ℕ → ℕ
end_in entries p = (judged_in entries p).end

abbrev pub spoil_in : List Judged → ℕ → ℕ → ℕ
spoil_in entries p j = get_or (judged_in entries p).spoils j 0

-- a need of the entry can be spoilt
abbrev pub can_be_spoilt : Judged → Bool
can_be_spoilt entry = ever (λ j. ltb (get_or entry.spoils j 0) never) 4

-- it is that of row p
pub record JudgedAt (rows : List Row) (n p : ℕ) (entry : Judged) : Type 0 where
  pub ends : entry.end ≡ end_at rows p
  pub codes : (j : ℕ) → j < 4 → get_or entry.codes j 0 ≡ code_at_end rows n j p
  pub spoils : (j : ℕ) → j < 4 → get_or entry.spoils j 0 ≡ spoil_at rows n p j

-- those of the first n rows
pub record JudgedRight (rows : List Row) (n : ℕ) (entries : List Judged) : Type 0 where
  pub size : length entries ≡ n
  pub at : (p : ℕ) → p < n → JudgedAt rows n p (judged_in entries p)
