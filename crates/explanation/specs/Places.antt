-- The text of an accepted plan: for each place, where its activity is placed and where it could be, or each letter of its refusal with the starts that meet the rest.
use Rattle.std.specs.Prelude.{ℕ, zero, suc, ◌-◌, ◌^◌, cond, List, [], ◌∷◌, ◌++◌, length, get_or}
use Rattle.rules.specs.Bytes.{bytes}
use Rattle.rules.specs.Number.{decimal}
use Rattle.rules.specs.Plan.{Activity, Plan, end, at}
use Rattle.rules.specs.Conditions.{condition_count, all_conditions, condition_letters, has, letters_of}
use Rattle.rules.specs.Outcomes.{activity_at, outcome}
use Rattle.rules.specs.Calls.{runs}
use Rattle.rules.specs.declared.Interval.{Interval}
use Rattle.rules.specs.declared.Outcome.{Outcome}
use Rattle.rules.specs.declared.Outcome.TheVariants.{Placed, Refused}
use Rattle.wording.specs.Words.{condition_words}
use Rattle.wording.specs.Writing.{together}

-- a run of starts, from its first to its last
unfoldable pub run_text : Interval → List ℕ
run_text r = together (bytes " " ∷ decimal r.first ∷ bytes "-" ∷ decimal r.last ∷ [])

unfoldable pub run_texts : List Interval → List ℕ
run_texts [] = []
run_texts (r ∷ rs) = run_text r ++ run_texts rs

-- all runs; " none" where there is none
unfoldable pub runs_text : List Interval → List ℕ
runs_text [] = bytes " none"
runs_text (r ∷ rs) = run_texts (r ∷ rs)

-- a line of runs behind these words
unfoldable pub runs_line : List ℕ → List Interval → List ℕ
runs_line words rs = together (words ∷ runs_text rs ∷ bytes "\n" ∷ [])

-- a letter and what it asks
unfoldable pub letter_line : ℕ → List ℕ
letter_line c = together (bytes "  " ∷ (get_or condition_letters c 0 ∷ []) ∷ bytes ": " ∷ condition_words c ∷ bytes "\n" ∷ [])

-- the runs of starts that meet a set of conditions are given by the set
module _ (runsOf : ℕ → List Interval) where
  -- letter c of the refusal m: what it asks, and the starts that meet the rest, first of the letters, then of all conditions
  unfoldable pub letter_text : ℕ → ℕ → List ℕ
  letter_text m c =
      together (
      letter_line c
      ∷ runs_line (bytes "    starts that meet the other letters:") (runsOf (m - 2 ^ c))
      ∷ runs_line (bytes "    starts that meet all other conditions:") (runsOf (all_conditions - 2 ^ c))
      ∷ [])

  -- the letters of m among the first n
  unfoldable pub letter_texts : ℕ → ℕ → List ℕ
  letter_texts m zero = []
  letter_texts m (suc c) = letter_texts m c ++ cond (has m c) (letter_text m c) []

  unfoldable pub outcome_text : Activity → Outcome → List ℕ
  outcome_text a (Placed s) =
      together (
      bytes "placed from "
      ∷ decimal s
      ∷ bytes " to "
      ∷ decimal (end (at a s))
      ∷ bytes "\n"
      ∷ runs_line (bytes "  valid starts:") (runsOf all_conditions)
      ∷ [])
  outcome_text a (Refused m) = together (bytes "refused " ∷ letters_of m ∷ bytes "\n" ∷ letter_texts m condition_count ∷ [])

unfoldable pub place_text : Plan → ℕ → List ℕ
place_text p k =
    together (
    bytes "place "
    ∷ decimal k
    ∷ bytes ", activity "
    ∷ decimal (activity_at p k).id
    ∷ bytes ": "
    ∷ outcome_text (runs p k) (activity_at p k) (outcome p k)
    ∷ [])

-- the first k places
unfoldable pub place_texts : Plan → ℕ → List ℕ
place_texts p zero = []
place_texts p (suc k) = place_texts p k ++ place_text p k

unfoldable pub accepted_text : Plan → List ℕ
accepted_text p =
    let n = length p.activities in
    together (bytes "accepted, activities: " ∷ decimal n ∷ bytes "\n" ∷ place_texts p n ∷ [])
