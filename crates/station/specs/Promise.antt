-- Demand 3 (00) over what the library answers: r is returned, and a slice `lent` left as `after`, as the exported functions' contracts say (Exported).
use Rattle.std.specs.Prelude.{ℕ, ◌<◌, ◌≤◌, ◌≡◌, List, [], ◌∷◌, length}
use Rattle.rules.specs.Plan.{Plan}
use Rattle.rules.specs.Reading.{accepted, refused, reading}
use Rattle.rules.specs.Conditions.{all_conditions}
use Rattle.rules.specs.Calls.{Filled, refusal, full, outcome_values, slice_after, report_call, starts_call}
use Rattle.rules.specs.Demand.{report_by, RunsBy, RightAnswers}
use Rattle.rules.specs.declared.Outcome.{Outcome}
use Rattle.rules.specs.Refusals.{Refusal}
use Rattle.rules.specs.declared.Interval.{Interval}
use Rattle.packing.specs.Packing.{outcome_in, count_in}
use Rattle.station.specs.Exported.{OutcomeExported, Exported}

-- a call that fills a slice with xs answers their count and writes them, and what stands behind remains; a slice too short for them is refused with 10 and remains
pub record Writes {A : Type 0} (call : ℕ → Filled A) (xs : List A) : Type 0 where
  pub written : (lent after : List A) (r : ℕ) → Exported (call (length lent)) lent r after → length xs ≤ length lent → (count_in r ≡ full (length xs ∷ [])) × (after ≡ slice_after xs lent)
  pub short : (lent after : List A) (r : ℕ) → Exported (call (length lent)) lent r after → length lent < length xs → (count_in r ≡ refusal 10 0) × (after ≡ lent)

-- a call answers the refusal of this number and line, and the slice remains
abbrev pub Refuses : {A : Type 0} → (ℕ → Filled A) → ℕ → ℕ → Type 0
Refuses {A} call number line = (lent after : List A) (r : ℕ) → Exported (call (length lent)) lent r after → (count_in r ≡ refusal number line) × (after ≡ lent)

-- where the bytes are accepted as the plan p
pub record Answered (s : List ℕ) (p : Plan) : Type 0 where
  -- the answers at the places of the plan, all of them right: demand 3
  pub answers : ℕ → Outcome
  pub right : RightAnswers p answers
  -- outcome gives the answer at each place, and refuses a place beyond them
  pub outcome : (k r : ℕ) → OutcomeExported s k r → k < length p.activities → outcome_in r ≡ full (outcome_values (answers k))
  pub beyond : (k r : ℕ) → OutcomeExported s k r → length p.activities ≤ k → outcome_in r ≡ refusal 11 0
  -- report writes the report that the answers make
  pub report : Writes (report_call s) (report_by p answers)
  -- starts writes the runs of starts beside those that the answers place before the place
  pub runs : (k m : ℕ) → k < length p.activities → m ≤ all_conditions → (rs : List Interval) × RunsBy p answers k m rs × (length rs ≤ 2048) × Writes (starts_call s k m) rs
  -- it refuses a place beyond the last with 11, then a set beyond all conditions with 12
  pub no_place : (k m : ℕ) → length p.activities ≤ k → Refuses (starts_call s k m) 11 0
  pub no_set : (k m : ℕ) → k < length p.activities → all_conditions < m → Refuses (starts_call s k m) 12 0

-- where they are refused as q, every call answers q and nothing is written
pub record RefusedAs (s : List ℕ) (q : Refusal) : Type 0 where
  pub outcome : (k r : ℕ) → OutcomeExported s k r → outcome_in r ≡ refusal q.number q.line
  pub report : Refuses (report_call s) q.number q.line
  pub starts : (k m : ℕ) → Refuses (starts_call s k m) q.number q.line

-- for every byte string
pub record Promise (s : List ℕ) : Type 0 where
  pub accepted_as : (p : Plan) → reading s ≡ accepted p → Answered s p
  pub refused_as : (q : Refusal) → reading s ≡ refused q → RefusedAs s q
