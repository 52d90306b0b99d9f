-- The three calls (01, Calls): each takes the plan's bytes; "Then 7, least place first; then 9, 11, 12, 10".
use Rattle.std.specs.Prelude.{ℕ, cond, List, [], ◌∷◌, ◌++◌, leb, ltb, length, drop, Result, Ok, Err}
use Rattle.rules.specs.Plan.{Plan}
use Rattle.rules.specs.Refusals.{number_of}
use Rattle.rules.specs.Conditions.{all_conditions, meets, meets_set}
use Rattle.rules.specs.Outcomes.{starts, activity_at, placed, outcome}
use Rattle.rules.specs.Reading.{Reading, accepted, refused, reading}
use Rattle.rules.specs.Runs.{runs_from}
use Rattle.rules.specs.Report.{report}
use Rattle.rules.specs.declared.Outcome.{Outcome}
use Rattle.rules.specs.declared.Outcome.TheVariants.{Placed, Refused}
use Rattle.rules.specs.declared.Interval.{Interval}
use Rattle.rules.specs.declared.Refusal.{Refusal as RefusalStruct}

-- an answer in document 01's terms: the number and line of its refusal, 0 and 0 where there is none, and the values of the full result
pub record Terms : Type 0 where
  pub number : ℕ
  pub line : ℕ
  pub values : List ℕ

abbrev pub refusal : ℕ → ℕ → Terms
refusal k n = record { number = k; line = n; values = [] }

abbrev pub full : List ℕ → Terms
full vs = record { number = 0; line = 0; values = vs }

-- placed: 1 and the start; refused: 0 and the set of its conditions
unfoldable pub outcome_values : Outcome → List ℕ
outcome_values (Placed s) = 1 ∷ s ∷ []
outcome_values (Refused m) = 0 ∷ m ∷ []

unfoldable pub outcome_terms : Result Outcome RefusalStruct → Terms
outcome_terms (Ok o) = full (outcome_values o)
outcome_terms (Err r) = refusal (number_of r.fault) r.line

unfoldable pub count_terms : Result ℕ RefusalStruct → Terms
count_terms (Ok n) = full (n ∷ [])
count_terms (Err r) = refusal (number_of r.fault) r.line

-- *Outcome*: a place
unfoldable pub outcome_of : Reading → ℕ → Terms
outcome_of (refused r) k = refusal r.number r.line
outcome_of (accepted p) k = cond (leb (length p.activities) k) (refusal 11 0) (full (outcome_values (outcome p k)))

unfoldable pub outcome_call : List ℕ → ℕ → Terms
outcome_call s k = outcome_of (reading s) k

-- a call's answer, and what it writes at the front of the slice lent to it
pub record Filled (A : Type 0) : Type 0 where
  pub terms : Terms
  pub written : List A

-- a lent slice after the call: "Bytes and records behind the answer remain"
unfoldable pub slice_after : {A : Type 0} → List A → List A → List A
slice_after written lent = written ++ drop (length written) lent

-- no result: the lent slice is as it was
abbrev pub refusing : {A : Type 0} → ℕ → ℕ → Filled A
refusing k n = record { terms = refusal k n; written = [] }

-- the result xs into a slice of `room` elements: 10, or its length
unfoldable pub filling : {A : Type 0} → ℕ → List A → Filled A
filling room xs = cond (ltb room (length xs)) (refusing 10 0) (record { terms = full (length xs ∷ []); written = xs })

-- *Report*: an output slice of `room` bytes; "answers the length written"
unfoldable pub report_of : Reading → ℕ → Filled ℕ
report_of (refused r) room = refusing r.number r.line
report_of (accepted p) room = filling room (report p)

unfoldable pub report_call : List ℕ → ℕ → Filled ℕ
report_call s room = report_of (reading s) room

-- the runs of starts at place k that meet the set m
unfoldable pub runs : Plan → ℕ → ℕ → List Interval
runs p k m = let a = activity_at p k in runs_from (meets_set (meets p.header (placed p k) a) m) 0 (starts p.header a)

-- *Starts*: a place, a set of conditions, and a lent list of `room` records (of two slices, the shorter one's length); "answers their count"
unfoldable pub starts_of : Reading → ℕ → ℕ → ℕ → Filled Interval
starts_of (refused r) k m room = refusing r.number r.line
starts_of (accepted p) k m room =
    cond (leb (length p.activities) k) (refusing 11 0)
    (cond (ltb all_conditions m) (refusing 12 0)
    (filling room (runs p k m)))

unfoldable pub starts_call : List ℕ → ℕ → ℕ → ℕ → Filled Interval
starts_call s k m room = starts_of (reading s) k m room
