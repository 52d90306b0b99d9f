-- Demand 3 (00) over what the calls return: r is returned, and a slice `lent` left as `after`, as the calls' contracts say (Called).
use Rattle.std.specs.Prelude.{ℕ, ◌<◌, ◌≤◌, min, ◌≡◌, List, map, length, Result, Ok, Err}
use Rattle.rules.specs.Plan.{Plan}
use Rattle.rules.specs.Reading.{accepted, refused, reading}
use Rattle.rules.specs.Conditions.{all_conditions}
use Rattle.rules.specs.Calls.{slice_after}
use Rattle.rules.specs.Report.{no_line}
use Rattle.rules.specs.Demand.{report_by, RunsBy, RightAnswers}
use Rattle.rules.specs.declared.Outcome.{Outcome}
use Rattle.rules.specs.Refusals.{Refusal, refusal_view}
use Rattle.rules.specs.declared.Refusal.{Refusal as RefusalStruct}
use Rattle.rules.specs.declared.Interval.{Interval}
use Rattle.calls.specs.Called.{OutcomeCalled, ReportCalled, StartsCalled, OutputCalled}

-- a refusal of the call itself: 10, 11 or 12, with line 0
abbrev pub call_refusal : ℕ → Refusal
call_refusal number = record { number = number; line = 0 }

-- a call returns the refusal q
abbrev pub Refuses : {A : Type 0} → Result A RefusalStruct → Refusal → Type 0
Refuses r q = (e : RefusalStruct) × (r ≡ Err e) × (refusal_view e ≡ q)

-- report returns the length of the text and writes it to the front of the slice; a slice too short for it remains
pub record ReportAnswered (s text : List ℕ) : Type 0 where
  pub written : (lent after : List ℕ) (r : Result ℕ RefusalStruct) → ReportCalled s lent r after → length text ≤ length lent → (r ≡ Ok (length text)) × (after ≡ slice_after text lent)
  pub short : (lent after : List ℕ) (r : Result ℕ RefusalStruct) → ReportCalled s lent r after → length lent < length text → Refuses r (call_refusal 10) × (after ≡ lent)

-- output, whose bytes the program prints, returns the text
abbrev pub Printed : List ℕ → List ℕ → Type 0
Printed s text = (r : List ℕ) → OutputCalled s r → r ≡ text

-- starts at place k for the set m returns the count of the runs and writes their firsts and lasts; slices too short for them remain
pub record RunsAnswered (s : List ℕ) (k m : ℕ) (runs : List Interval) : Type 0 where
  pub written : (lentFirsts lentLasts firsts lasts : List ℕ) (r : Result ℕ RefusalStruct) → StartsCalled s k m lentFirsts lentLasts r firsts lasts → length runs ≤ min (length lentFirsts) (length lentLasts) → (r ≡ Ok (length runs)) × (firsts ≡ slice_after (map (λ run. run.first) runs) lentFirsts) × (lasts ≡ slice_after (map (λ run. run.last) runs) lentLasts)
  pub short : (lentFirsts lentLasts firsts lasts : List ℕ) (r : Result ℕ RefusalStruct) → StartsCalled s k m lentFirsts lentLasts r firsts lasts → min (length lentFirsts) (length lentLasts) < length runs → Refuses r (call_refusal 10) × (firsts ≡ lentFirsts) × (lasts ≡ lentLasts)

-- starts at place k for the set m returns the refusal q, and the slices remain
abbrev pub StartsRefused : List ℕ → ℕ → ℕ → Refusal → Type 0
StartsRefused s k m q = (lentFirsts lentLasts firsts lasts : List ℕ) (r : Result ℕ RefusalStruct) → StartsCalled s k m lentFirsts lentLasts r firsts lasts → Refuses r q × (firsts ≡ lentFirsts) × (lasts ≡ lentLasts)

-- what the calls return where the bytes are accepted as the plan p
pub record Answered (s : List ℕ) (p : Plan) : Type 0 where
  -- the answers at the places of the plan, all of them right: demand 3
  pub answers : ℕ → Outcome
  pub right : RightAnswers p answers
  -- outcome returns the answer at each place, and refuses a place beyond them
  pub outcome : (k : ℕ) (r : Result Outcome RefusalStruct) → OutcomeCalled s k r → k < length p.activities → r ≡ Ok (answers k)
  pub beyond : (k : ℕ) (r : Result Outcome RefusalStruct) → OutcomeCalled s k r → length p.activities ≤ k → Refuses r (call_refusal 11)
  -- report and output give the report that the answers make
  pub report : ReportAnswered s (report_by p answers)
  pub printed : Printed s (report_by p answers)
  -- starts gives the runs of starts beside those that the answers place before the place
  pub runs : (k m : ℕ) → k < length p.activities → m ≤ all_conditions → (rs : List Interval) × RunsBy p answers k m rs × (length rs ≤ 2048) × RunsAnswered s k m rs
  -- it refuses a place beyond the last with 11, then a set beyond all conditions with 12
  pub no_place : (k m : ℕ) → length p.activities ≤ k → StartsRefused s k m (call_refusal 11)
  pub no_set : (k m : ℕ) → k < length p.activities → all_conditions < m → StartsRefused s k m (call_refusal 12)

-- where the bytes are refused as q: outcome, report and starts return q and write nothing; output, whose bytes the program prints, returns the `no` line
pub record RefusedAs (s : List ℕ) (q : Refusal) : Type 0 where
  pub outcome : (k : ℕ) (r : Result Outcome RefusalStruct) → OutcomeCalled s k r → Refuses r q
  pub report : (lent after : List ℕ) (r : Result ℕ RefusalStruct) → ReportCalled s lent r after → Refuses r q × (after ≡ lent)
  pub starts : (k m : ℕ) → StartsRefused s k m q
  pub printed : Printed s (no_line q)

-- for every byte string
pub record Promise (s : List ℕ) : Type 0 where
  pub accepted_as : (p : Plan) → reading s ≡ accepted p → Answered s p
  pub refused_as : (q : Refusal) → reading s ≡ refused q → RefusedAs s q
