-- What each call promises of its answer and of each lent slice after it, for the plan's bytes s and whatever else it is handed (01, Calls).
use Rattle.std.specs.Prelude.{ℕ, min, ◌≡◌, List, map, length, Result}
use Rattle.rules.specs.Calls.{outcome_terms, count_terms, Filled, slice_after, outcome_call, report_call, starts_call}
use Rattle.rules.specs.Report.{output}
use Rattle.rules.specs.declared.Interval.{Interval}
use Rattle.rules.specs.declared.Outcome.{Outcome}
use Rattle.rules.specs.declared.Refusal.{Refusal as RefusalStruct}

-- outcome at place k answers r
abbrev pub OutcomeCalled : List ℕ → ℕ → Result Outcome RefusalStruct → Type 0
OutcomeCalled s k r = outcome_terms r ≡ outcome_call s k

-- a call answers r, and leaves the slice lent to it as `after`
pub record SliceFilled (f : Filled ℕ) (lent : List ℕ) (r : Result ℕ RefusalStruct) (after : List ℕ) : Type 0 where
  pub answer : count_terms r ≡ f.terms
  pub slice : after ≡ slice_after f.written lent

abbrev pub ReportCalled : List ℕ → List ℕ → Result ℕ RefusalStruct → List ℕ → Type 0
ReportCalled s lent r after = SliceFilled (report_call s (length lent)) lent r after

-- a call answers r, and leaves two slices lent to it as the firsts and the lasts of its runs
pub record ColumnsFilled (f : Filled Interval) (lentFirsts lentLasts : List ℕ) (r : Result ℕ RefusalStruct) (firsts lasts : List ℕ) : Type 0 where
  pub answer : count_terms r ≡ f.terms
  pub firsts_filled : firsts ≡ slice_after (map (λ run. run.first) f.written) lentFirsts
  pub lasts_filled : lasts ≡ slice_after (map (λ run. run.last) f.written) lentLasts

-- starts at place k for the set m; of two slices the shorter gives the room
abbrev pub StartsCalled : List ℕ → ℕ → ℕ → List ℕ → List ℕ → Result ℕ RefusalStruct → List ℕ → List ℕ → Type 0
StartsCalled s k m lentFirsts lentLasts r firsts lasts = ColumnsFilled (starts_call s k m (min (length lentFirsts) (length lentLasts))) lentFirsts lentLasts r firsts lasts

-- what the program prints
abbrev pub OutputCalled : List ℕ → List ℕ → Type 0
OutputCalled s r = r ≡ output s
