-- What each exported function promises of its answer r and of the slice lent to it, which holds `lent` before the call and `after` after it, for the plan's bytes s and whatever else it is handed (01, Calls).
use Rattle.std.specs.Prelude.{ℕ, ◌≡◌, List, length}
use Rattle.rules.specs.Calls.{Filled, slice_after, outcome_call, report_call, starts_call}
use Rattle.rules.specs.declared.Interval.{Interval}
use Rattle.packing.specs.Packing.{packed}

-- outcome at place k answers r
abbrev pub OutcomeExported : List ℕ → ℕ → ℕ → Type 0
OutcomeExported s k r = r ≡ packed (outcome_call s k)

-- a call answers r, and leaves the slice lent to it as `after`
pub record Exported {A : Type 0} (f : Filled A) (lent : List A) (r : ℕ) (after : List A) : Type 0 where
  pub answer : r ≡ packed f.terms
  pub slice : after ≡ slice_after f.written lent

-- report
abbrev pub ReportExported : List ℕ → List ℕ → ℕ → List ℕ → Type 0
ReportExported s lent r after = Exported (report_call s (length lent)) lent r after

-- starts at place k for the set m
abbrev pub StartsExported : List ℕ → ℕ → ℕ → List Interval → ℕ → List Interval → Type 0
StartsExported s k m lent r after = Exported (starts_call s k m (length lent)) lent r after
