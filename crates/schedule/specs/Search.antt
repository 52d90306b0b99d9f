-- What is searched for in a table of sets, one for each start.
use Rattle.std.specs.Prelude.{ℕ, ◌+◌, ◌-◌, ◌<◌, ◌≤◌, ◌≡◌, Bool, not, List, [], ◌∷◌, get_or, Option, Some, None}
use Rattle.sets.specs.Sets.{holds_set}
use Rattle.rules.specs.Conditions.{has}
use Rattle.rules.specs.Runs.{runs_from}
use Rattle.rules.specs.declared.Interval.{Interval}

-- the test that a table of sets says: the set of the start s has condition c
unfoldable pub test_in : List ℕ → ℕ → ℕ → Bool
test_in sets c s = has (get_or sets s 0) c

-- the start s of the table meets every condition of the set m
unfoldable pub meets_in : List ℕ → ℕ → ℕ → Bool
meets_in sets m s = holds_set (get_or sets s 0) m

-- the runs of the starts from s to before n
abbrev pub runs_on : (ℕ → Bool) → ℕ → ℕ → List Interval
runs_on pass n s = runs_from pass s (n - s)

-- r is the first of the runs from `from` on, and the others are those behind it
pub record FirstRun (pass : ℕ → Bool) (n from : ℕ) (r : Interval) : Type 0 where
  pub least : from ≤ r.first
  pub rising : r.first ≤ r.last
  pub most : r.last < n
  pub runs : runs_on pass n from ≡ r ∷ runs_on pass n (r.last + 1)

-- the first run from `from` on, or none where there is none
abbrev pub NextRun : (ℕ → Bool) → ℕ → ℕ → Option Interval → Type 0
NextRun pass n from None = runs_on pass n from ≡ []
NextRun pass n from (Some r) = FirstRun pass n from r

-- r is the first of the starts from `from` to before `count` whose test is `met`, or `count`
pub record Next (pass : ℕ → Bool) (met : Bool) (from count r : ℕ) : Type 0 where
  pub least : from ≤ r
  pub most : r ≤ count
  pub before : (s : ℕ) → from ≤ s → s < r → pass s ≡ not met
  pub here : r < count → pass r ≡ met

-- what `gives` says of a run and a number of it is what `taken` takes of the run
abbrev pub Takes : (Interval → ℕ → Type 0) → (Interval → ℕ) → Type 0
Takes gives taken = (r : Interval) (x : ℕ) → gives r x → x ≡ taken r
