-- Runs in two columns of numbers.
use Rattle.std.specs.Prelude.{ℕ, ◌≤◌, ◌≡◌, List, [], ◌∷◌, map, length, take, Result}
use Rattle.rules.specs.Calls.{Filled, count_terms}
use Rattle.rules.specs.declared.Interval.{Interval}
use Rattle.rules.specs.declared.Refusal.{Refusal as RefusalStruct}

-- a call answers r, and the columns begin with the firsts and the lasts of its runs
pub record ColumnsHeld (f : Filled Interval) (r : Result ℕ RefusalStruct) (firsts lasts : List ℕ) : Type 0 where
  pub answer : count_terms r ≡ f.terms
  pub few : length f.written ≤ 2048
  pub firsts_held : take (length f.written) firsts ≡ map (λ run. run.first) f.written
  pub lasts_held : take (length f.written) lasts ≡ map (λ run. run.last) f.written

-- the runs that begin and end with these numbers
abbrev pub pairs : List ℕ → List ℕ → List Interval
pairs [] lasts = []
pairs (u ∷ firsts) [] = []
pairs (u ∷ firsts) (v ∷ lasts) = record { first = u; last = v } ∷ pairs firsts lasts
