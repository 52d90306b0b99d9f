-- Laws of the loops of the test of S: two loops of tests, the sets weighed so far.
-- Assumes nothing.
use Prim.Native.Nat.{ℕ, ◌+◌, ◌<◌}
use mathlib.Core.Path.{◌≡◌, refl, ap}
use mathlib.Core.Bool.{Bool, true, false, not}
use mathlib.Core.List.{List}
use native.Mathlib.Numerals.{add-one}
use Rattle.rules.specs.Tests.{each}
use Rattle.rules.proofs.Tests.{each_all}
use Rattle.rules.proofs.Lists.{each_fails}
use Rattle.placed.specs.declared.row.Row.{Row}
use Rattle.placed.specs.Tables.{end_at, set_at}
use Rattle.state.specs.Standing.{later_value, standing_by}

-- ---- two loops of tests
module _ (f : ℕ → ℕ → Bool) (m : ℕ → ℕ) (n : ℕ) where
  pub none_holds : ((p : ℕ) → p < n → (j : ℕ) → j < m p → f p j ≡ false) → each (λ p. each (λ j. not (f p j)) (m p)) n ≡ true
  none_holds h = each_all _ _ (λ p l. each_all _ _ (λ j k. ap not (h p l j k)))

  pub one_holds : (p j : ℕ) → p < n → j < m p → f p j ≡ true → each (λ p. each (λ j. not (f p j)) (m p)) n ≡ false
  one_holds p j l k e = each_fails _ n p l (each_fails _ (m p) j k (ap not e))

-- ---- the value that stands with no set, and with the sets of one row more
pub stands_none : (rows : List Row) (v t : ℕ) → standing_by rows v t 0 ≡ record { since = 0; code = 1 }
unfolding standing_by
stands_none rows v t = refl

pub stands_more : (rows : List Row) (v t n : ℕ) → standing_by rows v t (n + 1) ≡ later_value (end_at rows n) (set_at rows n v) t (standing_by rows v t n)
unfolding standing_by
stands_more rows v t n = rw add-one
