-- How a candidate is answered (01, Placing and refusing): over a test of condition number c at start s, a number n of starts, and a distance of a start.
use Rattle.std.specs.Prelude.{ℕ, zero, suc, ◌-◌, ◌^◌, Bool, true, false, cond, ltb}
use Rattle.std.proofs.Math.Option.{Option, none, some}
use Rattle.rules.specs.Tests.{ever}
use Rattle.rules.specs.Conditions.{condition_count, all_conditions, meets_set}
use Rattle.rules.specs.declared.Outcome.{Outcome}
use Rattle.rules.specs.declared.Outcome.TheVariants.{Placed, Refused}

-- k, if it passes, or the best of those before it: the nearer; "of two equally near, the earlier"
unfoldable pub nearer : (ℕ → ℕ) → Bool → ℕ → Option ℕ → Option ℕ
nearer distance false k best = best
nearer distance true k none = some k
nearer distance true k (some b) = some (cond (ltb (distance k) (distance b)) k b)

-- of the starts below n that pass, the nearest
unfoldable pub nearest : (ℕ → Bool) → (ℕ → ℕ) → ℕ → Option ℕ
nearest pass distance zero = none
nearest pass distance (suc k) = nearer distance (pass k) k (nearest pass distance k)

module _ (test : ℕ → ℕ → Bool) (n : ℕ) where
  -- the conditions of the set m have a start in common
  unfoldable pub common : ℕ → Bool
  common m = ever (meets_set test m) n

  -- the set kept after the first c letters: "dropping a letter when the others kept have no start in common"
  unfoldable pub kept : ℕ → ℕ
  kept zero = all_conditions
  kept (suc c) = let m = kept c in cond (common (m - 2 ^ c)) m (m - 2 ^ c)

  unfoldable pub letters : ℕ
  letters = kept condition_count

  -- "A start that meets all nine is valid"
  unfoldable pub valid : ℕ → Bool
  valid s = meets_set test all_conditions s

  unfoldable pub answered : Option ℕ → Outcome
  answered (some s) = Placed s
  answered none = Refused letters

  -- "placed with its start, or refused with its letters"
  unfoldable pub answer : (ℕ → ℕ) → Outcome
  answer distance = answered (nearest valid distance n)
