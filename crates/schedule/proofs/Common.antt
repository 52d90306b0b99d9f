-- A start in common, searched for among the sets of the starts.
-- Assumes nothing.
use Rattle.std.proofs.Common.{ℕ, zero, suc, ◌≤◌, ◌≡◌, refl, sym, ◌∙◌, ap, Bool, List, length, get_or, take, add-one, arith}
use Rattle.std.proofs.Math.Bool.{or_comm}
use Rattle.std.proofs.lemmas.List.{take_all}
use Rattle.std.specs.List.{list_any}
use Rattle.std.proofs.lemmas.List.Folds.{list_any_more}
use Rattle.rules.specs.Tests.{ever}
use Rattle.rules.specs.Conditions.{meets_set}
use Rattle.rules.specs.Answer.{common}
use Rattle.schedule.specs.Search.{test_in}
use Rattle.sets.specs.Sets.{holds_set}

-- what `contains` says of a start's set is what the test of the table says
pub contains_meets : (sets : List ℕ) (m s : ℕ) → holds_set (get_or sets s 0) m ≡ meets_set (test_in sets) m s
unfolding holds_set meets_set test_in
contains_meets sets m s = refl

module _ (p : ℕ → Bool) (xs : List ℕ) where
  any_front : (n : ℕ) → n ≤ length xs → list_any p (take n xs) ≡ ever (λ i. p (get_or xs i 0)) n
  unfolding ever
  any_front zero l = refl
  any_front (suc n) l = rw (← add-one) (list_any_more p xs n 0 l ∙ rw (any_front n (omega arith)) (or_comm (ever (λ i. p (get_or xs i 0)) n) (p (get_or xs n 0))))

-- a set of the table has all of the set m where the starts have it in common
pub any_common : (sets : List ℕ) (m : ℕ) → list_any (λ met. holds_set met m) sets ≡ common (test_in sets) (length sets) m
unfolding common meets_set holds_set test_in
any_common sets m = ap (list_any _) (sym (take_all _ sets (omega arith))) ∙ any_front (λ met. holds_set met m) sets (length sets) (omega arith)
