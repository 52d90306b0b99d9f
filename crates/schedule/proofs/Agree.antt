-- Tests that agree on every condition at every start have the same answers and the same runs.
-- Assumes nothing.
use Prim.Native.Nat.{ℕ, zero, suc, ◌+◌, ◌-◌, ◌^◌, ◌<◌, ◌≤◌}
use mathlib.Core.Path.{◌≡◌, refl, ◌∙◌, ap}
use mathlib.Core.Bool.{Bool, cond, not, ◌||◌}
use mathlib.Core.Option.{Option, none, some}
use native.Mathlib.Omega.{arith}
use Rattle.rules.specs.Tests.{ever}
use Rattle.rules.specs.Conditions.{condition_count, all_conditions, has, meets_set}
use Rattle.rules.specs.Answer.{nearest, common, kept, letters, valid, answered, answer}
use Rattle.rules.specs.Runs.{runs_from}
use Rattle.rules.proofs.Lists.{each_same}
use Rattle.schedule.proofs.Nearer.{nearest_same}

ever_same : (p q : ℕ → Bool) (n : ℕ) → ((k : ℕ) → k < n → p k ≡ q k) → ever p n ≡ ever q n
unfolding ever
ever_same p q zero h = refl
ever_same p q (suc n) h = rw (h n (omega arith), ever_same p q n (λ k l. h k (omega arith)))

-- runs of starts that pass alike
pub runs_alike : (p q : ℕ → Bool) (s n : ℕ) → ((k : ℕ) → s ≤ k → k < s + n → p k ≡ q k) → runs_from p s n ≡ runs_from q s n
unfolding runs_from
runs_alike p q s zero h = refl
runs_alike p q s (suc n) h = rw (h s (omega arith) (omega arith), runs_alike p q (suc s) n (λ k l m. h k (omega arith) (omega arith)))

module _ (p q : ℕ → ℕ → Bool) (n : ℕ) (agree : (c s : ℕ) → c < condition_count → s < n → p c s ≡ q c s) where
  pub meets_alike : (m s : ℕ) → s < n → meets_set p m s ≡ meets_set q m s
  unfolding meets_set
  meets_alike m s h = each_same _ _ condition_count (λ c k. ap (λ (b : Bool). not (has m c) || b) (agree c s k h))

  common_alike : (m : ℕ) → common p n m ≡ common q n m
  unfolding common
  common_alike m = ever_same _ _ n (λ s h. meets_alike m s h)

  kept_alike : (c : ℕ) → kept p n c ≡ kept q n c
  unfolding kept
  kept_alike zero = refl
  kept_alike (suc c) =
      ap (λ (m : ℕ). cond (common p n (m - 2 ^ c)) m (m - 2 ^ c)) (kept_alike c) ∙ ap (λ (b : Bool). cond b (kept q n c) (kept q n c - 2 ^ c)) (common_alike (kept q n c - 2 ^ c))

  pub letters_alike : letters p n ≡ letters q n
  unfolding letters
  letters_alike = kept_alike condition_count

  answered_alike : (o : Option ℕ) → answered p n o ≡ answered q n o
  unfolding answered
  answered_alike none = rw letters_alike
  answered_alike (some s) = refl

  pub answer_alike : (distance : ℕ → ℕ) → answer p n distance ≡ answer q n distance
  unfolding answer valid
  answer_alike distance =
      ap (answered p n) (nearest_same _ _ distance n (λ s h. meets_alike all_conditions s h)) ∙ answered_alike (nearest (λ s. meets_set q all_conditions s) distance n)
