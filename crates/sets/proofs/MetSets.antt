-- The set of conditions that a start meets, as a number, and what it says of each condition.
-- Assumes nothing.
use Prim.Native.Nat.{ℕ, zero, suc, ◌+◌, ◌-◌, ◌*◌, ◌^◌, ◌/◌, ◌%◌, ◌<◌, ◌≤◌}
use mathlib.Core.Path.{◌≡◌, refl, sym, ◌∙◌, ap}
use mathlib.Core.Logic.{◌↔◌}
use mathlib.Core.Bool.{Bool, true, false, cond, ◌||◌, not}
use native.Mathlib.Omega.{arith}
use native.Mathlib.Numerals.{add-one}
use native.Mathlib.Nat.{not-suc-le-zero, pow-suc, two-pow-succ, pow-le-pow_right, add-mul-div_right, add-mul-mod_self_right, add-div_right, div-eq_of_lt}
use lib.Dec.{eqb}
use lib.Pow.{pow_pos, pow-add}
use Rattle.rules.specs.Conditions.{condition_count, all_conditions, has, meets_set}
use Rattle.rules.proofs.Tests.{last_or}
use Rattle.rules.proofs.Sets.{meets_at, meets_all, all_of_them}
use Rattle.rules.proofs.Lists.{each_same}
use Rattle.sets.specs.Sets.{met_below, met_set, holds_set}

-- bits above a condition's do not change whether the set has it
has_low : (m k c : ℕ) → has (m + k * 2 * 2 ^ c) c ≡ has m c
unfolding has
has_low m k c =
    ap (λ (x : ℕ). eqb (x % 2) 1) (add-mul-div_right m (k * 2) (pow_pos c))
    ∙ ap (λ (x : ℕ). eqb x 1) (add-mul-mod_self_right (m / 2 ^ c) k 2)

power_over : (n c : ℕ) → c < n → 2 ^ n ≡ 2 ^ (n - c - 1) * 2 * 2 ^ c
power_over n c k =
    let e : n ≡ suc (n - c - 1) + c = omega arith in
    ap (λ (x : ℕ). 2 ^ x) e ∙ pow-add 2 (suc (n - c - 1)) c ∙ ap (λ (x : ℕ). x * 2 ^ c) (pow-suc 2 (n - c - 1))

module _ (test : ℕ → ℕ → Bool) (s : ℕ) where
  -- the conditions below n make a number below 2 ^ n
  pub met_small : (n : ℕ) → met_below test s n < 2 ^ n
  unfolding met_below
  met_small zero = omega arith
  met_small (suc n) = go (test n s) (met_small n)
    where
      go : (b : Bool) → met_below test s n < 2 ^ n → met_below test s n + cond b (2 ^ n) 0 < 2 ^ suc n
      go true h = omega (arith, two-pow-succ n)
      go false h = omega (arith, two-pow-succ n)

  -- all of them make 2 ^ n - 1
  met_all : (n : ℕ) → ((c : ℕ) → c < n → test c s ≡ true) → met_below test s n + 1 ≡ 2 ^ n
  unfolding met_below
  met_all zero f = refl
  met_all (suc n) f = rw (f n (omega arith)) (omega (arith, met_all n (λ c k. f c (omega arith)), two-pow-succ n))

  has_top : (n : ℕ) → has (met_below test s n + cond (test n s) (2 ^ n) 0) n ≡ test n s
  unfolding has
  has_top n = go (test n s)
    where
      none : met_below test s n / 2 ^ n ≡ 0
      none = div-eq_of_lt (met_small n)

      go : (b : Bool) → eqb ((met_below test s n + cond b (2 ^ n) 0) / 2 ^ n % 2) 1 ≡ b
      go true = ap (λ (x : ℕ). eqb (x % 2) 1) (add-div_right (met_below test s n) (pow_pos n) ∙ ap (λ (x : ℕ). x + 1) none)
      go false =
          let e : met_below test s n + 0 ≡ met_below test s n = omega arith in
          ap (λ (x : ℕ). eqb (x % 2) 1) (ap (λ (x : ℕ). x / 2 ^ n) e ∙ none)

  has_under : (n c : ℕ) → c < n → has (met_below test s n + cond (test n s) (2 ^ n) 0) c ≡ has (met_below test s n) c
  has_under n c k = go (test n s)
    where
      go : (b : Bool) → has (met_below test s n + cond b (2 ^ n) 0) c ≡ has (met_below test s n) c
      go true = ap (λ (x : ℕ). has (met_below test s n + x) c) (power_over n c k) ∙ has_low (met_below test s n) (2 ^ (n - c - 1)) c
      go false = let e : met_below test s n + 0 ≡ met_below test s n = omega arith in ap (λ (x : ℕ). has x c) e

  has_below : (n c : ℕ) → c < n → has (met_below test s n) c ≡ test c s
  unfolding met_below
  has_below zero c k = absurd (not-suc-le-zero k)
  has_below (suc n) c k = last_or (λ (x : ℕ). has (met_below test s n + cond (test n s) (2 ^ n) 0) x ≡ test x s) n c k (has_top n) (λ l. has_under n c l ∙ has_below n c l)

  -- the set has the conditions that the start meets
  pub has_met : (c : ℕ) → c < condition_count → has (met_set test s) c ≡ test c s
  unfolding met_set
  has_met c k = has_below condition_count c k

  -- it is all nine when the start meets all nine
  pub met_full : (met_set test s ≡ all_conditions) ↔ (meets_set test all_conditions s ≡ true)
  unfolding met_set
  met_full = (
    λ e. meets_all test all_conditions s (λ c k h. sym (has_met c k) ∙ ap (λ (x : ℕ). has x c) e ∙ all_of_them c k),
    λ e. let full : met_below test s condition_count + 1 ≡ 2 ^ condition_count = met_all condition_count (λ c k. meets_at test all_conditions s c e k (all_of_them c k)) in omega arith,
  )

  -- it has every condition of a set when the start meets them
  pub met_holds : (m : ℕ) → holds_set (met_set test s) m ≡ meets_set test m s
  unfolding holds_set meets_set
  met_holds m = each_same _ _ condition_count (λ c k. ap (λ (x : Bool). not (has m c) || x) (has_met c k))

  -- one condition more
  pub met_more : (c : ℕ) → met_below test s (c + 1) ≡ met_below test s c + cond (test c s) (2 ^ c) 0
  unfolding met_below
  met_more c = rw add-one

  pub met_none : met_below test s 0 ≡ 0
  unfolding met_below
  met_none = refl

  pub met_low : (c : ℕ) → c ≤ condition_count → met_below test s c ≤ all_conditions
  met_low c k = let top : 2 ^ c ≤ 2 ^ condition_count = pow-le-pow_right (omega arith) k in omega (arith, met_small c)
