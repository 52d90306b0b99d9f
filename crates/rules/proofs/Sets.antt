-- Sets of conditions as numbers: what leaving one out does, that the letters determine the set, and what it is to meet a set.
-- Assumes nothing.
use Prim.Native.Nat.{ℕ, zero, suc, ◌-◌, ◌^◌, ◌/◌, ◌%◌, ◌<◌, ◌≤◌}
use mathlib.Core.Path.{◌≡◌, refl, sym, ◌∙◌, ap}
use mathlib.Core.Logic.{◌≢◌}
use mathlib.Core.Bool.{Bool, true, false, ◌||◌, not}
use native.Mathlib.Omega.{arith}
use native.Mathlib.Nat.{not-suc-le-zero, pow-succ', div-one, div-div-eq-div-mul}
use lib.Dec.{eqb}
use lib.Pow.{pow_pos}
use lib.ListN.{length}
use borrow.Author.Tests.{eqb-true, eqb-false, eq-eqb, ne_eqb}
use Rattle.rules.specs.Conditions.{condition_count, all_conditions, conditions, condition_letters, has, meets_set}
use Rattle.rules.proofs.Tests.{each_at, each_all, both_ways}

-- the number of conditions and of letters
pub counted : (length conditions ≡ condition_count) × (length condition_letters ≡ condition_count)
unfolding conditions condition_letters
counted = (refl, refl)

-- ---- a set has condition 0 where it is odd, and condition c + 1 where its half has c
first : (m : ℕ) → has m 0 ≡ eqb (m % 2) 1
unfolding has
first m = ap (λ (x : ℕ). eqb (x % 2) 1) (div-one m)

later : (m c : ℕ) → has m (suc c) ≡ has (m / 2) c
unfolding has
later m c = ap (λ (x : ℕ). eqb (x % 2) 1) (ap (λ (x : ℕ). m / x) (pow-succ' 2 c) ∙ sym (div-div-eq-div-mul m 2 (2 ^ c)))

odd : (m : ℕ) → has m 0 ≡ true → m % 2 ≡ 1
odd m e = eqb-true (m % 2) 1 (sym (first m) ∙ e)

even : (m : ℕ) → has m 0 ≡ false → m % 2 ≡ 0
even m e = let o : m % 2 ≢ 1 = eqb-false (m % 2) 1 (sym (first m) ∙ e) in omega arith

-- ---- the set m without condition b, which it has
half : (m b : ℕ) → (m - 2 ^ suc b) / 2 ≡ m / 2 - 2 ^ b
half m b = omega (arith, pow-succ' 2 b)

-- a set is at least the number of each condition that it has
pub power_in : (m b : ℕ) → has m b ≡ true → 2 ^ b ≤ m
power_in m zero e = omega (arith, odd m e)
power_in m (suc b) e = omega (arith, power_in (m / 2) b (sym (later m b) ∙ e), pow-succ' 2 b)

pub left_out : (m b : ℕ) → has m b ≡ true → has (m - 2 ^ b) b ≡ false
left_out m zero e = first (m - 1) ∙ ne_eqb ((m - 1) % 2) 1 (omega (arith, odd m e))
left_out m (suc b) e = later _ b ∙ rw (half m b) (left_out (m / 2) b (sym (later m b) ∙ e))

-- it has each other condition that m has, and no more
pub others : (m b c : ℕ) → has m b ≡ true → c ≢ b → has (m - 2 ^ b) c ≡ has m c
others m zero zero e o = absurd (o refl)
others m zero (suc c) e o =
    let q : (m - 1) / 2 ≡ m / 2 = omega (arith, odd m e) in
    later (m - 1) c ∙ rw q (sym (later m c))
others m (suc b) zero e o =
    let q : (m - 2 ^ suc b) % 2 ≡ m % 2 = omega (arith, power_in m (suc b) e, pow-succ' 2 b) in
    first _ ∙ rw q (sym (first m))
others m (suc b) (suc c) e o =
    later _ c ∙ rw (half m b) (others (m / 2) b c (sym (later m b) ∙ e) (λ q. o (ap suc q)) ∙ sym (later m c))

pub other_of : (m b c : ℕ) → has m b ≡ true → has (m - 2 ^ b) c ≡ true → c ≢ b
other_of m b c e f q = both_ways f (rw q (left_out m b e))

pub kept_of : (m b c : ℕ) → has m b ≡ true → has (m - 2 ^ b) c ≡ true → has m c ≡ true
kept_of m b c e f = sym (others m b c e (other_of m b c e f)) ∙ f

pub to_kept : (m b c : ℕ) → has m b ≡ true → has m c ≡ true → c ≢ b → has (m - 2 ^ b) c ≡ true
to_kept m b c e f o = others m b c e o ∙ f

-- ---- sets of conditions below n are the numbers below 2 ^ n
same_parity : (m l : ℕ) → has m 0 ≡ has l 0 → m % 2 ≡ l % 2
same_parity m l e = go (has m 0) refl
  where
    go : (b : Bool) → has m 0 ≡ b → m % 2 ≡ l % 2
    go true q = odd m q ∙ sym (odd l (sym e ∙ q))
    go false q = even m q ∙ sym (even l (sym e ∙ q))

-- two sets of the same letters are the same
pub by_letters : (n m l : ℕ) → m < 2 ^ n → l < 2 ^ n → ((c : ℕ) → c < n → has m c ≡ has l c) → m ≡ l
by_letters zero m l h k f = omega arith
by_letters (suc n) m l h k f =
    let halves : m / 2 ≡ l / 2 = by_letters n (m / 2) (l / 2) (omega (arith, pow-succ' 2 n)) (omega (arith, pow-succ' 2 n)) (λ c g. sym (later m c) ∙ f (suc c) (omega arith) ∙ later l c) in
    omega (arith, same_parity m l (f 0 (omega arith)))

-- the number 2 ^ n - 1 is the set of them all
all_below : (n c : ℕ) → c < n → has (2 ^ n - 1) c ≡ true
all_below zero c h = absurd (not-suc-le-zero h)
all_below (suc n) zero h = first _ ∙ eq-eqb ((2 ^ suc n - 1) % 2) 1 (omega (arith, pow-succ' 2 n, pow_pos n))
all_below (suc n) (suc c) h =
    let q : (2 ^ suc n - 1) / 2 ≡ 2 ^ n - 1 = omega (arith, pow-succ' 2 n, pow_pos n) in
    later _ c ∙ rw q (all_below n c (omega arith))

pub all_of_them : (c : ℕ) → c < condition_count → has all_conditions c ≡ true
all_of_them = all_below condition_count

-- 0 is the set of none
pub none_of_them : (c : ℕ) → has 0 c ≡ false
none_of_them zero = first 0
none_of_them (suc c) = later 0 c ∙ none_of_them c

-- ---- what it is to meet a set
or_of : (x : Bool) {y : Bool} → not x || y ≡ true → x ≡ true → y ≡ true
or_of true e f = e
or_of false e f = absurd (both_ways f refl)

of_or : (x : Bool) {y : Bool} → (x ≡ true → y ≡ true) → not x || y ≡ true
of_or true f = f refl
of_or false f = refl

pub meets_at : (test : ℕ → ℕ → Bool) (m s c : ℕ) → meets_set test m s ≡ true → c < condition_count → has m c ≡ true → test c s ≡ true
unfolding meets_set
meets_at test m s c e h f = or_of (has m c) (each_at (λ c. not (has m c) || test c s) condition_count c e h) f

pub meets_all : (test : ℕ → ℕ → Bool) (m s : ℕ) → ((c : ℕ) → c < condition_count → has m c ≡ true → test c s ≡ true) → meets_set test m s ≡ true
unfolding meets_set
meets_all test m s f = each_all (λ c. not (has m c) || test c s) condition_count (λ c h. of_or (has m c) (f c h))
