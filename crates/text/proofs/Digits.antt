-- Laws of a number's digits at a cursor, and of what read_number says.
-- Assumes nothing.
use mathlib.Core.Path.{◌≡◌, refl}
use mathlib.Core.Bool.{Bool, true, false, cond, and-false}
use mathlib.Core.List.{List}
use Prim.Native.Nat.{ℕ, ◌+◌, ◌-◌, ◌*◌, ◌^◌, ◌≤◌, ◌<◌}
use native.Mathlib.Nat.{pow-suc, pow-le-pow_right, lt_of_lt_of_le}
use native.Mathlib.Numerals.{add-one}
use native.Mathlib.Omega.{arith}
use Rattle.std.proofs.lemmas.Bool.Decides.{nat_tests}
use borrow.Author.Tests.{le-leb, lt-leb, lt-ltb}
use lib.ListN.{length, get_or, drop, drop_of_length-le}
use lib.Seq.{drop-cons}
use Rattle.std.specs.Prelude.{Some, None}
use Rattle.rules.specs.Tests.{every}
use Rattle.rules.specs.Number.{is_digit, is_number, leading_zero, value_from, value_of}
use Rattle.text.specs.Text.{number_of}
use Rattle.text.specs.Cursor.{digits_from}

-- a digit at i: it goes into the value
pub digit_more : (s : List ℕ) (i v : ℕ) → i < length s → is_digit (get_or s i 0) ≡ true → digits_from v (drop i s) ≡ digits_from (v * 10 + (get_or s i 0 - 48)) (drop (i + 1) s)
unfolding digits_from every value_from
digit_more s i v h e = rw (add-one, drop-cons s i 0 h, e)

pub digit_bad : (s : List ℕ) (i v : ℕ) → i < length s → is_digit (get_or s i 0) ≡ false → digits_from v (drop i s) ≡ None
unfolding digits_from every value_from
digit_bad s i v h e = rw (drop-cons s i 0 h, e)

pub digit_none : (s : List ℕ) (i v : ℕ) → length s ≤ i → digits_from v (drop i s) ≡ Some v
unfolding digits_from every value_from
digit_none s i v h = rw (drop_of_length-le s h)

pub digit_small : (b : ℕ) → is_digit b ≡ true → b - 48 ≤ 9
unfolding is_digit
digit_small b e = grind (arith, nat_tests)

pub ten_more : (v d i : ℕ) → v < 10 ^ i → d ≤ 9 → v * 10 + d < 10 ^ (i + 1)
ten_more v d i h k = rw (add-one, pow-suc) (omega arith)

pub ten_below : (v i : ℕ) → v < 10 ^ i → i ≤ 10 → v < 10000000000
ten_below v i h k = lt_of_lt_of_le h (pow-le-pow_right (omega arith) k)

-- which texts are numbers
pub number_short : (s : List ℕ) → length s ≡ 0 → number_of s ≡ None
unfolding number_of is_number
number_short s e = simp e

pub number_long : (s : List ℕ) → 10 < length s → number_of s ≡ None
unfolding number_of is_number
number_long s h = simp (lt-leb _ _ h, and-false)

pub number_zero : (s : List ℕ) → 1 < length s → get_or s 0 0 ≡ 48 → number_of s ≡ None
unfolding number_of is_number leading_zero
number_zero s h e = simp (lt-ltb _ _ h, e, and-false)

pub number_is : (s : List ℕ) → 1 ≤ length s → length s ≤ 10 → leading_zero s ≡ false → digits_from 0 s ≡ number_of s
unfolding number_of is_number value_of digits_from
number_is s h k e = simp (le-leb _ _ h, le-leb _ _ k, e)

-- what read_number says of a part
pub number_bad : (p : List ℕ) → number_of p ≡ None → is_number p ≡ false
unfolding number_of
number_bad p e = go (is_number p) e
  where
    go : (t : Bool) → cond t (Some (value_of p)) None ≡ None → t ≡ false
    go true h = let z : ◌≡◌ {A = ℕ} 0 1 = cc in absurd (omega arith)
    go false h = refl

pub number_good : (p : List ℕ) (v : ℕ) → number_of p ≡ Some v → (is_number p ≡ true) × (value_of p ≡ v)
unfolding number_of
number_good p v e = go (is_number p) e
  where
    go : (t : Bool) → cond t (Some (value_of p)) None ≡ Some v → (t ≡ true) × (value_of p ≡ v)
    go true h = (refl, cc)
    go false h = let z : ◌≡◌ {A = ℕ} 0 1 = cc in absurd (omega arith)
