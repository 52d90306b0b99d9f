-- A number below 10 ^ 10 is written in 1 to 10 digits that read back as it.
-- Assumes nothing.
use mathlib.Core.Path.{◌≡◌, refl}
use mathlib.Core.Bool.{Bool, true, false, cond, and-false}
use mathlib.Core.List.{List, [], ◌∷◌, ◌++◌}
use Prim.Native.Nat.{ℕ, zero, suc, ◌+◌, ◌-◌, ◌*◌, ◌/◌, ◌%◌, ◌^◌, ◌≤◌, ◌<◌}
use native.Mathlib.Nat.{pow-suc}
use native.Mathlib.Omega.{arith}
use lib.Dec.{ltb}
use lib.ListN.{length, get_or, length-append, get_or-append}
use borrow.Author.Tests.{ne_eqb, le-leb, lt-ltb, le-ltb, ltb-true, ltb-false}
use Rattle.rules.specs.Tests.{every}
use Rattle.rules.specs.Number.{is_digit, leading_zero, is_number, value_from, value_of, digits_of, decimal}
use Rattle.rules.proofs.Tests.{and_both}
use Rattle.rules.proofs.Every.{every_append}

-- one digit less
tenth : (n x : ℕ) → x < 10 ^ suc n → x / 10 < 10 ^ n
tenth n x h = let k : x < 10 ^ n * 10 = rw pow-suc at h in omega arith

-- a number below ten is one digit
pub digits_low : (n x : ℕ) → x < 10 → digits_of (suc n) x ≡ (48 + x) ∷ []
unfolding digits_of
digits_low n x h = rw (lt-ltb x 10 h)

-- any other is its tenth and a last digit
pub digits_high : (n x : ℕ) → 10 ≤ x → digits_of (suc n) x ≡ digits_of n (x / 10) ++ ((48 + x % 10) ∷ [])
unfolding digits_of
digits_high n x h = rw (le-ltb x 10 h)

-- one more digit counts ten times what came before
pub value_append : (v : ℕ) (w : List ℕ) (b : ℕ) → value_from v (w ++ (b ∷ [])) ≡ value_from v w * 10 + (b - 48)
unfolding value_from
value_append v [] b = refl
value_append v (x ∷ w) b = value_append (v * 10 + (x - 48)) w b

-- what is written for a number below ten is a digit
pub digit : (d : ℕ) → d < 10 → is_digit (48 + d) ≡ true
unfolding is_digit
digit d h = and_both (le-leb 48 (48 + d) (omega arith)) (le-leb (48 + d) 57 (omega arith))

-- digits alone are written
digits_all : (n x : ℕ) → every is_digit (digits_of n x) ≡ true
unfolding digits_of every
digits_all zero x = refl
digits_all (suc n) x = go (ltb x 10) refl (digits_all n (x / 10))
  where
    go : (b : Bool) → ltb x 10 ≡ b → every is_digit (digits_of n (x / 10)) ≡ true → every is_digit (cond b ((48 + x) ∷ []) (digits_of n (x / 10) ++ ((48 + x % 10) ∷ []))) ≡ true
    go true e ih = rw (digit x (ltb-true x 10 e))
    go false e ih = every_append is_digit (digits_of n (x / 10)) _ ih (rw (digit (x % 10) (omega arith)))

-- w is what x is written as: of the value x, at least one, and the first is no 0 unless x is 0
record Written (x : ℕ) (w : List ℕ) : Type 0 where
  value : value_from 0 w ≡ x
  some : 1 ≤ length w
  first : 1 ≤ x → 48 < get_or w 0 0

written_low : (x : ℕ) → x < 10 → Written x ((48 + x) ∷ [])
unfolding value_from
written_low x h = record { value = omega arith; some = omega arith; first = omega arith }

written_more : (x d : ℕ) (w : List ℕ) → 1 ≤ x → d < 10 → Written x w → Written (x * 10 + d) (w ++ ((48 + d) ∷ []))
written_more x d w h k g =
    record {
      value = omega (arith, value_append 0 w (48 + d), g.value);
      some = simp length-append (omega arith);
      first = λ _. rw (get_or-append w ((48 + d) ∷ []) 0 0 g.some) (g.first h);
    }

written : (n x : ℕ) → x < 10 ^ suc n → Written x (digits_of (suc n) x)
written zero x h = rw (digits_low 0 x h) (written_low x h)
written (suc n) x h = go (ltb x 10) refl (written n (x / 10) (tenth (suc n) x h))
  where
    go : (t : Bool) → ltb x 10 ≡ t → Written (x / 10) (digits_of (suc n) (x / 10)) → Written x (digits_of (suc (suc n)) x)
    go true q ih = let k : x < 10 = ltb-true x 10 q in rw (digits_low (suc n) x k) (written_low x k)
    go false q ih =
        let k : 10 ≤ x = ltb-false x 10 q in
        let e : x / 10 * 10 + x % 10 ≡ x = omega arith in
        rw (digits_high (suc n) x k) (rw e at (written_more (x / 10) (x % 10) (digits_of (suc n) (x / 10)) (omega arith) (omega arith) ih))

-- a number below 10 ^ (m + 1) has at most m + 1 digits
length_below : (n m x : ℕ) → x < 10 ^ suc m → length (digits_of n x) ≤ suc m
unfolding digits_of
length_below zero m x h = omega arith
length_below (suc n) zero x h = rw (digits_low n x h) (omega arith)
length_below (suc n) (suc m) x h = go (ltb x 10) refl (length_below n m (x / 10) (tenth (suc m) x h))
  where
    go : (t : Bool) → ltb x 10 ≡ t → length (digits_of n (x / 10)) ≤ suc m → length (digits_of (suc n) x) ≤ suc (suc m)
    go true q ih = rw (digits_low n x (ltb-true x 10 q)) (omega arith)
    go false q ih = rw (digits_high n x (ltb-false x 10 q)) (simp length-append (omega arith))

-- no 0 with more digits behind it
no_zero : (x : ℕ) → x < 10 ^ 20 → leading_zero (digits_of 20 x) ≡ false
unfolding leading_zero
no_zero x h = go (ltb x 1) refl
  where
    go : (t : Bool) → ltb x 1 ≡ t → leading_zero (digits_of 20 x) ≡ false
    go true q = let k : x < 10 = omega (arith, ltb-true x 1 q) in rw (digits_low 19 x k)
    go false q =
        let k : 48 < get_or (digits_of 20 x) 0 0 = (written 19 x h).first (ltb-false x 1 q) in
        rw (ne_eqb (get_or (digits_of 20 x) 0 0) 48 (omega arith)) (and-false (ltb 1 (length (digits_of 20 x))))

-- what a caller needs of it: digits, at least one, of this value, at most m + 1 below 10 ^ (m + 1), and a number to the reader
pub decimal_digits : (x : ℕ) → every is_digit (decimal x) ≡ true
unfolding decimal
decimal_digits x = digits_all 20 x

pub decimal_some : (x : ℕ) → x < 10 ^ 20 → 1 ≤ length (decimal x)
unfolding decimal
decimal_some x h = (written 19 x h).some

pub decimal_value : (x : ℕ) → x < 10 ^ 20 → value_of (decimal x) ≡ x
unfolding decimal value_of
decimal_value x h = (written 19 x h).value

pub decimal_length : (m x : ℕ) → x < 10 ^ suc m → length (decimal x) ≤ suc m
unfolding decimal
decimal_length m x h = length_below 20 m x h

pub decimal_number : (x : ℕ) → x < 10 ^ 10 → is_number (decimal x) ≡ true
unfolding decimal is_number
decimal_number x h =
    let g = written 19 x (omega arith) in
    rw (le-leb _ _ g.some, le-leb _ _ (length_below 20 9 x h), no_zero x (omega arith), digits_all 20 x)
