-- A number is written as it was read: `decimal` of the value of a number's digits is those digits.
-- Assumes nothing.
use Prim.Native.Nat.{ℕ, zero, suc, ◌+◌, ◌-◌, ◌*◌, ◌/◌, ◌%◌, ◌^◌, ◌<◌, ◌≤◌}
use mathlib.Core.Path.{◌≡◌, sym, ◌∙◌}
use mathlib.Core.Bool.{true, false, not, ◌&&◌}
use mathlib.Core.List.{List, [], ◌∷◌, ◌++◌, append-nil, append_assoc}
use native.Mathlib.Nat.{pow-suc, pow-le-pow_right, lt_of_lt_of_le}
use native.Mathlib.Omega.{arith}
use lib.Dec.{leb, ltb, eqb}
use lib.ListN.{length}
use borrow.Author.Tests.{leb-true, lt-ltb, eq-eqb, not-true}
use Rattle.rules.specs.Tests.{every}
use Rattle.rules.specs.Number.{is_digit, leading_zero, is_number, value_from, value_of, digits_of, decimal}
use Rattle.rules.proofs.Decimal.{digits_low, digits_high}
use Rattle.rules.proofs.Tests.{and_left, and_right, and_both, both_ways}

-- more digits than x has change nothing
pub more_digits : (n x : ℕ) → x < 10 ^ suc n → digits_of (suc (suc n)) x ≡ digits_of (suc n) x
unfolding digits_of
more_digits zero x h = rw (lt-ltb x 10 h)
more_digits (suc n) x h =
    let k : x < 10 ^ suc n * 10 = rw pow-suc at h in
    rw (more_digits n (x / 10) (omega arith))

decimal_low : (x : ℕ) → x < 10 → decimal x ≡ (48 + x) ∷ []
unfolding decimal
decimal_low x h = digits_low 19 x h

-- one more digit behind those of v
decimal_more : (v d : ℕ) → 1 ≤ v → v < 10 ^ 10 → d < 10 → decimal (v * 10 + d) ≡ decimal v ++ ((48 + d) ∷ [])
unfolding decimal
decimal_more v d h k l =
    let q : (v * 10 + d) / 10 ≡ v = omega arith in
    let r : (v * 10 + d) % 10 ≡ d = omega arith in
    rw (digits_high 19 (v * 10 + d) (omega arith), q, r, more_digits 18 v (omega arith))

digit_low : (b : ℕ) → is_digit b ≡ true → 48 ≤ b
unfolding is_digit
digit_low b e = leb-true 48 b (and_left _ _ e)

digit_high : (b : ℕ) → is_digit b ≡ true → b ≤ 57
unfolding is_digit
digit_high b e = leb-true b 57 (and_right (leb 48 b) _ e)

-- digits read after v, which has at most n digits, stand behind those of v
behind_digits : (n v : ℕ) (s : List ℕ) → 1 ≤ v → v < 10 ^ n → n + length s ≤ 10 → every is_digit s ≡ true → decimal (value_from v s) ≡ decimal v ++ s
unfolding value_from every
behind_digits n v [] h k l e = sym (append-nil (decimal v))
behind_digits n v (b ∷ s) h k l e =
    let lo : 48 ≤ b = digit_low b (and_left _ _ e) in
    let hi : b ≤ 57 = digit_high b (and_left _ _ e) in
    let byte : 48 + (b - 48) ≡ b = omega arith in
    let few : n ≤ 10 = omega arith in
    let small : v < 10 ^ 10 = lt_of_lt_of_le k (pow-le-pow_right (omega arith) few) in
    let next : v * 10 + (b - 48) < 10 ^ suc n = rw pow-suc (omega arith) in
    behind_digits (suc n) (v * 10 + (b - 48)) s (omega arith) next (omega arith) (and_right (is_digit b) _ e)
    ∙ rw (decimal_more v (b - 48) h small (omega arith), byte, append_assoc)

-- digits, at most 10 of them, with no 0 in front of others
digits_text : (s : List ℕ) → 1 ≤ length s → length s ≤ 10 → leading_zero s ≡ false → every is_digit s ≡ true → decimal (value_of s) ≡ s
unfolding value_of value_from every leading_zero
digits_text [] h k z e = absurd (omega arith)
digits_text (b ∷ s) h k z e = go s h k z (and_right (is_digit b) _ e)
  where
    lo : 48 ≤ b
    lo = digit_low b (and_left _ _ e)

    hi : b ≤ 57
    hi = digit_high b (and_left _ _ e)

    -- the first digit alone
    alone : decimal (0 * 10 + (b - 48)) ≡ b ∷ []
    alone = let byte : 48 + (0 * 10 + (b - 48)) ≡ b = omega (arith, lo) in rw byte at (decimal_low (0 * 10 + (b - 48)) (omega (arith, lo, hi)))

    go : (s : List ℕ) → 1 ≤ suc (length s) → suc (length s) ≤ 10 → (ltb 1 (suc (length s)) && eqb b 48) ≡ false → every is_digit s ≡ true → decimal (value_from (0 * 10 + (b - 48)) s) ≡ b ∷ s
    go [] h k z f = alone
    go (c ∷ s) h k z f =
        let other : b ≡ 48 → ⊥ = λ q. both_ways (and_both (lt-ltb 1 (suc (suc (length s))) (omega arith)) (eq-eqb b 48 q)) z in
        behind_digits 1 (0 * 10 + (b - 48)) (c ∷ s) (omega (arith, lo, other)) (omega (arith, hi)) (omega arith) f ∙ rw alone

pub number_text : (s : List ℕ) → is_number s ≡ true → decimal (value_of s) ≡ s
unfolding is_number
number_text s e =
    let front : (leb 1 (length s) && leb (length s) 10 && not (leading_zero s)) ≡ true = and_left _ _ e in
    let long : (leb 1 (length s) && leb (length s) 10) ≡ true = and_left _ _ front in
    digits_text s
    (leb-true 1 (length s) (and_left _ _ long))
    (leb-true (length s) 10 (and_right (leb 1 (length s)) _ long))
    (not-true _ (and_right (leb 1 (length s) && leb (length s) 10) _ front))
    (and_right (leb 1 (length s) && leb (length s) 10 && not (leading_zero s)) _ e)
