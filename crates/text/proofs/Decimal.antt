-- Laws of `decimal`: its digits from the last on, its length, and a digit written.
-- Assumes nothing.
use mathlib.Core.Path.{◌≡◌, sym, ap, ◌∙◌}
use mathlib.Core.List.{List, [], ◌∷◌, ◌++◌}
use Prim.Native.Nat.{ℕ, zero, suc, max, ◌+◌, ◌-◌, ◌*◌, ◌/◌, ◌%◌, ◌^◌, ◌≤◌, ◌<◌}
use native.Mathlib.Omega.{arith}
use native.Mathlib.Nat.{pow-suc, pow-le-pow_right}
use lib.ListN.{length, set, length-append}
use Rattle.std.proofs.lemmas.Bool.{cases_lt}
use Rattle.text.specs.Text.{put}
use Rattle.text.proofs.Put.{put_back, put_one}
use Rattle.rules.specs.Number.{decimal}
use Rattle.rules.proofs.Decimal.{digits_low, digits_high, decimal_length}
use Rattle.rules.proofs.NumberText.{more_digits}

pub decimal_low : (x : ℕ) → x < 10 → decimal x ≡ (48 + x) ∷ []
unfolding decimal
decimal_low x h = digits_low 19 x h

pub decimal_high : (x : ℕ) → 10 ≤ x → x < 2 ^ 64 → decimal x ≡ decimal (x / 10) ++ ((48 + x % 10) ∷ [])
unfolding decimal
decimal_high x h k = digits_high 19 x h ∙ ap (λ w. w ++ ((48 + x % 10) ∷ [])) (sym (more_digits 18 (x / 10) (omega arith)))

pub decimal_most : (x : ℕ) → x < 2 ^ 64 → length (decimal x) ≤ 20
decimal_most x h = decimal_length 19 x (omega arith)

-- by the power of ten that x reaches
decimal_digits : (k x : ℕ) → 10 ^ k ≤ x → x < 10 * 10 ^ k → x < 2 ^ 64 → length (decimal x) ≡ k + 1
decimal_digits zero x h m f = ap length (decimal_low x (omega arith))
decimal_digits (suc k) x h m f =
    let more : 10 ^ suc k ≡ 10 ^ k * 10 = pow-suc 10 k in
    let low : 0 ≤ k = omega arith in
    let some : 10 ^ 0 ≤ 10 ^ k = pow-le-pow_right (omega arith) low in
    simp length-append at (ap length (decimal_high x (omega (arith, more)) f)) ∙ omega (arith, decimal_digits k (x / 10) (omega (arith, more)) (omega (arith, more)) (omega arith))

pub decimal_reaches : (k x : ℕ) → 10 ^ k ≤ max x 1 → max x 1 < 10 * 10 ^ k → x < 2 ^ 64 → length (decimal x) ≡ k + 1
decimal_reaches k zero h m f = ap length (decimal_low 0 (omega arith)) ∙ sym (ap length (decimal_low 1 (omega arith))) ∙ decimal_digits k 1 h m (omega arith)
decimal_reaches k (suc x) h m f = decimal_digits k (suc x) (omega arith) (omega arith) f

one_digit : (y : ℕ) → y < 10 → length (decimal y) ≡ 1
one_digit y h = ap length (decimal_low y h)

more_left : (y : ℕ) → 10 ≤ y → y < 2 ^ 64 → length (decimal y) ≡ length (decimal (y / 10)) + 1
more_left y h f = simp length-append at (ap length (decimal_high y h f))

pub some_digit : (y : ℕ) → y < 2 ^ 64 → 1 ≤ length (decimal y)
some_digit y f = grind (arith, cases_lt y 10, one_digit, more_left)

two_digits : (y : ℕ) → y < 2 ^ 64 → 10 ≤ y → 2 ≤ length (decimal y)
two_digits y f h = omega (arith, more_left y h f, some_digit (y / 10) (omega arith))

-- the last digit of y, written before the end i of its digits: the others are left, or none is
pub last_digit : (l : List ℕ) (at i y : ℕ) → y < 2 ^ 64 → i ≡ at + length (decimal y) → i ≤ length l → at < i - 1 → (i - 1 ≡ at + length (decimal (y / 10))) × (put (set l (i - 1) (48 + y % 10)) at (decimal (y / 10)) ≡ put l at (decimal y))
last_digit l at i y f e n h =
    let many : 10 ≤ y = grind (arith, one_digit) in
    let j : i - 1 ≡ at + length (decimal (y / 10)) = omega (arith, more_left y many f) in
    (j, rw j (sym (put_back l at (48 + y % 10) (decimal (y / 10)) (omega arith)) ∙ ap (put l at) (sym (decimal_high y many f))))

pub first_digit : (l : List ℕ) (at i y : ℕ) → y < 2 ^ 64 → i ≡ at + length (decimal y) → i ≤ length l → i - 1 ≡ at → at < i → set l (i - 1) (48 + y % 10) ≡ put l at (decimal y)
first_digit l at i y f e n h m =
    let one : y < 10 = grind (arith, two_digits) in
    let same : y % 10 ≡ y = omega arith in
    rw (h, same, decimal_low y one) (put_one l at (48 + y) (omega arith))
