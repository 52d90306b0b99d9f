-- Numbers as they are written (01, The plan file: "A number is decimal digits, 1 to 10 of them, without a leading zero unless it is 0").
use Rattle.std.specs.Prelude.{ℕ, zero, suc, ◌+◌, ◌-◌, ◌*◌, ◌/◌, ◌%◌, Bool, cond, not, ◌&&◌, List, [], ◌∷◌, ◌++◌, leb, ltb, eqb, length, get_or}
use Rattle.rules.specs.Tests.{every}

-- the byte is one of 0 to 9
unfoldable pub is_digit : ℕ → Bool
is_digit b = leb 48 b && leb b 57

-- a 0 with more behind it
unfoldable pub leading_zero : List ℕ → Bool
leading_zero s = ltb 1 (length s) && eqb (get_or s 0 0) 48

unfoldable pub is_number : List ℕ → Bool
is_number s = leb 1 (length s) && leb (length s) 10 && not (leading_zero s) && every is_digit s

-- the value of the digits of s, read after digits whose value is v
unfoldable pub value_from : ℕ → List ℕ → ℕ
value_from v [] = v
value_from v (b ∷ s) = value_from (v * 10 + (b - 48)) s

unfoldable pub value_of : List ℕ → ℕ
value_of s = value_from 0 s

-- the decimal digits of x, if they are at most n
unfoldable pub digits_of : ℕ → ℕ → List ℕ
digits_of zero x = []
digits_of (suc n) x = cond (ltb x 10) ((48 + x) ∷ []) (digits_of n (x / 10) ++ ((48 + x % 10) ∷ []))

-- the decimal digits of x; 20 are enough for any 64-bit number
unfoldable pub decimal : ℕ → List ℕ
decimal x = digits_of 20 x
