-- Bytes as people see them: a tab, LF, CR and a backslash behind a backslash, other bytes that are not printed as two hexadecimal digits.
use Rattle.std.specs.Prelude.{ℕ, ◌+◌, ◌/◌, ◌%◌, Bool, cond, ◌&&◌, List, [], ◌∷◌, ◌++◌, leb, ltb, eqb, Option, Some, None}

-- the digit x from 0 to 15
unfoldable pub hex_digit : ℕ → ℕ
hex_digit x = cond (ltb x 10) (48 + x) (87 + x)

-- the letter behind the backslash: t for a tab, n for LF, r for CR, the backslash itself; 0 for another byte
unfoldable pub escape_of : ℕ → ℕ
escape_of b = cond (eqb b 9) 116 (cond (eqb b 10) 110 (cond (eqb b 13) 114 (cond (eqb b 92) 92 0)))

-- the same as a choice
unfoldable pub escape_in : ℕ → Option ℕ
escape_in b = cond (eqb (escape_of b) 0) None (Some (escape_of b))

-- a byte from 32 to 126 is printed as it is
unfoldable pub is_printed : ℕ → Bool
is_printed b = leb 32 b && leb b 126

unfoldable pub shown_byte : ℕ → List ℕ
shown_byte b =
    cond (ltb 0 (escape_of b)) (92 ∷ escape_of b ∷ [])
    (cond (is_printed b) (b ∷ [])
    (92 ∷ 120 ∷ hex_digit (b / 16) ∷ hex_digit (b % 16) ∷ []))

unfoldable pub shown : List ℕ → List ℕ
shown [] = []
shown (b ∷ s) = shown_byte b ++ shown s
