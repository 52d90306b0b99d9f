-- Parts that hold none of the byte between them come back when they are split, and a line of fields gives its fields back.
-- Assumes nothing.
use mathlib.Core.Path.{◌≡◌, refl, ap, ◌∙◌}
use mathlib.Core.Bool.{Bool, true, false, not}
use mathlib.Core.List.{List, [], ◌∷◌, ◌++◌, append-nil}
use Prim.Native.Nat.{ℕ, ◌-◌, ◌<◌}
use native.Mathlib.Omega.{arith}
use lib.Dec.{eqb}
use lib.ListN.{length, length-append}
use lib.Seq.{get_or_at, take_at}
use borrow.Author.Tests.{eqb-true, eq-eqb, lt-leb, not-true}
use Rattle.rules.specs.Bytes.{bytes}
use Rattle.rules.specs.Tests.{every}
use Rattle.rules.specs.Number.{is_digit, decimal}
use Rattle.rules.specs.Lines.{on_first, split_on, lines, ended, fields, behind, parted, line_of}
use Rattle.rules.proofs.Tests.{and_left, and_right, and_both, both_ways}
use Rattle.rules.proofs.Every.{every_append, every_weaker}
use Rattle.rules.proofs.Decimal.{decimal_digits}

-- w holds no byte b
abbrev pub free : ℕ → List ℕ → Bool
free b w = every (λ x. not (eqb x b)) w

-- digits hold no byte that is none
pub digits_free : (b : ℕ) (w : List ℕ) → is_digit b ≡ false → every is_digit w ≡ true → free b w ≡ true
digits_free b w h = every_weaker is_digit (λ x. not (eqb x b)) (λ x e. go x e (eqb x b) refl) w
  where
    go : (x : ℕ) → is_digit x ≡ true → (t : Bool) → eqb x b ≡ t → not t ≡ true
    go x e true q = absurd (both_ways e (rw (eqb-true x b q) h))
    go x e false q = refl

-- a byte below the digits is none
pub low_byte : (c : ℕ) → c < 48 → is_digit c ≡ false
unfolding is_digit
low_byte c h = rw (lt-leb 48 c h)

-- a written number holds digits alone
pub decimal_free : (c x : ℕ) → is_digit c ≡ false → free c (decimal x) ≡ true
decimal_free c x h = digits_free c (decimal x) h (decimal_digits x)

-- with no byte b there is one part
pub split_free : (b : ℕ) (w : List ℕ) → free b w ≡ true → split_on b w ≡ w ∷ []
unfolding every split_on on_first
split_free b [] e = refl
split_free b (x ∷ w) e = rw (not-true (eqb x b) (and_left (not (eqb x b)) _ e), split_free b w (and_right (not (eqb x b)) _ e))

-- the first byte b ends the first part
pub split_next : (b : ℕ) (w v : List ℕ) → free b w ≡ true → split_on b (w ++ (b ∷ v)) ≡ w ∷ split_on b v
unfolding every split_on on_first
split_next b [] v e = rw (eq-eqb b b refl)
split_next b (x ∷ w) v e = rw (not-true (eqb x b) (and_left (not (eqb x b)) _ e), split_next b w v (and_right (not (eqb x b)) _ e))

-- the parts come back
pub split_parted : (b : ℕ) (w : List ℕ) (ws : List (List ℕ)) → every (free b) (w ∷ ws) ≡ true → split_on b (parted b (w ∷ ws)) ≡ w ∷ ws
unfolding every parted behind
split_parted b w [] e = rw append-nil (split_free b w (and_left (free b w) _ e))
split_parted b w (v ∷ ws) e =
    split_next b w (v ++ behind b ws) (and_left (free b w) _ e) ∙ ap (λ ps. w ∷ ps) (split_parted b v ws (and_right (free b w) _ e))

-- a byte that is in no part and is not the byte between them is not in the whole
behind_free : (c b : ℕ) (ws : List (List ℕ)) → eqb b c ≡ false → every (free c) ws ≡ true → free c (behind b ws) ≡ true
unfolding every behind
behind_free c b [] h e = refl
behind_free c b (w ∷ ws) h e =
    and_both (ap not h) (every_append (λ x. not (eqb x c)) w (behind b ws) (and_left (free c w) _ e) (behind_free c b ws h (and_right (free c w) _ e)))

pub parted_free : (c b : ℕ) (ws : List (List ℕ)) → eqb b c ≡ false → every (free c) ws ≡ true → free c (parted b ws) ≡ true
unfolding every parted
parted_free c b [] h e = refl
parted_free c b (w ∷ ws) h e =
    every_append (λ x. not (eqb x c)) w (behind b ws) (and_left (free c w) _ e) (behind_free c b ws h (and_right (free c w) _ e))

-- the first LF ends the first line
pub lines_next : (w rest : List ℕ) → free 10 w ≡ true → lines (w ++ bytes "\n" ++ rest) ≡ (w ++ bytes "\n") ∷ lines rest
unfolding every lines on_first
lines_next [] rest e = refl
lines_next (x ∷ w) rest e = rw (not-true (eqb x 10) (and_left (not (eqb x 10)) _ e), lines_next w rest (and_right (not (eqb x 10)) _ e))

-- the last byte's place
last_at : (w : List ℕ) → length w ≡ length (w ++ bytes "\n") - 1
last_at w = omega (arith, length-append w (bytes "\n"))

-- a line with its LF has it
pub ended_line : (w : List ℕ) → ended (w ++ bytes "\n") ≡ true
unfolding ended
ended_line w = rw (get_or_at w 10 [] 0 (length (w ++ bytes "\n") - 1) (last_at w))

-- the fields come back
pub fields_line : (f : List ℕ) (fs : List (List ℕ)) → every (free 9) (f ∷ fs) ≡ true → fields (line_of (f ∷ fs)) ≡ f ∷ fs
unfolding fields line_of
fields_line f fs e =
    ap (split_on 9) (take_at (parted 9 (f ∷ fs)) (bytes "\n") (length (parted 9 (f ∷ fs) ++ bytes "\n") - 1) (last_at (parted 9 (f ∷ fs)))) ∙ split_parted 9 f fs e

-- a line of fields is the first line of what it begins
pub lines_line : (fs : List (List ℕ)) (rest : List ℕ) → every (free 10) fs ≡ true → lines (line_of fs ++ rest) ≡ line_of fs ∷ lines rest
unfolding line_of
lines_line fs rest e = lines_next (parted 9 fs) rest (parted_free 10 9 fs refl e)
