-- Parts joined again are the text that was split: at a byte, into fields, into lines.
-- Assumes nothing.
use Prim.Native.Nat.{ℕ, suc, ◌-◌, ◌≤◌}
use mathlib.Core.Path.{◌≡◌, refl, sym, ◌∙◌}
use mathlib.Core.Bool.{true}
use mathlib.Core.List.{List, [], ◌∷◌, ◌++◌, nil≢cons, head-eq_of_cons-eq, tail-eq_of_cons-eq}
use native.Mathlib.Omega.{arith}
use lib.Dec.{eqb}
use lib.ListN.{length, get_or, take}
use lib.Seq.{take-suc, take-length}
use borrow.Author.Tests.{eqb-true, eq-eqb}
use Rattle.rules.specs.Bytes.{same}
use Rattle.rules.specs.Lines.{on_first, split_on, lines, fields, behind, parted, line_of}
use Rattle.rules.proofs.Tests.{and_left, and_right, and_both, both_ways}
use Rattle.rules.proofs.Says.{by_test}

-- the same bytes, as an equation
pub same_eq : (s t : List ℕ) → same s t ≡ true → s ≡ t
unfolding same
same_eq [] [] e = refl
same_eq [] (y ∷ t) e = absurd (both_ways e refl)
same_eq (x ∷ s) [] e = absurd (both_ways e refl)
same_eq (x ∷ s) (y ∷ t) e = rw (eqb-true x y (and_left _ _ e), same_eq s t (and_right (eqb x y) _ e))

pub eq_same : (s t : List ℕ) → s ≡ t → same s t ≡ true
unfolding same
eq_same [] [] e = refl
eq_same [] (y ∷ t) e = absurd (nil≢cons e)
eq_same (x ∷ s) [] e = absurd (nil≢cons (sym e))
eq_same (x ∷ s) (y ∷ t) e = and_both (eq-eqb x y (head-eq_of_cons-eq e)) (eq_same s t (tail-eq_of_cons-eq e))

-- a byte put in front of the first part stands in front of the whole
parted_first : (b x : ℕ) (parts : List (List ℕ)) → parted b (on_first x parts) ≡ x ∷ parted b parts
unfolding parted on_first behind
parted_first b x [] = refl
parted_first b x (part ∷ parts) = refl

-- an empty first part leaves its separating byte in front, if there are more parts
parted_empty : (b : ℕ) (parts : List (List ℕ)) → 1 ≤ length parts → parted b ([] ∷ parts) ≡ b ∷ parted b parts
unfolding parted behind
parted_empty b [] h = absurd (omega arith)
parted_empty b (part ∷ parts) h = refl

some_first : (x : ℕ) (parts : List (List ℕ)) → 1 ≤ length (on_first x parts)
unfolding on_first
some_first x [] = omega arith
some_first x (part ∷ parts) = omega arith

pub some_parts : (b : ℕ) (s : List ℕ) → 1 ≤ length (split_on b s)
unfolding split_on
some_parts b [] = omega arith
some_parts b (x ∷ s) = by_test (λ ps. 1 ≤ length ps) (eqb x b) {x = [] ∷ split_on b s} (λ e. omega arith) (λ e. some_first x (split_on b s))

pub parted_split : (b : ℕ) (s : List ℕ) → parted b (split_on b s) ≡ s
unfolding split_on parted behind
parted_split b [] = refl
parted_split b (x ∷ s) =
    by_test (λ ps. parted b ps ≡ x ∷ s) (eqb x b)
    (λ e. parted_empty b (split_on b s) (some_parts b s) ∙ rw (parted_split b s, eqb-true x b e))
    (λ e. parted_first b x (split_on b s) ∙ rw (parted_split b s))

-- all but the last byte, and the last byte
but_last : (l : List ℕ) → 1 ≤ length l → take (length l - 1) l ++ (get_or l (length l - 1) 0 ∷ []) ≡ l
but_last l h =
    let n : suc (length l - 1) ≡ length l = omega arith in
    sym (take-suc l (length l - 1) 0 (omega arith)) ∙ rw (n, take-length)

-- the line of a line's fields, where it has its LF
pub line_joined : (l : List ℕ) → get_or l (length l - 1) 0 ≡ 10 → line_of (fields l) ≡ l
unfolding line_of fields
line_joined [] e = absurd (omega arith)
line_joined (x ∷ s) e = rw (parted_split, ← e) (but_last (x ∷ s) (omega arith))

-- lines one after another
abbrev pub joined : List (List ℕ) → List ℕ
joined [] = []
joined (l ∷ ls) = l ++ joined ls

joined_first : (x : ℕ) (ls : List (List ℕ)) → joined (on_first x ls) ≡ x ∷ joined ls
unfolding on_first
joined_first x [] = refl
joined_first x (l ∷ ls) = refl

pub joined_lines : (s : List ℕ) → joined (lines s) ≡ s
unfolding lines
joined_lines [] = refl
joined_lines (x ∷ s) =
    by_test (λ ls. joined ls ≡ x ∷ s) (eqb x 10)
    (λ e. rw (joined_lines s))
    (λ e. joined_first x (lines s) ∙ rw (joined_lines s))
