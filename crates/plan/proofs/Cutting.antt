-- Laws of a file's lines at a cursor: the line up to the next LF and the lines behind it, or a last line that lacks one.
-- Assumes nothing.
use Prim.Native.Nat.{ℕ, zero, suc, ◌+◌, ◌-◌, ◌≤◌, ◌<◌}
use mathlib.Core.Path.{◌≡◌, refl, ap}
use mathlib.Core.Bool.{Bool, true, false, cond}
use mathlib.Core.List.{List, [], ◌∷◌, ◌++◌}
use native.Mathlib.Nat.{not-suc-le-zero, le_of_suc-le-suc}
use native.Mathlib.Omega.{arith}
use lib.Dec.{eqb}
use lib.ListN.{length, get_or, take, drop, length-append, length-drop, drop_of_length-le}
use lib.Seq.{drop-drop, take_at}
use borrow.Author.Tests.{eqb-true}
use Rattle.rules.specs.Bytes.{bytes}
use Rattle.rules.specs.Lines.{on_first, split_on, lines, ended, fields}
use Rattle.rules.proofs.Parted.{ended_line}
use Rattle.text.specs.Text.{index_of}

-- a line of the bytes w
abbrev pub line_with : List ℕ → List ℕ
line_with w = w ++ bytes "\n"

first_line : (s : List ℕ) → index_of 10 s < length s → lines s ≡ line_with (take (index_of 10 s) s) ∷ lines (drop (suc (index_of 10 s)) s)
unfolding lines on_first index_of
first_line [] h = absurd (not-suc-le-zero h)
first_line (x ∷ s) h = go (eqb x 10) refl (first_line s) h
  where
    go : (t : Bool) → eqb x 10 ≡ t → (index_of 10 s < length s → lines s ≡ line_with (take (index_of 10 s) s) ∷ lines (drop (suc (index_of 10 s)) s)) → cond t 0 (suc (index_of 10 s)) < suc (length s) → cond t ((x ∷ []) ∷ lines s) (on_first x (lines s)) ≡ line_with (take (cond t 0 (suc (index_of 10 s))) (x ∷ s)) ∷ lines (drop (suc (cond t 0 (suc (index_of 10 s)))) (x ∷ s))
    go true e ih k = ap (λ y. (y ∷ []) ∷ lines s) (eqb-true x 10 e)
    go false e ih k = rw (ih (le_of_suc-le-suc k))

only_line : (x : ℕ) (s : List ℕ) → length (x ∷ s) ≤ index_of 10 (x ∷ s) → lines (x ∷ s) ≡ (x ∷ s) ∷ []
unfolding lines on_first index_of
only_line x [] h = go (eqb x 10) h
  where
    go : (t : Bool) → 1 ≤ cond t 0 1 → cond t ((x ∷ []) ∷ []) ((x ∷ []) ∷ []) ≡ (x ∷ []) ∷ []
    go true k = refl
    go false k = refl
only_line x (y ∷ s) h = go (eqb x 10) (only_line y s) h
  where
    go : (t : Bool) → (length (y ∷ s) ≤ index_of 10 (y ∷ s) → lines (y ∷ s) ≡ (y ∷ s) ∷ []) → suc (length (y ∷ s)) ≤ cond t 0 (suc (index_of 10 (y ∷ s))) → cond t ((x ∷ []) ∷ lines (y ∷ s)) (on_first x (lines (y ∷ s))) ≡ (x ∷ y ∷ s) ∷ []
    go true ih k = absurd (not-suc-le-zero k)
    go false ih k = rw (ih (le_of_suc-le-suc k))

-- the bytes before the first b are no b
not_yet : (b : ℕ) (s : List ℕ) (i : ℕ) → i < index_of b s → eqb (get_or s i 0) b ≡ false
unfolding index_of
not_yet b [] i h = absurd (not-suc-le-zero h)
not_yet b (x ∷ s) zero h = go (eqb x b) h
  where
    go : (t : Bool) → 1 ≤ cond t 0 (suc (index_of b s)) → t ≡ false
    go true k = absurd (not-suc-le-zero k)
    go false k = refl
not_yet b (x ∷ s) (suc i) h = go (eqb x b) (not_yet b s i) h
  where
    go : (t : Bool) → (i < index_of b s → eqb (get_or s i 0) b ≡ false) → suc (suc i) ≤ cond t 0 (suc (index_of b s)) → eqb (get_or s i 0) b ≡ false
    go true ih k = absurd (not-suc-le-zero k)
    go false ih k = ih (le_of_suc-le-suc k)

-- at the end of the file
pub lines_end : (s : List ℕ) (at : ℕ) → length s ≤ at → lines (drop at s) ≡ []
unfolding lines
lines_end s at h = rw (drop_of_length-le s h)

module _ (s : List ℕ) (at end : ℕ) (e : end ≡ at + index_of 10 (drop at s)) where
  pub lines_next : end < length s → lines (drop at s) ≡ line_with (take (end - at) (drop at s)) ∷ lines (drop (end + 1) s)
  lines_next h =
      let k : index_of 10 (drop at s) < length (drop at s) = simp length-drop (omega arith) in
      let i : end - at ≡ index_of 10 (drop at s) = omega arith in
      let j : end + 1 ≡ at + suc (index_of 10 (drop at s)) = omega arith in
      rw (i, j, ← drop-drop (suc (index_of 10 (drop at s))) at s) (first_line (drop at s) k)

  pub lines_last : at < length s → length s ≤ end → lines (drop at s) ≡ drop at s ∷ []
  lines_last h k = go (drop at s) (simp length-drop (omega arith)) (simp length-drop (omega arith))
    where
      go : (w : List ℕ) → 1 ≤ length w → length w ≤ index_of 10 w → lines w ≡ w ∷ []
      go [] l m = absurd (not-suc-le-zero l)
      go (x ∷ w) l m = only_line x w m

  pub not_ended : at < length s → length s ≤ end → ended (drop at s) ≡ false
  unfolding ended
  not_ended h k =
      let l : length (drop at s) ≡ length s - at = length-drop at s in
      not_yet 10 (drop at s) (length (drop at s) - 1) (omega arith)

pub line_ended : (w : List ℕ) → ended (line_with w) ≡ true
line_ended w = ended_line w

pub line_fields : (w : List ℕ) → fields (line_with w) ≡ split_on 9 w
unfolding fields
line_fields w =
    let l : length w ≡ length (line_with w) - 1 = simp length-append (omega arith) in
    ap (split_on 9) (take_at w (bytes "\n") (length (line_with w) - 1) l)
