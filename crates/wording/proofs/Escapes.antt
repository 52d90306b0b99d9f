-- Bytes are shown one by one.
-- Assumes nothing.
use Prim.Native.Nat.{ℕ, ◌+◌, ◌<◌}
use native.Mathlib.Numerals.{add-one}
use lib.ListN.{length, get_or, take}
use lib.Seq.{take-suc}
use mathlib.Core.Path.{◌≡◌, sym}
use mathlib.Core.List.{List, [], ◌∷◌, ◌++◌, append_assoc, append-nil}
use Rattle.wording.specs.Shown.{shown_byte, shown}

-- one byte more
pub shown_more : (s : List ℕ) (b : ℕ) → shown (s ++ (b ∷ [])) ≡ shown s ++ shown_byte b
unfolding shown
shown_more [] b = append-nil (shown_byte b)
shown_more (x ∷ s) b = rw (shown_more s b) (sym (append_assoc (shown_byte x) (shown s) (shown_byte b)))

-- one byte more of a list
pub shown_next : (s : List ℕ) (i : ℕ) → i < length s → shown (take (i + 1) s) ≡ shown (take i s) ++ shown_byte (get_or s i 0)
shown_next s i h = rw (add-one, take-suc s i 0 h) (shown_more (take i s) (get_or s i 0))
