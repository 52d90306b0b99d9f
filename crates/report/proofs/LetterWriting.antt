-- The letters of a set, one by one.
-- Assumes nothing.
use Prim.Native.Nat.{ℕ, zero, suc, ◌+◌, ◌<◌}
use mathlib.Core.Path.{◌≡◌, refl, ap}
use mathlib.Core.Bool.{Bool, true, false, cond}
use mathlib.Core.List.{List, [], ◌∷◌, ◌++◌}
use native.Mathlib.Nat.{not-suc-le-zero}
use native.Mathlib.Numerals.{add-one}
use native.Mathlib.Omega.{arith}
use lib.ListN.{length, get_or, take}
use Rattle.rules.specs.Conditions.{condition_count, condition_letters, has, letters_from}

-- one letter more
in_front : (b : Bool) (x : ℕ) (w v : List ℕ) → cond b (x ∷ (w ++ v)) (w ++ v) ≡ cond b (x ∷ w) w ++ v
in_front true x w v = refl
in_front false x w v = refl

from_more : (m c n k : ℕ) (xs : List ℕ) → k ≡ c + n → n < length xs → letters_from c (take (suc n) xs) m ≡ letters_from c (take n xs) m ++ letters_from k (get_or xs n 0 ∷ []) m
unfolding letters_from
from_more m c n k [] e h = absurd (not-suc-le-zero h)
from_more m c zero k (x ∷ xs) e h = ap (λ (j : ℕ). letters_from j (x ∷ []) m) (omega arith)
from_more m c (suc n) k (x ∷ xs) e h = rw (from_more m (suc c) n k xs (omega arith) (omega arith)) (in_front (has m c) x _ _)

-- the letters of one condition more
pub letters_more : (m c : ℕ) → c < condition_count → letters_from 0 (take (c + 1) condition_letters) m ≡ letters_from 0 (take c condition_letters) m ++ letters_from c (get_or condition_letters c 0 ∷ []) m
unfolding condition_letters
letters_more m c k = rw add-one (from_more m 0 c c condition_letters (omega arith) k)
