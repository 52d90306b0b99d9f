-- What `==` on two slices says, in the rules' word.
-- Assumes nothing.
use mathlib.Core.Path.{◌≡◌, refl, ap}
use mathlib.Core.Bool.{◌&&◌}
use mathlib.Core.List.{List, [], ◌∷◌}
use Prim.Native.Nat.{ℕ}
use lib.Dec.{eqb}
use lib.Pointwise.{pointwise}
use Rattle.rules.specs.Bytes.{same}

pub same_is : (s t : List ℕ) → same s t ≡ pointwise eqb s t
unfolding same
same_is [] [] = refl
same_is [] (y ∷ t) = refl
same_is (x ∷ s) [] = refl
same_is (x ∷ s) (y ∷ t) = ap (λ b. eqb x y && b) (same_is s t)
