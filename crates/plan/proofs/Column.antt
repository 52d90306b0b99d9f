-- The rules' tests of activities are those of their ids.
-- Assumes nothing.
use Prim.Native.Nat.{ℕ}
use mathlib.Core.Path.{◌≡◌, refl, sym, ap}
use mathlib.Core.Bool.{Bool, true, false, ◌||◌}
use mathlib.Core.List.{List, [], ◌∷◌, map}
use lib.Dec.{eqb}
use borrow.Author.Tests.{eq-eqb, ne_eqb, eqb-true, eqb-false}
use Rattle.rules.specs.Plan.{Activity}
use Rattle.rules.specs.Tests.{any_of}
use Rattle.rules.specs.Reading.{has_id}

pub eqb_turn : (a b : ℕ) → eqb a b ≡ eqb b a
eqb_turn a b = go (eqb a b) refl
  where
    go : (t : Bool) → eqb a b ≡ t → t ≡ eqb b a
    go true e = sym (eq-eqb b a (sym (eqb-true a b e)))
    go false e = sym (ne_eqb b a (λ q. eqb-false a b e (sym q)))

pub has_ids : {A : Type 0} (view : A → Activity) (id : ℕ) (xs : List A) → has_id id (map view xs) ≡ any_of (eqb id) (map (λ x. (view x).id) xs)
unfolding has_id any_of
has_ids view id [] = refl
has_ids view id (x ∷ xs) = rw (eqb_turn (view x).id id) (ap (λ b. eqb id (view x).id || b) (has_ids view id xs))
