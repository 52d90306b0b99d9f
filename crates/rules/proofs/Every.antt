-- A test that holds of each element of a list holds of each of a longer list, of a weaker test, and of the elements by name.
-- Assumes nothing.
use mathlib.Core.Path.{◌≡◌, refl}
use mathlib.Core.Bool.{Bool, true}
use mathlib.Core.List.{List, [], ◌∷◌, ◌++◌, map, Memᴰ}
use Rattle.rules.specs.Tests.{every}
use Rattle.rules.proofs.Tests.{and_left, and_right, and_both}

module _ {A : Type 0} (p : A → Bool) where
  -- both parts pass, so the whole does
  pub every_append : (xs ys : List A) → every p xs ≡ true → every p ys ≡ true → every p (xs ++ ys) ≡ true
  unfolding every
  every_append [] ys e f = f
  every_append (x ∷ xs) ys e f = and_both (and_left (p x) _ e) (every_append xs ys (and_right (p x) _ e) f)

  -- each member passes, so the list does
  pub every_all : (xs : List A) → ((x : A) → Memᴰ x xs → p x ≡ true) → every p xs ≡ true
  unfolding every
  every_all [] f = refl
  every_all (x ∷ xs) f = and_both (f x (Memᴰ.head refl)) (every_all xs (λ y m. f y (Memᴰ.tail m)))

  -- what passes a test passes a weaker one
  pub every_weaker : (q : A → Bool) → ((x : A) → p x ≡ true → q x ≡ true) → (xs : List A) → every p xs ≡ true → every q xs ≡ true
  unfolding every
  every_weaker q f [] e = refl
  every_weaker q f (x ∷ xs) e = and_both (f x (and_left (p x) _ e)) (every_weaker q f xs (and_right (p x) _ e))

  -- the same of what is made of each member
  pub every_map : {B : Type 0} (f : B → A) (ys : List B) → ((y : B) → Memᴰ y ys → p (f y) ≡ true) → every p (map f ys) ≡ true
  unfolding every
  every_map f [] e = refl
  every_map f (y ∷ ys) e = and_both (e y (Memᴰ.head refl)) (every_map f ys (λ x m. e x (Memᴰ.tail m)))
