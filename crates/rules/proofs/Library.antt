-- The definitions' tests over lists in the library's words.
-- Assumes nothing.
use Rattle.std.proofs.Common.{◌≡◌, Bool, ◌&&◌, ◌||◌, List, [], ◌∷◌, refl, ap, ap₂}
use Rattle.std.specs.List.{list_any, list_all}
use Rattle.rules.specs.Tests.{any_of, every}

pub any_is : {A : Type 0} (p : A → Bool) (xs : List A) → any_of p xs ≡ list_any p xs
unfolding any_of
any_is p [] = refl
any_is p (x ∷ xs) = ap (λ b. p x || b) (any_is p xs)

pub every_is : {A : Type 0} (p : A → Bool) (xs : List A) → every p xs ≡ list_all p xs
unfolding every
every_is p [] = refl
every_is p (x ∷ xs) = ap (λ b. p x && b) (every_is p xs)

pub every_same : {A : Type 0} (p q : A → Bool) → ((x : A) → p x ≡ q x) → (xs : List A) → list_all p xs ≡ list_all q xs
every_same p q e [] = refl
every_same p q e (x ∷ xs) = ap₂ ◌&&◌ (e x) (every_same p q e xs)
