-- How facts are read off a test, a conjunction of tests, and a step of reading.
-- Assumes nothing.
use Prim.Native.Nat.{ℕ}
use mathlib.Core.Path.{◌≡◌, refl, ap}
use mathlib.Core.Bool.{Bool, true, false, cond, not, ◌&&◌, ◌||◌}
use mathlib.Core.List.{List, [], ◌∷◌, map, Memᴰ}
use Rattle.rules.specs.Tests.{every}
use Rattle.rules.specs.Fields.{Read, value, fault, ◌>>=◌}
use Rattle.rules.proofs.Tests.{both_ways}

-- what holds in both branches of a test holds of the test
pub by_test : {A : Type 0} (X : A → Type 0) (b : Bool) {x y : A} → (b ≡ true → X x) → (b ≡ false → X y) → X (cond b x y)
by_test X true f g = f refl
by_test X false f g = g refl

-- the same of a check, whose first branch is taken where it fails
pub by_check : {A : Type 0} (X : A → Type 0) (b : Bool) {x y : A} → (b ≡ false → X x) → (b ≡ true → X y) → X (cond (not b) x y)
by_check X true f g = g refl
by_check X false f g = f refl

-- a test holds or fails
pub either_way : {C : Type 0} (b : Bool) → (b ≡ true → C) → (b ≡ false → C) → C
either_way true f g = f refl
either_way false f g = g refl

-- if one of two tests holds, the first or the second does
pub one_holds : {C : Type 0} (a b : Bool) → a || b ≡ true → (a ≡ true → C) → (b ≡ true → C) → C
one_holds true b e f g = f refl
one_holds false b e f g = g e

-- if two tests don't both hold, one of them fails
pub one_fails : {C : Type 0} (a b : Bool) → a && b ≡ false → (a ≡ false → C) → (b ≡ false → C) → C
one_fails true b e f g = g e
one_fails false b e f g = f refl

-- if not every element passes, one of them fails
pub one_out : {A : Type 0} (p : A → Bool) (xs : List A) → every p xs ≡ false → (x : A) × Memᴰ x xs × (p x ≡ false)
unfolding every
one_out p [] e = absurd (both_ways refl e)
one_out p (x ∷ xs) e =
    one_fails (p x) (every p xs) e
    (λ f. (x, Memᴰ.head refl, f))
    (λ f. let r = one_out p xs f in (r.0, Memᴰ.tail r.1, r.2))

pub every_map : {A B : Type 0} (p : B → Bool) (f : A → B) (xs : List A) → every p (map f xs) ≡ every (λ x. p (f x)) xs
unfolding every
every_map p f [] = refl
every_map p f (x ∷ xs) = ap (λ (b : Bool). p (f x) && b) (every_map p f xs)

-- a reading says P of its value, or F of its fault
pub data Says {A : Type 0} (P : A → Type 0) (F : ℕ → Type 0) : Read A → Type 0 where
  said : {a : A} → P a → Says P F (value a)
  faulted : {k : ℕ} → F k → Says P F (fault k)

-- one step, then the next ones
pub then_says : {A B : Type 0} {P : A → Type 0} {G F : ℕ → Type 0} {Q : B → Type 0} {m : Read A} {next : A → Read B} → Says P G m → ((k : ℕ) → G k → F k) → ((a : A) → P a → Says Q F (next a)) → Says Q F (m >>= next)
unfolding ◌>>=◌
then_says (said p) bad good = good _ p
then_says (faulted g) bad good = faulted (bad _ g)

-- a check with its fault, then what comes after it
pub check_says : {A : Type 0} {P : A → Type 0} {F : ℕ → Type 0} (b : Bool) (j : ℕ) {m : Read A} → (b ≡ false → F j) → (b ≡ true → Says P F m) → Says P F (cond (not b) (fault j) m)
check_says {P = P} {F = F} b j f g = by_check (Says P F) b (λ e. faulted (f e)) g

-- a fault that excludes what a value says, and is the only one, is the answer
pub says_fault : {A : Type 0} {P : A → Type 0} {F : ℕ → Type 0} {m : Read A} {k : ℕ} → Says P F m → ((a : A) → P a → ⊥) → ((j : ℕ) → F j → j ≡ k) → m ≡ fault k
says_fault (said p) none one = absurd (none _ p)
says_fault (faulted f) none one = ap fault (one _ f)
