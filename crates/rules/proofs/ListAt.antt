-- Laws of lists by index: the rest from an index on, one element more, membership, tests of any element, and a beginning.
-- Assumes nothing.
use Prim.Native.Nat.{ℕ, zero, suc, ◌<◌, ◌≤◌}
use mathlib.Core.Path.{◌≡◌, refl, sym, ap}
use mathlib.Core.Bool.{Bool, true, false, ◌||◌}
use mathlib.Core.List.{List, [], ◌∷◌, ◌++◌, map, nil≢cons, head-eq_of_cons-eq, tail-eq_of_cons-eq, Memᴰ}
use native.Mathlib.Omega.{arith}
use native.Mathlib.Nat.{not-suc-le-zero}
use lib.ListN.{length, get_or, drop, length-append, get_or-append}
use lib.Seq.{get_or-append_seam}
use Rattle.rules.specs.Tests.{any_of}
use Rattle.rules.proofs.Tests.{last_or, both_ways, or_left, or_right}
use Rattle.rules.proofs.Says.{one_holds}

pub or_none : (a : Bool) {b : Bool} → a || b ≡ false → (a ≡ false) × (b ≡ false)
or_none true e = absurd (both_ways refl e)
or_none false e = (refl, e)

pub length_more : {A : Type 0} (xs : List A) (a : A) → length (xs ++ (a ∷ [])) ≡ suc (length xs)
length_more xs a = simp length-append (omega arith)

-- d is what an index past the end gives
module _ {A : Type 0} (d : A) where
  -- the rest from j on begins with element j
  pub rest_at : (j : ℕ) (l : List A) {x : A} {xs : List A} → drop j l ≡ x ∷ xs → (j < length l) × (get_or l j d ≡ x) × (drop (suc j) l ≡ xs)
  rest_at zero [] e = absurd (nil≢cons e)
  rest_at zero (y ∷ l) e = (omega arith, head-eq_of_cons-eq e, tail-eq_of_cons-eq e)
  rest_at (suc j) [] e = absurd (nil≢cons e)
  rest_at (suc j) (y ∷ l) e = let r = rest_at j l e in (omega (arith, r.0), r.1, r.2)

  -- what holds of each element and of one more holds of each of the longer list
  pub each_more : (P : ℕ → A → Type 0) (xs : List A) (a : A) → ((i : ℕ) → i < length xs → P i (get_or xs i d)) → P (length xs) a → (i : ℕ) → i < length (xs ++ (a ∷ [])) → P i (get_or (xs ++ (a ∷ [])) i d)
  each_more P xs a f g i h =
      last_or (λ i. P i (get_or (xs ++ (a ∷ [])) i d)) (length xs) i (rw (length_more xs a) at h)
      (rw (get_or-append_seam xs a [] d) g)
      (λ k. rw (get_or-append xs (a ∷ []) d i k) (f i k))

  -- an element stands at an index
  pub mem_at : {x : A} {xs : List A} → Memᴰ x xs → (i : ℕ) × (i < length xs) × (get_or xs i d ≡ x)
  mem_at (Memᴰ.head e) = (0, omega arith, sym e)
  mem_at (Memᴰ.tail m) = let r = mem_at m in (suc r.0, omega (arith, r.1), r.2)

  pub at_mem : (xs : List A) (i : ℕ) → i < length xs → Memᴰ (get_or xs i d) xs
  at_mem [] i h = absurd (not-suc-le-zero h)
  at_mem (x ∷ xs) zero h = Memᴰ.head refl
  at_mem (x ∷ xs) (suc i) h = Memᴰ.tail (at_mem xs i (omega arith))

  -- an element that passes stands at an index, and if there is none, each fails
  pub any_found : (p : A → Bool) (xs : List A) → any_of p xs ≡ true → (i : ℕ) × (i < length xs) × (p (get_or xs i d) ≡ true)
  unfolding any_of
  any_found p [] e = absurd (both_ways e refl)
  any_found p (x ∷ xs) e =
      one_holds (p x) (any_of p xs) e
      (λ q. (0, omega arith, q))
      (λ f. let r = any_found p xs f in (suc r.0, omega (arith, r.1), r.2))

  pub any_at : (p : A → Bool) (xs : List A) (i : ℕ) → i < length xs → p (get_or xs i d) ≡ true → any_of p xs ≡ true
  unfolding any_of
  any_at p [] i h e = absurd (not-suc-le-zero h)
  any_at p (x ∷ xs) zero h e = or_left (any_of p xs) e
  any_at p (x ∷ xs) (suc i) h e = or_right (p x) (any_at p xs i (omega arith) e)

  pub any_none : (p : A → Bool) (xs : List A) → any_of p xs ≡ false → (i : ℕ) → i < length xs → p (get_or xs i d) ≡ false
  unfolding any_of
  any_none p [] e i h = absurd (not-suc-le-zero h)
  any_none p (x ∷ xs) e zero h = (or_none (p x) e).0
  any_none p (x ∷ xs) e (suc i) h = any_none p xs (or_none (p x) e).1 i (omega arith)

  -- a list that begins with what f makes of the elements of xs
  pub begins_map : {B : Type 0} (f : B → A) (b : B) (xs : List B) (l : List A) → length xs ≤ length l → ((i : ℕ) → i < length xs → f (get_or xs i b) ≡ get_or l i d) → l ≡ map f xs ++ drop (length xs) l
  begins_map f b [] l h e = refl
  begins_map f b (x ∷ xs) [] h e = absurd (omega arith)
  begins_map f b (x ∷ xs) (y ∷ l) h e = rw (e 0 (omega arith)) (ap (λ (r : List A). y ∷ r) (begins_map f b xs l (omega arith) (λ i k. e (suc i) (omega arith))))
