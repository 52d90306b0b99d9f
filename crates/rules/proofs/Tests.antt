-- The laws of tests over numbers.
use Prim.Native.Nat.{ℕ, zero, suc, ◌<◌, ◌≤◌}
use mathlib.Core.Path.{◌≡◌, refl, sym, ◌∙◌, ap, subst}
use mathlib.Core.Bool.{Bool, true, false, ◌&&◌, ◌||◌, true≢false}
use native.Mathlib.Omega.{arith}
use native.Mathlib.Nat.{not-suc-le-zero, lt_of_lt_of_le}
use mathlib.Core.List.{List, [], ◌∷◌, Memᴰ}
use lib.Dec.{T, ltb}
use lib.ListN.{length, get_or}
use borrow.Author.Tests.{ltb-true, ltb-false}
use Rattle.rules.specs.Tests.{each, ever, every}

pub and_left : (a b : Bool) → a && b ≡ true → a ≡ true
and_left true b e = refl
and_left false b e = e

pub and_right : (a b : Bool) → a && b ≡ true → b ≡ true
and_right true b e = e
and_right false b e = absurd (true≢false (sym e))

pub and_both : {a b : Bool} → a ≡ true → b ≡ true → a && b ≡ true
and_both e f = rw (e, f)

pub both_ways : {b : Bool} → b ≡ true → b ≡ false → ⊥
both_ways e f = true≢false (sym e ∙ f)

pub is_false : (b : Bool) → (b ≡ true → ⊥) → b ≡ false
is_false true f = absurd (f refl)
is_false false f = refl

-- below n + 1 is below n, or n
pub last_or : (P : ℕ → Type 0) (n k : ℕ) → k < suc n → P n → (k < n → P k) → P k
last_or P n k h at below = go (ltb k n) refl
  where
    go : (b : Bool) → ltb k n ≡ b → P k
    go true e = below (ltb-true k n e)
    go false e = let m : n ≤ k = ltb-false k n e in let q : n ≡ k = omega arith in subst P q at

pub each_at : (p : ℕ → Bool) (n k : ℕ) → each p n ≡ true → k < n → p k ≡ true
unfolding each
each_at p zero k e h = absurd (not-suc-le-zero h)
each_at p (suc n) k e h = last_or (λ i. p i ≡ true) n k h (and_left _ _ e) (each_at p n k (and_right (p n) _ e))

pub each_all : (p : ℕ → Bool) (n : ℕ) → ((k : ℕ) → k < n → p k ≡ true) → each p n ≡ true
unfolding each
each_all p zero f = refl
each_all p (suc n) f = and_both (f n (omega arith)) (each_all p n (λ k h. f k (omega arith)))

pub or_left : {a : Bool} (b : Bool) → a ≡ true → a || b ≡ true
or_left b e = rw e

pub or_right : (a : Bool) {b : Bool} → b ≡ true → a || b ≡ true
or_right true e = refl
or_right false e = e

pub ever_at : (p : ℕ → Bool) (n k : ℕ) → k < n → p k ≡ true → ever p n ≡ true
unfolding ever
ever_at p zero k h e = absurd (not-suc-le-zero h)
ever_at p (suc n) k h e =
    last_or (λ i. p i ≡ true → ever p (suc n) ≡ true) n k h (or_left _) (λ g f. or_right (p n) (ever_at p n k g f)) e

pub ever_found : (p : ℕ → Bool) (n : ℕ) → ever p n ≡ true → (k : ℕ) × (k < n) × (p k ≡ true)
unfolding ever
ever_found p zero e = absurd (both_ways e refl)
ever_found p (suc n) e = go (p n) refl (ever_found p n) e
  where
    go : (b : Bool) → p n ≡ b → (ever p n ≡ true → (k : ℕ) × (k < n) × (p k ≡ true)) → b || ever p n ≡ true → (k : ℕ) × (k < suc n) × (p k ≡ true)
    go true q ih f = (n, omega arith, q)
    go false q ih f = ((ih f).0, lt_of_lt_of_le (ih f).1 (omega arith), (ih f).2)

pub ever_none : (p : ℕ → Bool) (n k : ℕ) → ever p n ≡ false → k < n → p k ≡ true → ⊥
ever_none p n k e h f = both_ways (ever_at p n k h f) e

pub not_ever : (p : ℕ → Bool) (n : ℕ) → ((k : ℕ) → k < n → p k ≡ true → ⊥) → ever p n ≡ false
not_ever p n f = go (ever p n) refl
  where
    go : (b : Bool) → ever p n ≡ b → b ≡ false
    go true e = let w = ever_found p n e in absurd (f w.0 w.1 w.2)
    go false e = refl

pub is_true : (b : Bool) → T b → b ≡ true
is_true true t = refl
is_true false t = absurd t

pub every_mem : {A : Type 0} (p : A → Bool) (xs : List A) {x : A} → every p xs ≡ true → Memᴰ x xs → p x ≡ true
unfolding every
every_mem p [] e m = elim m [ ]
every_mem p (y ∷ xs) e (Memᴰ.head q) = ap p q ∙ and_left _ _ e
every_mem p (y ∷ xs) e (Memᴰ.tail m) = every_mem p xs (and_right (p y) _ e) m

pub every_at : {A : Type 0} (p : A → Bool) (xs : List A) (d : A) (i : ℕ) → every p xs ≡ true → i < length xs → p (get_or xs i d) ≡ true
unfolding every
every_at p [] d i e h = absurd (not-suc-le-zero h)
every_at p (y ∷ xs) d zero e h = and_left _ _ e
every_at p (y ∷ xs) d (suc i) e h = every_at p xs d i (and_right (p y) _ e) (omega arith)
