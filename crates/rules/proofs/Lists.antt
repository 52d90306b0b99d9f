-- Tests over the first n numbers, and over the elements of a list.
-- Assumes nothing.
use Prim.Native.Nat.{ℕ, zero, suc, ◌+◌, ◌<◌, ◌≤◌}
use mathlib.Core.Path.{◌≡◌, refl, sym, ◌∙◌, ap}
use mathlib.Core.Bool.{Bool, true, false, ◌&&◌}
use mathlib.Core.List.{List, [], ◌∷◌, Memᴰ}
use native.Mathlib.Decide.{dec_le}
use native.Mathlib.Omega.{arith}
use native.Mathlib.Numerals.{add-one}
use native.Mathlib.Nat.{not-suc-le-zero}
use lib.ListN.{length, get_or, take, replicate}
use Rattle.rules.specs.Tests.{each, any_of, every}
use Rattle.rules.proofs.Tests.{and_both, both_ways, each_at, each_all, or_left, or_right}
use Rattle.rules.proofs.Local.{bool_ext}

-- zeros
pub zeros : (n k : ℕ) → ◌≡◌ {A = ℕ} (get_or (replicate n 0) k 0) 0
zeros zero k = refl
zeros (suc n) zero = refl
zeros (suc n) (suc k) = zeros n k

-- tests that agree below n
pub each_same : (p q : ℕ → Bool) (n : ℕ) → ((i : ℕ) → i < n → p i ≡ q i) → each p n ≡ each q n
unfolding each
each_same p q zero f = refl
each_same p q (suc n) f = rw (f n (omega arith), each_same p q n (λ i k. f i (omega arith)))

-- one number more, and a number that fails
pub each_more : (p : ℕ → Bool) (n : ℕ) → each p n ≡ true → p n ≡ true → each p (n + 1) ≡ true
unfolding each
each_more p n e f = rw add-one (and_both f e)

pub each_fails : (p : ℕ → Bool) (n k : ℕ) → k < n → p k ≡ false → each p n ≡ false
each_fails p n k l f = go (each p n) refl
  where
    go : (b : Bool) → each p n ≡ b → b ≡ false
    go true e = absurd (both_ways (each_at p n k e l) f)
    go false e = refl

-- a test of the first r numbers is one of all n, where it holds from r on
pub each_front : (p : ℕ → Bool) (n r : ℕ) → r ≤ n → ((i : ℕ) → r ≤ i → i < n → p i ≡ true) → each p n ≡ each p r
each_front p n r l f =
    bool_ext _ _ (λ q. each_all p r (λ i k. each_at p n i q (omega arith)))
    (λ q. each_all p n (λ i k. go q i k (dec_le r i)))
  where
    go : each p r ≡ true → (i : ℕ) → i < n → Dec (r ≤ i) → p i ≡ true
    go q i k (yes h) = f i h k
    go q i k (no h) = each_at p r i q (omega arith)

-- an element that passes is one that a test over the list finds
pub any_mem : {A : Type 0} (p : A → Bool) (xs : List A) (x : A) → Memᴰ x xs → p x ≡ true → any_of p xs ≡ true
unfolding any_of
any_mem p [] x m e = elim m [ ]
any_mem p (y ∷ xs) x (Memᴰ.head q) e = or_left _ (ap p (sym q) ∙ e)
any_mem p (y ∷ xs) x (Memᴰ.tail m) e = or_right (p y) (any_mem p xs x m e)

module _ {A : Type 0} (p : A → Bool) (d : A) where
  -- an element among the first n passes
  pub any_at : (xs : List A) (n i : ℕ) → i < n → i < length xs → p (get_or xs i d) ≡ true → any_of p (take n xs) ≡ true
  unfolding any_of
  any_at [] n i k l e = absurd (not-suc-le-zero l)
  any_at (x ∷ xs) zero i k l e = absurd (not-suc-le-zero k)
  any_at (x ∷ xs) (suc n) zero k l e = or_left _ e
  any_at (x ∷ xs) (suc n) (suc i) k l e = or_right (p x) (any_at xs n i (omega arith) (omega arith) e)

  -- none of the first n passes
  pub any_none : (xs : List A) (n : ℕ) → ((i : ℕ) → i < n → p (get_or xs i d) ≡ false) → any_of p (take n xs) ≡ false
  unfolding any_of
  any_none [] zero f = refl
  any_none [] (suc n) f = refl
  any_none (x ∷ xs) zero f = refl
  any_none (x ∷ xs) (suc n) f = rw (f 0 (omega arith)) (any_none xs n (λ i k. f (suc i) (omega arith)))

  -- one element more
  pub every_more : (xs : List A) (n : ℕ) → n < length xs → every p (take (suc n) xs) ≡ (p (get_or xs n d) && every p (take n xs))
  unfolding every
  every_more [] n l = absurd (not-suc-le-zero l)
  every_more (x ∷ xs) zero l = refl
  every_more (x ∷ xs) (suc n) l = ap (λ (b : Bool). p x && b) (every_more xs n (omega arith)) ∙ swap (p x) (p (get_or xs n d)) (every p (take n xs))
    where
      swap : (a b c : Bool) → (a && (b && c)) ≡ (b && (a && c))
      swap true b c = refl
      swap false true c = refl
      swap false false c = refl
