-- The nearest start, over any test and any distance.
use Prim.Native.Nat.{ℕ, zero, suc, ◌<◌, ◌≤◌}
use mathlib.Core.Path.{◌≡◌, refl}
use mathlib.Core.Bool.{Bool, true, false, cond}
use mathlib.Core.Option.{Option, none, some}
use native.Mathlib.Omega.{arith}
use native.Mathlib.Nat.{not-suc-le-zero}
use lib.Dec.{ltb}
use borrow.Author.Tests.{ltb-true, ltb-false}
use Rattle.rules.specs.Answer.{nearer, nearest}
use Rattle.rules.proofs.Tests.{last_or, both_ways}

module _ (pass : ℕ → Bool) (distance : ℕ → ℕ) where
  -- b is the nearest of those below n that pass
  pub record Best (n b : ℕ) : Type 0 where
    pub below : b < n
    pub passes : pass b ≡ true
    pub near : (r : ℕ) → r < n → pass r ≡ true → distance b ≤ distance r
    pub earlier : (r : ℕ) → r < n → pass r ≡ true → distance r ≡ distance b → b ≤ r

  abbrev pub Found : ℕ → Option ℕ → Type 0
  Found n none = (s : ℕ) → s < n → pass s ≡ true → ⊥
  Found n (some b) = Best n b

  -- k passes and is nearer: it takes the place
  taken : (k b : ℕ) → pass k ≡ true → Best k b → distance k < distance b → Best (suc k) k
  taken k b e B l =
      record {
        below = omega arith;
        passes = e;
        near = λ r h f. last_or (λ i. distance k ≤ distance i) k r h (omega arith) (λ g. omega (arith, B.near r g f));
        earlier = λ r h f q. last_or (λ i. distance i ≡ distance k → k ≤ i) k r h (λ _. omega arith) (λ g z. absurd (omega (arith, B.near r g f))) q;
      }

  -- k passes and is no nearer
  stays : (k b : ℕ) → pass k ≡ true → Best k b → distance b ≤ distance k → Best (suc k) b
  stays k b e B l =
      record {
        below = omega (arith, B.below);
        passes = B.passes;
        near = λ r h f. last_or (λ i. distance b ≤ distance i) k r h l (λ g. B.near r g f);
        earlier = λ r h f q. last_or (λ i. distance i ≡ distance b → b ≤ i) k r h (λ _. omega (arith, B.below)) (λ g z. B.earlier r g f z) q;
      }

  -- k doesn't pass
  past : (k b : ℕ) → pass k ≡ false → Best k b → Best (suc k) b
  past k b e B =
      record {
        below = omega (arith, B.below);
        passes = B.passes;
        near = λ r h f. last_or (λ i. pass i ≡ true → distance b ≤ distance i) k r h (λ g. absurd (both_ways g e)) (B.near r) f;
        earlier = λ r h f q. last_or (λ i. pass i ≡ true → distance i ≡ distance b → b ≤ i) k r h (λ g _. absurd (both_ways g e)) (B.earlier r) f q;
      }

  nearer_of : (k b : ℕ) → pass k ≡ true → Best k b → (t : Bool) → ltb (distance k) (distance b) ≡ t → Best (suc k) (cond t k b)
  nearer_of k b e B true q = taken k b e B (ltb-true _ _ q)
  nearer_of k b e B false q = stays k b e B (ltb-false _ _ q)

  step : (k : ℕ) (t : Bool) (o : Option ℕ) → pass k ≡ t → Found k o → Found (suc k) (nearer distance t k o)
  unfolding nearer
  step k false none e F = λ s h f. last_or (λ i. pass i ≡ true → ⊥) k s h (λ g. both_ways g e) (F s) f
  step k false (some b) e F = past k b e F
  step k true none e F =
      record {
        below = omega arith;
        passes = e;
        near = λ r h f. last_or (λ i. pass i ≡ true → distance k ≤ distance i) k r h (λ _. omega arith) (λ g z. absurd (F r g z)) f;
        earlier = λ r h f q. last_or (λ i. pass i ≡ true → k ≤ i) k r h (λ _. omega arith) (λ g z. absurd (F r g z)) f;
      }
  step k true (some b) e F = nearer_of k b e F (ltb (distance k) (distance b)) refl

  pub found : (n : ℕ) → Found n (nearest pass distance n)
  unfolding nearest
  found zero = λ s h e. absurd (not-suc-le-zero h)
  found (suc k) = step k (pass k) (nearest pass distance k) refl (found k)
