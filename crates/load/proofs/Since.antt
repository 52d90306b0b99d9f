-- The tick from which a test holds, carried from start to start.
-- Assumes nothing.
use Prim.Native.Nat.{ℕ, zero, suc, ◌+◌, ◌-◌, ◌<◌, ◌≤◌}
use mathlib.Core.Path.{◌≡◌, refl, sym, ◌∙◌, ap, subst}
use mathlib.Core.Bool.{Bool, true, false, cond}
use native.Mathlib.Omega.{arith}
use native.Mathlib.Numerals.{add-one}
use lib.Dec.{leb}
use borrow.Author.Tests.{le-leb, leb-true}
use Rattle.rules.proofs.Tests.{each_at, each_all, last_or}
use Rattle.rules.proofs.Cases.{by_order}
use Rattle.rules.proofs.Local.{bool_ext}
use Rattle.load.specs.Clear.{clear_for, clear_since}

pub since_none : (p : ℕ → Bool) → clear_since p 0 ≡ 0
unfolding clear_since
since_none p = refl

pub since_more : (p : ℕ → Bool) (t : ℕ) → clear_since p (t + 1) ≡ cond (p t) (clear_since p t) (t + 1)
unfolding clear_since
since_more p t = rw add-one

module _ (p : ℕ → Bool) where
  since_by : (t s : ℕ) → clear_since p t ≤ s → (u : ℕ) → s ≤ u → u < t → p u ≡ true
  unfolding clear_since
  since_by zero s l u a b = absurd (omega arith)
  since_by (suc t) s l u a b = go (p t) refl l (λ m c. since_by t s m u a c)
    where
      go : (x : Bool) → p t ≡ x → cond x (clear_since p t) (suc t) ≤ s → (clear_since p t ≤ s → u < t → p u ≡ true) → p u ≡ true
      go true e m ih = last_or (λ (v : ℕ). p v ≡ true) t u b e (ih m)
      go false e m ih = absurd (omega arith)

  since_low : (t : ℕ) → clear_since p t ≤ t
  unfolding clear_since
  since_low zero = omega arith
  since_low (suc t) = go (p t) (since_low t)
    where
      go : (x : Bool) → clear_since p t ≤ t → cond x (clear_since p t) (suc t) ≤ suc t
      go true m = omega arith
      go false m = omega arith

  since_from : (t s : ℕ) → ((u : ℕ) → s ≤ u → u < t → p u ≡ true) → s ≤ t → clear_since p t ≤ s
  unfolding clear_since
  since_from zero s f l = omega arith
  since_from (suc t) s f l =
      let low : clear_since p (suc t) ≤ suc t = since_low (suc t) in
      by_order t s (λ m. omega arith) (λ m. rw (f t m (omega arith)) (since_from t s (λ u a b. f u a (omega arith)) m))

  -- the start s is clear for d ticks when the tick from which all up to its end are is not later
  pub since_clear : (d s : ℕ) → leb (clear_since p (s + d)) s ≡ clear_for p d s
  unfolding clear_for
  since_clear d s = bool_ext _ _
      (λ q. each_all (λ i. p (s + i)) d (λ i k. since_by (s + d) s (leb-true _ _ q) (s + i) (omega arith) (omega arith)))
      (λ q. le-leb _ _ (since_from (s + d) s (λ u a b. let e : s + (u - s) ≡ u = omega arith in subst (λ (v : ℕ). p v ≡ true) e (each_at (λ i. p (s + i)) d (u - s) q (omega arith))) (omega arith)))

  -- the next start: the tick after the last one of the start before is passed
  pub since_next : (s last d since next : ℕ) → d ≡ last + 1 → since ≡ clear_since p (s + last) → next ≡ cond (p (s + last)) since (s + last + 1) → (next ≡ clear_since p (s + 1 + last)) × (leb next s ≡ clear_for p d s)
  since_next s last d since next e f g =
      let more : next ≡ clear_since p (s + last + 1) = g ∙ ap (λ (x : ℕ). cond (p (s + last)) x (s + last + 1)) f ∙ sym (since_more p (s + last)) in
      let a : s + last + 1 ≡ s + 1 + last = omega arith in
      let b : s + last + 1 ≡ s + d = omega arith in
      (more ∙ ap (clear_since p) a, ap (λ (x : ℕ). leb x s) (more ∙ ap (clear_since p) b) ∙ since_clear d s)

  pub since_first : (last since : ℕ) → since ≡ clear_since p last → since ≡ clear_since p (0 + last)
  since_first last since e = let z : last ≡ 0 + last = omega arith in e ∙ ap (clear_since p) z
