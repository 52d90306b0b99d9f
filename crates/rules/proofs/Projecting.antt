-- The charge projection is what its facts say, no other is, and what is judged by it is what 01 says of the charge at each tick.
-- Assumes nothing.
use Prim.Native.Nat.{ℕ, zero, suc, ◌≤◌}
use mathlib.Core.Path.{◌≡◌, refl, sym, ◌∙◌, ap, subst}
use mathlib.Core.Logic.{◌↔◌}
use mathlib.Core.Bool.{Bool, true, false, cond}
use mathlib.Core.List.{[], ◌∷◌}
use native.Mathlib.Nat.{le_refl}
use native.Mathlib.Decide.{dec_le}
use native.Mathlib.Omega.{arith}
use lib.IntN.{ℤ, pos}
use lib.Signed.{le_z, lt_z, ◌≤ℤ◌, ≤ℤ_refl}
use Rattle.std.proofs.lemmas.Int.{ints}
use Rattle.rules.specs.Plan.{Header, Schedule, at}
use Rattle.rules.specs.MeetsB.{charge, smaller, further, projected, projection, within_limits, charge_kept, meets_b}
use Rattle.rules.specs.Reading.{out_of_reach}
use Rattle.rules.specs.ProjectionRight.{ProjectionRight}
use Rattle.rules.specs.Demand.{ChargeKept}
use Rattle.rules.specs.Determined.{ProjectionDetermined, ProjectionJudged}
use Rattle.rules.specs.declared.Projection.{Projection}
use Rattle.rules.proofs.Tests.{last_or, and_left, and_right, and_both}
use Rattle.rules.proofs.Signed.{signed, le_z_true, le_le_z, lt_z_true, lt_lt_z}

-- ---- one tick more
module _ (c : ℕ → ℤ) (n : ℕ) (p : Projection) (r : ProjectionRight c n p) where
  further_right : (b : Bool) → le_z p.lowest (c (suc n)) ≡ b → ProjectionRight c (suc n) (record { last = c (suc n); lowest = cond b p.lowest (c (suc n)); tick = cond b p.tick (suc n) })
  further_right true e =
      record {
        last = refl;
        least = λ t l. last_or (λ u. p.lowest ≤ℤ c u) (suc n) t (omega arith) (le_z_true e) (λ k. r.least t (omega arith));
        within = omega (arith, r.within);
        has = r.has;
        first = r.first;
      }
  further_right false e =
      record {
        last = refl;
        least = λ t l. last_or (λ u. c (suc n) ≤ℤ c u) (suc n) t (omega arith) (≤ℤ_refl _) (λ k. let l = r.least t (omega arith) in omega (arith, ints));
        within = le_refl _;
        has = refl;
        first = λ t l f. let k : p.lowest ≤ℤ c (suc n) = rw f at (r.least t (omega arith)) in absurd (omega (arith, ints));
      }

pub projected_right : (c : ℕ → ℤ) (n : ℕ) → ProjectionRight c n (projected c n)
unfolding projected further smaller
projected_right c zero =
    record {
      last = refl;
      least = λ t l. let z : t ≡ 0 = omega arith in rw z (≤ℤ_refl _);
      within = le_refl _;
      has = refl;
      first = λ t l. absurd (omega arith);
    }
projected_right c (suc n) = further_right c n (projected c n) (projected_right c n) (le_z (projected c n).lowest (c (suc n))) refl

-- ---- no other has these facts
no_later : (c : ℕ → ℤ) (n : ℕ) (p q : Projection) → ProjectionRight c n p → ProjectionRight c n q → p.lowest ≡ q.lowest → p.tick ≤ q.tick
no_later c n p q r s e = go (dec_le p.tick q.tick)
  where
    go : Dec (p.tick ≤ q.tick) → p.tick ≤ q.tick
    go (yes l) = l
    go (no l) = absurd (r.first q.tick (omega arith) (s.has ∙ sym e))

pub projection_same : (c : ℕ → ℤ) (n : ℕ) (p q : Projection) → ProjectionRight c n p → ProjectionRight c n q → p ≡ q
projection_same c n p q r s =
    let below : p.lowest ≤ℤ q.lowest = rw s.has at (r.least q.tick s.within) in
    let above : q.lowest ≤ℤ p.lowest = rw r.has at (s.least p.tick r.within) in
    let e : p.lowest ≡ q.lowest = omega (arith, ints) in
    let tick_same : p.tick ≡ q.tick = omega (arith, no_later c n p q r s e, no_later c n q p s r (sym e)) in
    λ i. record { last = (r.last ∙ sym s.last) i; lowest = e i; tick = tick_same i }

-- ---- what is judged by it
pub limits_say : (h : Header) (p : Projection) → within_limits h p ≡ true → (pos h.floor ≤ℤ p.lowest) × (pos h.handover ≤ℤ p.last)
unfolding within_limits
limits_say h p e = (le_z_true (and_left _ _ e), le_z_true (and_right (le_z (pos h.floor) p.lowest) _ e))

-- the lowest charge is at least the floor, and the last at least the handover charge, exactly when each charge is where 01 asks it
pub limits_when : (h : Header) (c : ℕ → ℤ) → (within_limits h (projected c h.horizon) ≡ true) ↔ (((t : ℕ) → t ≤ h.horizon → pos h.floor ≤ℤ c t) × (pos h.handover ≤ℤ c h.horizon))
unfolding within_limits
limits_when h c =
    let p = projected c h.horizon in
    let r = projected_right c h.horizon in (
      λ e.
          let s = limits_say h p e in
          (λ t l. let k = r.least t l in omega (signed, s.0), rw r.last at s.1),
      λ f. and_both (le_le_z (pos h.floor) p.lowest (rw r.has at (f.0 p.tick r.within))) (le_le_z (pos h.handover) p.last (rw r.last f.1)),
    )

pub kept_when : (h : Header) (placed : Schedule) → (charge_kept h placed ≡ true) ↔ ChargeKept h placed
unfolding charge_kept projection
kept_when h placed =
    let w = limits_when h (charge h placed) in
    (λ e. record { floor = (w.0 e).0; handover = (w.0 e).1 }, λ k. w.1 (k.floor, k.handover))

-- 9 goes by the charge at T
pub reach_is : (h : Header) → out_of_reach h ≡ lt_z (charge h [] h.horizon) (pos h.handover)
unfolding out_of_reach projection
reach_is h = ap (λ z. lt_z z (pos h.handover)) (projected_right (charge h []) h.horizon).last

pub projection_determined : (c : ℕ → ℤ) (n : ℕ) → ProjectionDetermined c n
projection_determined c n = record { exactly = λ p. (λ e. subst (ProjectionRight c n) e (projected_right c n), projection_same c n _ p (projected_right c n)); same = projection_same c n }

pub projection_judged : (h : Header) → ProjectionJudged h
unfolding meets_b
projection_judged h = record { candidate = λ placed a s. kept_when h (at a s ∷ placed); whole = kept_when h; reach = (λ e. lt_z_true (sym (reach_is h) ∙ e), λ l. reach_is h ∙ lt_lt_z _ _ l) }
