-- Charges run on from tick to tick.
-- Assumes nothing.
use Prim.Native.Nat.{ℕ, ◌+◌, ◌-◌, ◌≤◌, ◌<◌}
use mathlib.Core.Path.{◌≡◌, refl, sym, ap, ◌∙◌, subst}
use mathlib.Core.Logic.{⊎_elim}
use mathlib.Core.Bool.{true}
use mathlib.Core.List.{List}
use native.Mathlib.Nat.{eq-or-lt_of_le, le_refl}
use native.Mathlib.Decide.{dec_lt}
use native.Mathlib.Omega.{arith}
use lib.IntN.{ℤ, pos}
use lib.ListN.{length, get_or, set, length-set}
use lib.Seq.{get_or-set_same, get_or-set_other}
use lib.Signed.{le_z, ◌≤ℤ◌}
use Rattle.rules.proofs.Tests.{last_or}
use Rattle.rules.proofs.Signed.{signed}
use Rattle.activity.specs.declared.Header.{Header as HeaderStruct}
use Rattle.charge.specs.Charge.{charge_next}
use Rattle.rules.proofs.Signed.{le_z_true}
use Rattle.charge.proofs.Step.{next_most}
use Rattle.trial.specs.Trial.{Ran}

module _ (h : HeaderStruct) (draw : ℕ → ℕ) (from : ℕ) (old : List ℤ) where
  ran_more : (t : ℕ) (new : List ℤ) (v : ℤ) → Ran h draw from t old new → t + 1 < length new → le_z (pos h.floor) (get_or new t (pos 0)) ≡ true → v ≡ charge_next h.capacity h.rate (draw t) (get_or new t (pos 0)) → Ran h draw from (t + 1) old (set new (t + 1) v)
  ran_more t new v r l k e =
      record {
        size = length-set new (t + 1) v ∙ r.size;
        began = omega (arith, r.began);
        past = λ u a. other u (omega (arith, r.began)) ∙ r.past u a;
        next = λ u a b. last_or (λ u. from ≤ u → get_or then (u + 1) (pos 0) ≡ charge_next h.capacity h.rate (draw u) (get_or then u (pos 0))) t u (omega arith) (λ _. get_or-set_same new (t + 1) v (pos 0) l ∙ e ∙ after t (other t (le_refl _))) (λ c a. get_or-set_other new (t + 1) (u + 1) v (pos 0) (omega arith) ∙ r.next u a c ∙ after u (other u (omega arith))) a;
        kept = λ u a b. ap (le_z (pos h.floor)) (other u (omega arith)) ∙ last_or (λ u. from ≤ u → le_z (pos h.floor) (get_or new u (pos 0)) ≡ true) t u (omega arith) (λ _. k) (λ c a. r.kept u a c) a;
      }
    where
      then : List ℤ
      then = set new (t + 1) v

      other : (u : ℕ) → u ≤ t → get_or (set new (t + 1) v) u (pos 0) ≡ get_or new u (pos 0)
      other u a = get_or-set_other new (t + 1) u v (pos 0) (omega arith)

      after : (u : ℕ) → get_or (set new (t + 1) v) u (pos 0) ≡ get_or new u (pos 0) → charge_next h.capacity h.rate (draw u) (get_or new u (pos 0)) ≡ charge_next h.capacity h.rate (draw u) (get_or (set new (t + 1) v) u (pos 0))
      after u p = ap (charge_next h.capacity h.rate (draw u)) (sym p)

module _ (h : HeaderStruct) where
  pub ran_same : (draw all : ℕ → ℕ) (from to : ℕ) (old new : List ℤ) → ((t : ℕ) → from ≤ t → t < to → draw t ≡ all t) → Ran h draw from to old new → Ran h all from to old new
  ran_same draw all from to old new same r =
      record { size = r.size; began = r.began; past = r.past; next = λ t k l. r.next t k l ∙ ap (λ d. charge_next h.capacity h.rate d (get_or new t (pos 0))) (same t k l); kept = r.kept }

  pub ran_on : (draw : ℕ → ℕ) (from mid to : ℕ) (a b c : List ℤ) → Ran h draw from mid a b → Ran h draw mid to b c → Ran h draw from to a c
  ran_on draw from mid to a b c p q =
      record {
        size = q.size ∙ p.size;
        began = omega (arith, p.began, q.began);
        past = λ t k. q.past t (omega (arith, p.began)) ∙ p.past t k;
        next = λ t k l. next t k l (dec_lt t mid);
        kept = λ t k l. kept t k l (dec_lt t mid);
      }
    where
      next : (t : ℕ) → from ≤ t → t < to → Dec (t < mid) → get_or c (t + 1) (pos 0) ≡ charge_next h.capacity h.rate (draw t) (get_or c t (pos 0))
      next t k l (yes m) = q.past (t + 1) (omega arith) ∙ p.next t k m ∙ ap (charge_next h.capacity h.rate (draw t)) (sym (q.past t (omega arith)))
      next t k l (no m) = q.next t (omega arith) l

      kept : (t : ℕ) → from ≤ t → t < to → Dec (t < mid) → le_z (pos h.floor) (get_or c t (pos 0)) ≡ true
      kept t k l (yes m) = ap (le_z (pos h.floor)) (q.past t (omega arith)) ∙ p.kept t k m
      kept t k l (no m) = q.kept t (omega arith) l

  -- the last is at most the capacity where the first is
  pub ran_most : (draw : ℕ → ℕ) (from to : ℕ) (old new : List ℤ) → Ran h draw from to old new → get_or old from (pos 0) ≤ℤ pos h.capacity → get_or new to (pos 0) ≤ℤ pos h.capacity
  ran_most draw from to old new r l =
      ⊎_elim (λ z. subst (λ (t : ℕ). get_or new t (pos 0) ≤ℤ pos h.capacity) z (rw (r.past from (le_refl _)) l))
      (λ m. let e : to - 1 + 1 ≡ to = omega arith in subst (λ (t : ℕ). get_or new t (pos 0) ≤ℤ pos h.capacity) e (rw (r.next (to - 1) (omega arith) (omega arith)) (next_most _ _ _ _)))
      (eq-or-lt_of_le r.began)

-- the loop stands at tick t with c, the charge there
pub record AtTick (h : HeaderStruct) (draw : ℕ → ℕ) (from t : ℕ) (c : ℤ) (old new : List ℤ) : Type 0 where
  pub is : c ≡ get_or new t (pos 0)
  pub most : c ≤ℤ pos h.capacity
  pub ran : Ran h draw from t old new

module _ (h : HeaderStruct) (draw : ℕ → ℕ) (from : ℕ) (old : List ℤ) where
  pub tick_first : (c : ℤ) → c ≡ get_or old from (pos 0) → get_or old from (pos 0) ≤ℤ pos h.capacity → AtTick h draw from from c old old
  tick_first c e l =
      record { is = e; most = rw e l; ran = record { size = refl; began = le_refl _; past = λ t k. refl; next = λ t k l. absurd (omega arith); kept = λ t k l. absurd (omega arith) } }

  module _ (t : ℕ) (c : ℤ) (new : List ℤ) (a : AtTick h draw from t c old new) where
    pub tick_floor : le_z (pos h.floor) c ≡ le_z (pos h.floor) (get_or new t (pos 0))
    tick_floor = ap (le_z (pos h.floor)) a.is

    module _ (k : le_z (pos h.floor) c ≡ true) where
      -- the charge is between 0 and the capacity
      pub tick_range : (pos 0 ≤ℤ c) × (c ≤ℤ pos h.capacity)
      tick_range = let l = le_z_true {a = pos h.floor} k in (omega (signed, l), a.most)

      pub tick_more : (z : ℤ) → t + 1 < length old → z ≡ charge_next h.capacity h.rate (draw t) c → AtTick h draw from (t + 1) z old (set new (t + 1) z)
      tick_more z l e =
          let m : t + 1 < length new = omega (arith, a.ran.size) in
          record { is = sym (get_or-set_same new (t + 1) z (pos 0) m); most = rw e (next_most _ _ _ _); ran = ran_more h draw from old t new z a.ran m (sym tick_floor ∙ k) (e ∙ ap (charge_next h.capacity h.rate (draw t)) a.is) }
