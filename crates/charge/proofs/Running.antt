-- The charge at a tick.
-- Assumes nothing.
use Prim.Native.Nat.{ℕ, zero, suc, ◌+◌, ◌≤◌, ◌<◌}
use mathlib.Core.Path.{◌≡◌, refl, sym, ◌∙◌, subst}
use mathlib.Core.Logic.{⊎_elim}
use native.Mathlib.Nat.{eq-or-lt_of_le}
use native.Mathlib.Numerals.{add-one}
use native.Mathlib.Omega.{arith}
use lib.IntN.{ℤ, pos}
use lib.Signed.{◌≤ℤ◌}
use Rattle.rules.proofs.Signed.{signed}
use Rattle.activity.specs.declared.Header.{Header as HeaderStruct}
use Rattle.charge.specs.Charge.{charge_next, charge_by}
use Rattle.charge.proofs.Step.{next_most}

pub charge_first : (h : HeaderStruct) (draw : ℕ → ℕ) → pos h.first ≡ charge_by h draw 0
unfolding charge_by
charge_first h draw = refl

pub charge_next_lem : (h : HeaderStruct) (draw : ℕ → ℕ) (t : ℕ) → charge_by h draw (t + 1) ≡ charge_next h.capacity h.rate (draw t) (charge_by h draw t)
unfolding charge_by
charge_next_lem h draw t = rw add-one refl

-- charges by `all` are what any charges are that begin as they do and go on by draws that are the same
module _ (h : HeaderStruct) (draw all : ℕ → ℕ) (x : ℕ → ℤ) (from to : ℕ) (next : (t : ℕ) → from ≤ t → t < to → x (t + 1) ≡ charge_next h.capacity h.rate (draw t) (x t)) (e : x from ≡ charge_by h all from) (same : (t : ℕ) → from ≤ t → t < to → draw t ≡ all t) where
  pub value_at : (t : ℕ) → from ≤ t → t ≤ to → x t ≡ charge_by h all t
  value_at zero k l = let z : from ≡ 0 = omega arith in subst (λ (u : ℕ). x u ≡ charge_by h all u) z e
  value_at (suc t) k l =
      ⊎_elim (λ z. subst (λ (u : ℕ). x u ≡ charge_by h all u) z e)
      (λ m. rw (sym (add-one t)) (next t (omega arith) (omega arith) ∙ (λ i. charge_next h.capacity h.rate (same t (omega arith) (omega arith) i) (value_at t (omega arith) (omega arith) i)) ∙ sym (charge_next_lem h all t)))
      (eq-or-lt_of_le k)

pub charge_most : (h : HeaderStruct) (draw : ℕ → ℕ) (t : ℕ) → h.first ≤ h.capacity → charge_by h draw t ≤ℤ pos h.capacity
unfolding charge_by
charge_most h draw zero l = omega signed
charge_most h draw (suc t) l = next_most _ _ _ (charge_by h draw t)
