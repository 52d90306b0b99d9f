-- Whether charges keep to the floor and the handover charge, by a trial that is left where that is decided.
-- Assumes nothing.
use Prim.Native.Nat.{ℕ, ◌≤◌, ◌<◌}
use mathlib.Core.Path.{◌≡◌, sym, ap, ◌∙◌}
use mathlib.Core.Bool.{true, false}
use mathlib.Core.List.{List}
use native.Mathlib.Nat.{le_refl}
use native.Mathlib.Decide.{dec_lt}
use native.Mathlib.Omega.{arith}
use lib.IntN.{ℤ, pos}
use lib.ListN.{get_or}
use lib.Signed.{le_z}
use Rattle.rules.proofs.Tests.{last_or}
use Rattle.activity.specs.declared.Header.{Header as HeaderStruct}
use Rattle.charge.specs.Charge.{charge_by, kept_by}
use Rattle.charge.proofs.Running.{charge_first, charge_next_lem, value_at}
use Rattle.charge.proofs.Kept.{kept_at, handed_over, not_kept, kept_last}
use Rattle.trial.specs.Trial.{Ran}

-- a trial that got to tick n: the charge there stands in the array, and those before are at least the floor
pub record Tried (h : HeaderStruct) (all : ℕ → ℕ) (n : ℕ) (xs : List ℤ) : Type 0 where
  pub at : get_or xs n (pos 0) ≡ charge_by h all n
  pub kept : (u : ℕ) → u < n → le_z (pos h.floor) (charge_by h all u) ≡ true

module _ (h : HeaderStruct) (base all : ℕ → ℕ) (keeps : kept_by h base ≡ true) (n : ℕ) (early : n ≤ h.horizon) where
  -- as without the candidate up to tick n
  pub tried_first : ((t : ℕ) → t < n → base t ≡ all t) → (xs : List ℤ) → get_or xs n (pos 0) ≡ charge_by h base n → Tried h all n xs
  tried_first same xs e =
      record { at = e ∙ alike n (le_refl _); kept = λ u l. ap (le_z (pos h.floor)) (sym (alike u (omega arith))) ∙ kept_at h base keeps u (omega arith) }
    where
      alike : (t : ℕ) → t ≤ n → charge_by h base t ≡ charge_by h all t
      alike t l = value_at h base all (charge_by h base) 0 n (λ t _ _. charge_next_lem h base t) (sym (charge_first h base) ∙ charge_first h all) (λ t _ l. same t l) t (omega arith) l

  module _ (xs : List ℤ) (p : Tried h all n xs) where
    pub tried_on : (draw : ℕ → ℕ) (to : ℕ) (new : List ℤ) → Ran h draw n to xs new → ((t : ℕ) → n ≤ t → t < to → draw t ≡ all t) → Tried h all to new
    tried_on draw to new r same = record { at = is to r.began (le_refl _); kept = λ u l. go u l (dec_lt u n) }
      where
        is : (t : ℕ) → n ≤ t → t ≤ to → get_or new t (pos 0) ≡ charge_by h all t
        is = value_at h draw all (λ u. get_or new u (pos 0)) n to r.next (r.past n (le_refl _) ∙ p.at) same

        go : (u : ℕ) → u < to → Dec (u < n) → le_z (pos h.floor) (charge_by h all u) ≡ true
        go u l (yes k) = p.kept u k
        go u l (no k) = ap (le_z (pos h.floor)) (sym (is u (omega arith) (omega arith))) ∙ r.kept u (omega arith) l

    pub tried_under : le_z (pos h.floor) (get_or xs n (pos 0)) ≡ false → kept_by h all ≡ false
    tried_under e = not_kept h all n early (ap (le_z (pos h.floor)) (sym p.at) ∙ e)

    -- the charge is the base's again: from there on all is as without the candidate
    pub tried_back : get_or xs n (pos 0) ≡ charge_by h base n → ((t : ℕ) → n ≤ t → base t ≡ all t) → kept_by h all ≡ true
    tried_back e same = kept_last h all (λ t l. go t l (dec_lt t n)) ∙ ap (le_z (pos h.handover)) (sym (alike h.horizon early (le_refl _))) ∙ handed_over h base keeps
      where
        alike : (t : ℕ) → n ≤ t → t ≤ h.horizon → charge_by h base t ≡ charge_by h all t
        alike = value_at h base all (charge_by h base) n h.horizon (λ t _ _. charge_next_lem h base t) (sym e ∙ p.at) (λ t k _. same t k)

        go : (t : ℕ) → t ≤ h.horizon → Dec (t < n) → le_z (pos h.floor) (charge_by h all t) ≡ true
        go t l (yes k) = p.kept t k
        go t l (no k) = ap (le_z (pos h.floor)) (sym (alike t (omega arith) l)) ∙ kept_at h base keeps t l

    -- at the horizon the handover charge decides
    pub tried_last : n ≡ h.horizon → le_z (pos h.floor) (get_or xs n (pos 0)) ≡ true → kept_by h all ≡ le_z (pos h.handover) (get_or xs n (pos 0))
    tried_last z e = kept_last h all (λ t l. last_or (λ u. le_z (pos h.floor) (charge_by h all u) ≡ true) n t (omega arith) (ap (le_z (pos h.floor)) (sym p.at) ∙ e) (p.kept t)) ∙ ap (le_z (pos h.handover)) (ap (charge_by h all) (sym z) ∙ sym p.at)
