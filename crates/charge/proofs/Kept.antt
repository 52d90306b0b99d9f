-- Whether charges keep to the floor and the handover charge: each charge to the horizon, and the one there.
-- Assumes nothing.
use Prim.Native.Nat.{ℕ, ◌≤◌}
use mathlib.Core.Path.{◌≡◌}
use mathlib.Core.Bool.{true, false}
use lib.IntN.{pos}
use lib.Signed.{le_z}
use Rattle.rules.specs.MeetsB.{projected, within_limits}
use Rattle.rules.proofs.Projecting.{projected_right, limits_when}
use Rattle.rules.proofs.Tests.{is_false, both_ways}
use Rattle.rules.proofs.Signed.{le_le_z}
use Rattle.activity.specs.View.{header_view}
use Rattle.activity.specs.declared.Header.{Header as HeaderStruct}
use Rattle.charge.specs.Charge.{charge_by, kept_by}

module _ (h : HeaderStruct) (draw : ℕ → ℕ) where
  pub kept_at : kept_by h draw ≡ true → (t : ℕ) → t ≤ h.horizon → le_z (pos h.floor) (charge_by h draw t) ≡ true
  unfolding kept_by header_view
  kept_at k t l = le_le_z _ _ (((limits_when (header_view h) (charge_by h draw)).0 k).0 t l)

  pub handed_over : kept_by h draw ≡ true → le_z (pos h.handover) (charge_by h draw h.horizon) ≡ true
  unfolding kept_by header_view
  handed_over k = le_le_z _ _ ((limits_when (header_view h) (charge_by h draw)).0 k).1

  -- a tick under the floor
  pub not_kept : (t : ℕ) → t ≤ h.horizon → le_z (pos h.floor) (charge_by h draw t) ≡ false → kept_by h draw ≡ false
  not_kept t l e = is_false _ (λ k. both_ways (kept_at k t l) e)

  -- no tick under the floor
  pub kept_last : ((t : ℕ) → t ≤ h.horizon → le_z (pos h.floor) (charge_by h draw t) ≡ true) → kept_by h draw ≡ le_z (pos h.handover) (charge_by h draw h.horizon)
  unfolding kept_by within_limits header_view
  kept_last f =
      let r = projected_right (charge_by h draw) h.horizon in
      let low : le_z (pos h.floor) (projected (charge_by h draw) h.horizon).lowest ≡ true = rw (← r.has) (f _ r.within) in
      rw (low, r.last)
