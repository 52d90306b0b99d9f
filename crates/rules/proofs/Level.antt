-- A level with a stop at one side: larger amounts keep an order at every tick, so an activity added never makes the charge higher.
-- Assumes nothing.
use Prim.Native.Nat.{ℕ, zero, suc, ◌+◌, ◌-◌, ◌≤◌, min}
use mathlib.Core.Path.{◌≡◌, refl, ap}
use mathlib.Core.List.{◌∷◌}
use native.Mathlib.Omega.{arith}
use lib.IntN.{ℤ, pos, ◌+ℤ◌, ◌-ℤ◌}
use lib.Signed.{le_z, ◌≤ℤ◌, ≤ℤ_refl}
use Rattle.rules.specs.Plan.{Header, Entry, Schedule}
use Rattle.rules.specs.Tests.{total}
use Rattle.rules.specs.MeetsB.{drawn, smaller, charge}
use Rattle.rules.proofs.Signed.{above, under, cond_by, add_parts, less_parts, le_yes, le_no, signed}

-- the level after t ticks from x on, with the amount d u in tick u
unfoldable pub level : {A : Type 0} → (ℕ → ℕ → A → A) → (ℕ → ℕ) → A → ℕ → A
level step d x zero = x
level step d x (suc t) = step t (d t) (level step d x t)

-- a step that keeps R when the amount grows keeps it at every tick
pub level_kept : {A : Type 0} (R : A → A → Type 0) (step : ℕ → ℕ → A → A) → ((t d e : ℕ) (x y : A) → d ≤ e → R x y → R (step t e x) (step t d y)) → (d e : ℕ → ℕ) → ((t : ℕ) → d t ≤ e t) → (x y : A) → R x y → (t : ℕ) → R (level step e x t) (level step d y t)
unfolding level
level_kept R step keeps d e more x y r zero = r
level_kept R step keeps d e more x y r (suc t) = keeps t (d t) (e t) _ _ (more t) (level_kept R step keeps d e more x y r t)

-- the battery: the amount is drawn, with a stop at the capacity
smaller_parts : (a b : ℤ) → above (smaller a b) + (under a + under b) ≡ min (above a + under b) (above b + under a) + under (smaller a b)
unfolding smaller
smaller_parts a b =
    cond_by (λ z. above z + (under a + under b) ≡ min (above a + under b) (above b + under a) + under z) (le_z a b) a b (λ t. omega (arith, le_yes a b t)) (λ t. omega (arith, le_no a b t))

pub smaller_most : (a b : ℤ) → smaller a b ≤ℤ a
unfolding smaller
smaller_most a b = cond_by (λ z. z ≤ℤ a) (le_z a b) a b (λ t. omega signed) (λ t. omega (signed, le_no a b t))

charge_step : Header → ℕ → ℕ → ℤ → ℤ
charge_step h t d c = smaller (pos h.capacity) (c +ℤ pos h.rate -ℤ pos d)

step_parts : (h : Header) (t d : ℕ) (c : ℤ) → above (charge_step h t d c) + (under c + d) ≡ min (h.capacity + under c + d) (above c + h.rate) + under (charge_step h t d c)
unfolding charge_step
step_parts h t d c =
    omega (arith, smaller_parts (pos h.capacity) (c +ℤ pos h.rate -ℤ pos d), add_parts c (pos h.rate), less_parts (c +ℤ pos h.rate) d)

charge_step_lem : (h : Header) (t d e : ℕ) (x y : ℤ) → d ≤ e → x ≤ℤ y → charge_step h t e x ≤ℤ charge_step h t d y
charge_step_lem h t d e x y l r = omega (signed, step_parts h t e x, step_parts h t d y)

charge_level : (h : Header) (placed : Schedule) (t : ℕ) → charge h placed t ≡ level (charge_step h) (drawn h placed) (pos h.first) t
unfolding charge level charge_step
charge_level h placed zero = refl
charge_level h placed (suc t) = ap (charge_step h t (drawn h placed t)) (charge_level h placed t)

-- no less drawn in any tick: no more charge at any tick
pub charge_by_draw : (h : Header) (less more : Schedule) → ((t : ℕ) → drawn h less t ≤ drawn h more t) → (t : ℕ) → charge h more t ≤ℤ charge h less t
charge_by_draw h less more f t = rw (charge_level h more t, charge_level h less t) (level_kept ◌≤ℤ◌ (charge_step h) (charge_step_lem h) (drawn h less) (drawn h more) f _ _ (≤ℤ_refl _) t)

pub charge_lower : (h : Header) (placed : Schedule) (e : Entry) (t : ℕ) → charge h (e ∷ placed) t ≤ℤ charge h placed t
unfolding drawn total
charge_lower h placed e t = charge_by_draw h placed (e ∷ placed) (λ u. omega arith) t

-- a charge is at most the capacity
pub charge_most : (h : Header) (placed : Schedule) → h.first ≤ h.capacity → (t : ℕ) → charge h placed t ≤ℤ pos h.capacity
unfolding charge
charge_most h placed l zero = omega signed
charge_most h placed l (suc t) = smaller_most _ _

-- the other side: the amount arrives, with a stop at 0
pub store_step : (rate d e x y : ℕ) → d ≤ e → y ≤ x → (y - rate) + d ≤ (x - rate) + e
store_step rate d e x y l r = omega arith

pub store_higher : (rate d e : ℕ → ℕ) → ((t : ℕ) → d t ≤ e t) → (t : ℕ) → level (λ u v l. (l - rate u) + v) d 0 t ≤ level (λ u v l. (l - rate u) + v) e 0 t
store_higher rate d e more t = level_kept (λ x y. y ≤ x) _ (λ u v w x y. store_step (rate u) v w x y) d e more 0 0 (omega arith) t
