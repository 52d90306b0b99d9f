-- An activity that draws no more than the placed can spare, whenever it draws, leaves the charge within the limits.
-- Assumes nothing.
use Prim.Native.Nat.{ℕ, zero, suc, ◌+◌, ◌*◌, ◌-◌, ◌≤◌, ◌<◌}
use mathlib.Core.Path.{◌≡◌, ◌∙◌}
use mathlib.Core.Bool.{true, cond}
use native.Mathlib.Nat.{suc-mul, mul-le-mul_right}
use native.Mathlib.Decide.{dec_lt, dec_le}
use native.Mathlib.Omega.{arith}
use lib.Dec.{leb, ltb}
use lib.IntN.{ℤ, pos, ◌+ℤ◌, ◌-ℤ◌}
use lib.Signed.{le_z, ◌≤ℤ◌}
use borrow.Author.Tests.{le-leb, lt-leb, le-ltb, lt-ltb}
use Rattle.rules.specs.MeetsB.{smaller, projected, within_limits}
use Rattle.rules.specs.declared.Projection.{Projection}
use Rattle.rules.proofs.Projecting.{projected_right, limits_say}
use Rattle.rules.proofs.Level.{smaller_most}
use Rattle.rules.proofs.Signed.{signed, cond_by, add_parts, less_parts, le_le_z}
use Rattle.activity.specs.View.{header_view}
use Rattle.activity.specs.declared.Header.{Header as HeaderStruct}
use Rattle.charge.specs.Charge.{OwnDraw, draw_of, charge_next, charge_by, kept_by}
use Rattle.charge.proofs.Kept.{kept_last}
use Rattle.trial.specs.Trial.{energy_of, draw_with, spare_of}

smaller_by : (P : ℤ → Type 0) (a b : ℤ) → P a → P b → P (smaller a b)
unfolding smaller
smaller_by P a b p q = cond_by P (le_z a b) a b (λ _. p) (λ _. q)

-- ---- what a projection within the limits says
pub over_limits : (h : HeaderStruct) (p : Projection) → within_limits (header_view h) p ≡ true → (pos h.floor ≤ℤ p.lowest) × (pos h.handover ≤ℤ p.last)
unfolding header_view
over_limits h p e = limits_say (header_view h) p e

-- ---- how many of the ticks before t lie in `from` to before `to`
unfoldable passed : ℕ → ℕ → ℕ → ℕ
passed from to t = (t - from) - (t - to)

module _ (from to t : ℕ) where
  passed_in : from ≤ t → t < to → passed from to (suc t) ≡ suc (passed from to t)
  unfolding passed
  passed_in a b = omega arith

  passed_before : t < from → passed from to (suc t) ≡ passed from to t
  unfolding passed
  passed_before a = omega arith

  passed_after : from ≤ to → to ≤ t → passed from to (suc t) ≡ passed from to t
  unfolding passed
  passed_after a b = omega arith

  passed_most : passed from to t ≤ to - from
  unfolding passed
  passed_most = omega arith

-- ---- what an activity has drawn before tick t
module _ (o : OwnDraw) (early : o.heat ≤ o.start) (short : o.start ≤ o.end) where
  drawn_to : ℕ → ℕ
  drawn_to t = passed o.heat o.start t * o.heater + passed o.start o.end t * o.draw

  drawn_next : (t : ℕ) → drawn_to (suc t) ≡ drawn_to t + draw_of o t
  unfolding draw_of drawn_to
  drawn_next t = go (dec_lt t o.start) (dec_le o.heat t) (dec_lt t o.end)
    where
      go : Dec (t < o.start) → Dec (o.heat ≤ t) → Dec (t < o.end) → drawn_to (suc t) ≡ drawn_to t + cond (ltb t o.start) (cond (leb o.heat t) o.heater 0) (cond (ltb t o.end) o.draw 0)
      go (yes a) (yes b) c = rw (lt-ltb _ _ a, le-leb _ _ b, passed_in _ _ t b a, passed_before o.start o.end t a) (omega (arith, suc-mul (passed o.heat o.start t) o.heater))
      go (yes a) (no b) c = rw (lt-ltb _ _ a, lt-leb o.heat t (omega arith), passed_before o.heat o.start t (omega arith), passed_before o.start o.end t a) (omega arith)
      go (no a) b (yes c) =
          let l : o.start ≤ t = omega arith in
          rw (le-ltb t o.start l, lt-ltb _ _ c, passed_after o.heat o.start t early l, passed_in o.start o.end t l c) (omega (arith, suc-mul (passed o.start o.end t) o.draw))
      go (no a) b (no c) =
          let l : o.start ≤ t = omega arith in
          let m : o.end ≤ t = omega arith in
          rw (le-ltb t o.start l, le-ltb t o.end m, passed_after o.heat o.start t early l, passed_after o.start o.end t short m) (omega arith)

  drawn_most : (t : ℕ) → drawn_to t ≤ energy_of o
  unfolding energy_of drawn_to
  drawn_most t = omega (arith, mul-le-mul_right o.heater (passed_most o.heat o.start t), mul-le-mul_right o.draw (passed_most o.start o.end t))

-- ---- the charge with the activity added is under the charge without it by at most what it has drawn
smaller_second : (a b : ℤ) → smaller a b ≤ℤ b
unfolding smaller
smaller_second a b = cond_by (λ z. z ≤ℤ b) (le_z a b) a b (λ t. record { le = t }) (λ _. omega signed)

next_under : (capacity rate draw more : ℕ) (c d : ℤ) (n : ℕ) → c ≤ℤ (d +ℤ pos n) → charge_next capacity rate draw c ≤ℤ (charge_next capacity rate (draw + more) d +ℤ pos (n + more))
unfolding charge_next
next_under capacity rate draw more c d n l =
    let x = c +ℤ pos rate -ℤ pos draw in
    let y = d +ℤ pos rate -ℤ pos (draw + more) in
    let z = smaller (pos capacity) x in
    let a : z ≤ℤ pos capacity = smaller_most _ _ in
    let b : z ≤ℤ x = smaller_second _ _ in
    smaller_by (λ w. z ≤ℤ (w +ℤ pos (n + more))) (pos capacity) y
    (omega (signed, add_parts (pos capacity) (pos (n + more))))
    (omega (signed, add_parts d (pos n), add_parts c (pos rate), less_parts (c +ℤ pos rate) draw, add_parts d (pos rate), less_parts (d +ℤ pos rate) (draw + more), add_parts y (pos (n + more))))

module _ (h : HeaderStruct) (draw : ℕ → ℕ) (o : OwnDraw) (early : o.heat ≤ o.start) (short : o.start ≤ o.end) where
  charge_under : (t : ℕ) → charge_by h draw t ≤ℤ (charge_by h (draw_with draw o) t +ℤ pos (drawn_to o early short t))
  unfolding charge_by drawn_to draw_with
  charge_under zero = omega (signed, add_parts (pos h.first) (pos (drawn_to o early short 0)))
  charge_under (suc t) = rw (drawn_next o early short t) (next_under h.capacity h.rate (draw t) (draw_of o t) (charge_by h draw t) (charge_by h (draw_with draw o) t) (drawn_to o early short t) (charge_under t))

  -- ---- the limits are kept where the charge without it is over them by what it draws in all
  module _ (spared : pos (energy_of o) ≤ℤ spare_of h (projected (charge_by h draw) h.horizon)) where
    -- a limit that the charge at t is over by that much
    over : (limit t : ℕ) → spare_of h (projected (charge_by h draw) h.horizon) ≤ℤ (charge_by h draw t -ℤ pos limit) → le_z (pos limit) (charge_by h (draw_with draw o) t) ≡ true
    over limit t s =
        let c = charge_by h draw t in
        let d = charge_by h (draw_with draw o) t in
        let n = drawn_to o early short t in
        le_le_z (pos limit) d (omega (signed, charge_under t, drawn_most o early short t, add_parts d (pos n), less_parts c limit))

    pub spare_kept : kept_by h (draw_with draw o) ≡ true
    unfolding spare_of
    spare_kept =
        let p = projected (charge_by h draw) h.horizon in
        let r = projected_right (charge_by h draw) h.horizon in
        kept_last h (draw_with draw o) (λ t l. let c = charge_by h draw t in over h.floor t (omega (signed, r.least t l, smaller_most (p.lowest -ℤ pos h.floor) (p.last -ℤ pos h.handover), less_parts p.lowest h.floor, less_parts c h.floor)))
        ∙ over h.handover h.horizon (rw (← r.last) (smaller_second _ _))
