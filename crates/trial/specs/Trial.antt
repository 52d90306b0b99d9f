-- Condition B as the code tests it: the draws with the candidate added, the charges of a trial, and what can be spared.
use Rattle.std.specs.Prelude.{ℕ, ◌+◌, ◌*◌, ◌-◌, ◌<◌, ◌≤◌, ◌≡◌, Bool, true, List, ℤ, pos, ◌-ℤ◌, length, get_or}
use Rattle.std.specs.Int.Signed.{le_z}
use Rattle.rules.specs.Warmup.{warmup_at}
use Rattle.rules.specs.MeetsB.{smaller}
use Rattle.rules.specs.declared.Projection.{Projection}
use Rattle.activity.specs.declared.Header.{Header as HeaderStruct}
use Rattle.charge.specs.Charge.{OwnDraw, draw_of, charge_next, kept_by}

-- an activity of this duration, draw and warm at the start s
abbrev pub own_draw : HeaderStruct → ℕ → ℕ → ℕ → ℕ → OwnDraw
own_draw h s duration draw warm = record { heat = s - warmup_at h.minute s warm; start = s; end = s + duration; draw = draw; heater = h.heater }

-- what an activity draws in all
unfoldable pub energy_of : OwnDraw → ℕ
energy_of o = (o.start - o.heat) * o.heater + (o.end - o.start) * o.draw

-- draws with `by` more, and with one activity's more
unfoldable pub draw_more : (ℕ → ℕ) → ℕ → ℕ → ℕ
draw_more draw by t = draw t + by

unfoldable pub draw_with : (ℕ → ℕ) → OwnDraw → ℕ → ℕ
draw_with draw o t = draw t + draw_of o t

-- the charge keeps the limits with an activity added at the start s
unfoldable pub kept_at : HeaderStruct → (ℕ → ℕ) → ℕ → ℕ → ℕ → ℕ → Bool
kept_at h draw duration own warm s = kept_by h (draw_with draw (own_draw h s duration own warm))

-- charges run on from tick `from` to tick `to`, each after the one before; all but the last are at least the floor, and those up to `from` remain
pub record Ran (h : HeaderStruct) (draw : ℕ → ℕ) (from to : ℕ) (old new : List ℤ) : Type 0 where
  pub size : length new ≡ length old
  pub began : from ≤ to
  pub past : (t : ℕ) → t ≤ from → get_or new t (pos 0) ≡ get_or old t (pos 0)
  pub next : (t : ℕ) → from ≤ t → t < to → get_or new (t + 1) (pos 0) ≡ charge_next h.capacity h.rate (draw t) (get_or new t (pos 0))
  pub kept : (t : ℕ) → from ≤ t → t < to → le_z (pos h.floor) (get_or new t (pos 0)) ≡ true

-- the smaller of what the lowest charge is over the floor, and the last over the handover charge
unfoldable pub spare_of : HeaderStruct → Projection → ℤ
spare_of h p = smaller (p.lowest -ℤ pos h.floor) (p.last -ℤ pos h.handover)
