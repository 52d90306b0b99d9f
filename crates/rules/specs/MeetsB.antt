-- B (01, Nine conditions): "with the candidate added, charge c is at least the floor at ticks 0 to T, and at least the handover charge at T"; and the charge projection (02, [1]), by which it is judged.
use Rattle.std.specs.Prelude.{ℕ, zero, suc, ◌+◌, Bool, cond, ◌&&◌, ◌∷◌, leb, ltb, ℤ, pos, ◌+ℤ◌, ◌-ℤ◌}
use Rattle.std.specs.Int.Signed.{le_z}
use Rattle.rules.specs.Plan.{Header, Activity, Entry, Schedule, at}
use Rattle.rules.specs.Tests.{total}
use Rattle.rules.specs.Hold.{holds}
use Rattle.rules.specs.Warmup.{warmup}
use Rattle.rules.specs.declared.Projection.{Projection}

-- "The heater works in ticks s − w(s) to s − 1" (01, Warm-up): t < s and s ≤ t + w(s); none of the ticks t is below 0
unfoldable pub heats : Header → ℕ → Entry → Bool
heats h t e = ltb t e.start && leb e.start (t + warmup h e.activity e.start)

-- "all draws and heater draws in tick t"; the heater "isn't shared", so each counts
unfoldable pub drawn : Header → Schedule → ℕ → ℕ
drawn h placed t = total (λ e. cond (holds t e) e.activity.draw 0 + cond (heats h t e) h.heater 0) placed

-- the smaller of two signed whole numbers
unfoldable pub smaller : ℤ → ℤ → ℤ
smaller a b = cond (le_z a b) a b

-- "c(0) is the first charge; c(t + 1) is the smaller of the capacity and c(t) + charging rate − all draws and heater draws in tick t"
unfoldable pub charge : Header → Schedule → ℕ → ℤ
charge h placed zero = pos h.first
charge h placed (suc t) = smaller (pos h.capacity) (charge h placed t +ℤ pos h.rate -ℤ pos (drawn h placed t))

-- a projection with one tick more, t, whose charge is c: it becomes the lowest only where the lowest so far is higher
unfoldable pub further : ℕ → ℤ → Projection → Projection
further t c p = record { last = c; lowest = smaller p.lowest c; tick = cond (le_z p.lowest c) p.tick t }

-- "The charge projection must hand back the lowest c and the first tick that has it" (02, [1]), beside the last: of the charges c at ticks 0 to t
unfoldable pub projected : (ℕ → ℤ) → ℕ → Projection
projected c zero = record { last = c 0; lowest = c 0; tick = 0 }
projected c (suc t) = further (suc t) (c (suc t)) (projected c t)

-- of a schedule, at ticks 0 to T
unfoldable pub projection : Header → Schedule → Projection
projection h placed = projected (charge h placed) h.horizon

-- the lowest charge is at least the floor, and the last at least the handover charge
unfoldable pub within_limits : Header → Projection → Bool
within_limits h p = le_z (pos h.floor) p.lowest && le_z (pos h.handover) p.last

-- over a whole schedule
unfoldable pub charge_kept : Header → Schedule → Bool
charge_kept h placed = within_limits h (projection h placed)

unfoldable pub meets_b : Header → Schedule → Activity → ℕ → Bool
meets_b h placed a s = charge_kept h (at a s ∷ placed)
