-- The charge as the code has it: what is drawn in each tick, the charges that it leaves, and whether their projection keeps to the floor and the handover charge.
use Rattle.std.specs.Prelude.{ℕ, zero, suc, ◌+◌, ◌≤◌, ◌≡◌, Bool, cond, List, leb, ltb, ℤ, pos, ◌+ℤ◌, ◌-ℤ◌, length, get_or}
use Rattle.rules.specs.MeetsB.{smaller, projected, within_limits}
use Rattle.activity.specs.View.{header_view}
use Rattle.activity.specs.declared.Header.{Header as HeaderStruct}
use Rattle.placed.specs.Tables.{row_in}
use Rattle.placed.specs.declared.row.Row.{Row}
use Rattle.charge.specs.declared.own.OwnDraw.{OwnDraw as OwnStruct}

-- what one activity draws: the heater's draw from `heat` to before `start`, its own from there to before `end`
pub record OwnDraw : Type 0 where
  pub heat : ℕ
  pub start : ℕ
  pub end : ℕ
  pub draw : ℕ
  pub heater : ℕ

abbrev pub own_view : OwnStruct → OwnDraw
own_view o = record { heat = o.heat; start = o.start; end = o.end; draw = o.draw; heater = o.heater }

-- the activity of a row
abbrev pub row_draw : HeaderStruct → Row → OwnDraw
row_draw h row = record { heat = row.heat; start = row.start; end = row.end; draw = row.draw; heater = h.heater }

-- what an activity draws at tick t
unfoldable pub draw_of : OwnDraw → ℕ → ℕ
draw_of o t = cond (ltb t o.start) (cond (leb o.heat t) o.heater 0) (cond (ltb t o.end) o.draw 0)

-- what the first n rows draw at tick t
unfoldable pub drawn_in : HeaderStruct → List Row → ℕ → ℕ → ℕ
drawn_in h rows zero t = 0
drawn_in h rows (suc n) t = draw_of (row_draw h (row_in rows n)) t + drawn_in h rows n t

-- the same as an array has it
abbrev pub at_tick : List ℕ → ℕ → ℕ
at_tick draws t = get_or draws t 0

-- the charge after a tick, and at tick t
unfoldable pub charge_next : ℕ → ℕ → ℕ → ℤ → ℤ
charge_next capacity rate draw c = smaller (pos capacity) (c +ℤ pos rate -ℤ pos draw)

unfoldable pub charge_by : HeaderStruct → (ℕ → ℕ) → ℕ → ℤ
charge_by h draw zero = pos h.first
charge_by h draw (suc t) = charge_next h.capacity h.rate (draw t) (charge_by h draw t)

-- the projection of these charges keeps to the floor and the handover charge
unfoldable pub kept_by : HeaderStruct → (ℕ → ℕ) → Bool
kept_by h draw = within_limits (header_view h) (projected (charge_by h draw) h.horizon)

-- draws that reach to the horizon, which is at most 4,096
pub record Drawing (draws : List ℕ) (h : HeaderStruct) : Type 0 where
  pub known : h.horizon ≤ length draws
  pub short : h.horizon ≤ 4096

-- an array of the charges at each tick to the horizon
pub record Charges (h : HeaderStruct) (draw : ℕ → ℕ) (xs : List ℤ) : Type 0 where
  pub size : length xs ≡ 4097
  pub at : (t : ℕ) → t ≤ h.horizon → get_or xs t (pos 0) ≡ charge_by h draw t
