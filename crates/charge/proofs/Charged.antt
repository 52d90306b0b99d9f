-- The charge over the tables is the definition's, where their rows say the schedule.
-- Assumes nothing.
use Prim.Native.Nat.{ℕ, zero, suc, ◌+◌, ◌-◌, ◌≤◌}
use mathlib.Core.Path.{◌≡◌, refl, ap, ◌∙◌}
use mathlib.Core.Bool.{Bool, true, false, cond, ◌&&◌}
use mathlib.Core.List.{List, [], ◌∷◌}
use native.Mathlib.Omega.{arith}
use lib.Dec.{leb, ltb}
use lib.IntN.{pos, ◌+ℤ◌, ◌-ℤ◌}
use lib.Signed.{lt_z}
use borrow.Author.Tests.{leb-true, ltb-true, ltb-false, le-leb, lt-leb}
use Rattle.rules.specs.Plan.{Header, Entry, Schedule, end}
use Rattle.rules.specs.Tests.{total}
use Rattle.rules.specs.Hold.{holds}
use Rattle.rules.specs.Warmup.{warmup}
use Rattle.rules.specs.MeetsB.{heats, drawn, smaller, charge, projected, projection, within_limits, charge_kept}
use Rattle.rules.specs.declared.Projection.{Projection}
use Rattle.rules.specs.Reading.{out_of_reach}
use Rattle.rules.proofs.Local.{bool_ext}
use Rattle.activity.specs.View.{header_view}
use Rattle.activity.specs.declared.Header.{Header as HeaderStruct}
use Rattle.placed.specs.Tables.{row_in}
use Rattle.placed.specs.declared.row.Row.{Row}
use Rattle.placed.specs.Held.{TicksAt, AmountsAt, Rows}
use Rattle.charge.specs.Charge.{OwnDraw, row_draw, draw_of, drawn_in, charge_next, charge_by, kept_by}

-- ---- by any draws that are the schedule's
module _ (h : HeaderStruct) (draw : ℕ → ℕ) (placed : Schedule) (is : (t : ℕ) → draw t ≡ drawn (header_view h) placed t) where
  pub charge_is : (t : ℕ) → charge_by h draw t ≡ charge (header_view h) placed t
  unfolding charge_by charge_next charge header_view
  charge_is zero = refl
  charge_is (suc t) = λ i. smaller (pos h.capacity) (charge_is t i +ℤ pos h.rate -ℤ pos (is t i))

  pub projection_by : projected (charge_by h draw) h.horizon ≡ projection (header_view h) placed
  unfolding projection header_view
  projection_by = λ i. projected (λ t. charge_is t i) h.horizon

  pub kept_is : kept_by h draw ≡ charge_kept (header_view h) placed
  unfolding kept_by charge_kept
  kept_is = ap (within_limits (header_view h)) projection_by

-- ---- with nothing placed
pub reach_by : (h : HeaderStruct) (draw : ℕ → ℕ) → ((t : ℕ) → draw t ≡ 0) → lt_z (projected (charge_by h draw) h.horizon).last (pos h.handover) ≡ out_of_reach (header_view h)
unfolding out_of_reach header_view drawn total
reach_by h draw none = ap (λ (p : Projection). lt_z p.last (pos h.handover)) (projection_by h draw [] none)

-- ---- by the tables
-- what an entry of a schedule draws
abbrev entry_draw : Header → Entry → OwnDraw
entry_draw h e = record { heat = e.start - warmup h e.activity e.start; start = e.start; end = end e; draw = e.activity.draw; heater = h.heater }

heats_from : (s t w : ℕ) → leb (s - w) t ≡ leb s (t + w)
heats_from s t w = bool_ext _ _ (λ e. let m : s - w ≤ t = leb-true _ _ e in le-leb s (t + w) (omega arith)) (λ e. let m : s ≤ t + w = leb-true _ _ e in le-leb (s - w) t (omega arith))

pub entry_draws : (h : Header) (e : Entry) (t : ℕ) → draw_of (entry_draw h e) t ≡ cond (holds t e) e.activity.draw 0 + cond (heats h t e) h.heater 0
unfolding draw_of holds heats
entry_draws h e t = go (ltb t e.start) refl
  where
    go : (b : Bool) → ltb t e.start ≡ b → cond b (cond (leb (e.start - warmup h e.activity e.start) t) h.heater 0) (cond (ltb t (end e)) e.activity.draw 0) ≡ cond (leb e.start t && ltb t (end e)) e.activity.draw 0 + cond (b && leb e.start (t + warmup h e.activity e.start)) h.heater 0
    go true f = rw (lt-leb e.start t (ltb-true _ _ f), heats_from e.start t (warmup h e.activity e.start)) (omega arith)
    go false f = rw (le-leb e.start t (ltb-false _ _ f)) (omega arith)

module _ (h : HeaderStruct) (rows : List Row) where
  -- a row that says an entry draws what it does
  row_draws : (i : ℕ) (e : Entry) → TicksAt (header_view h) rows i e → AmountsAt rows i e.activity → row_draw h (row_in rows i) ≡ entry_draw (header_view h) e
  unfolding header_view
  row_draws i e p q = λ j. record { heat = p.heat j; start = p.start j; end = p.ends j; draw = q.draw j; heater = h.heater }

  pub drawn_is : (n : ℕ) (placed : Schedule) → Rows (λ i e. TicksAt (header_view h) rows i e × AmountsAt rows i e.activity) n placed → (t : ℕ) → drawn_in h rows n t ≡ drawn (header_view h) placed t
  unfolding Rows drawn_in drawn total
  drawn_is zero [] r t = refl
  drawn_is zero (e ∷ placed) r t = elim r [ ]
  drawn_is (suc n) [] r t = elim r [ ]
  drawn_is (suc n) (e ∷ placed) r t =
      λ i. ((ap (λ (o : OwnDraw). draw_of o t) (row_draws n e r.0.0 r.0.1) ∙ entry_draws (header_view h) e t) i) + drawn_is n placed r.1 t i

  module _ (n : ℕ) (placed : Schedule) (say : Rows (λ i e. TicksAt (header_view h) rows i e × AmountsAt rows i e.activity) n placed) where
    -- the placed alone
    pub charge_kept_lem : kept_by h (drawn_in h rows n) ≡ charge_kept (header_view h) placed
    charge_kept_lem = kept_is h _ placed (drawn_is n placed say)

    pub projection_is : projected (charge_by h (drawn_in h rows n)) h.horizon ≡ projection (header_view h) placed
    projection_is = projection_by h _ placed (drawn_is n placed say)
