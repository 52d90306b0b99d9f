-- What is drawn in each tick: by one activity, and by the rows of the tables.
-- Assumes nothing.
use Prim.Native.Nat.{ℕ, zero, suc, ◌+◌, ◌*◌, ◌≤◌}
use mathlib.Core.Path.{◌≡◌, refl}
use mathlib.Core.Bool.{Bool, true, false, cond}
use mathlib.Core.List.{List}
use native.Mathlib.Numerals.{add-one}
use native.Mathlib.Omega.{arith}
use lib.Dec.{leb, ltb}
use lib.ListN.{length, get_or}
use borrow.Author.Tests.{ltb-true, ltb-false, le-leb, lt-leb}
use Rattle.rules.specs.WellFormed.{HeaderFormed}
use Rattle.activity.specs.View.{header_view}
use Rattle.activity.specs.declared.Header.{Header as HeaderStruct}
use Rattle.placed.specs.Tables.{row_in}
use Rattle.placed.specs.declared.row.Row.{Row}
use Rattle.placed.specs.Bounds.{AmountsBounded}
use Rattle.placed.specs.Raised.{Raised}
use Rattle.placed.proofs.Raising.{cond_most}
use Rattle.charge.specs.Charge.{OwnDraw, row_draw, draw_of, drawn_in, Drawing}

-- raised by the heater's draw, then by its own
pub raised_own : (o : OwnDraw) (old mid new : List ℕ) → Raised o.heat o.start o.heater old mid → Raised o.start o.end o.draw mid new → (t : ℕ) → get_or new t 0 ≡ draw_of o t + get_or old t 0
unfolding draw_of
raised_own o old mid new p q t = go (ltb t o.start) refl (leb o.heat t) refl
  where
    go : (a : Bool) → ltb t o.start ≡ a → (b : Bool) → leb o.heat t ≡ b → get_or new t 0 ≡ cond a (cond b o.heater 0) (cond (ltb t o.end) o.draw 0) + get_or old t 0
    go true e true f = omega (arith, simp (e, f) at (p.at t), simp (lt-leb o.start t (ltb-true _ _ e)) at (q.at t))
    go true e false f = omega (arith, simp (e, f) at (p.at t), simp (lt-leb o.start t (ltb-true _ _ e)) at (q.at t))
    go false e true f = omega (arith, simp (e, f) at (p.at t), simp (le-leb o.start t (ltb-false _ _ e)) at (q.at t))
    go false e false f = omega (arith, simp (e, f) at (p.at t), simp (le-leb o.start t (ltb-false _ _ e)) at (q.at t))

-- ---- by the rows
module _ (h : HeaderStruct) (rows : List Row) where
  pub drawn_none : (t : ℕ) → drawn_in h rows 0 t ≡ 0
  unfolding drawn_in
  drawn_none t = refl

  -- one row more
  pub drawn_step : (n t : ℕ) → drawn_in h rows (n + 1) t ≡ draw_of (row_draw h (row_in rows n)) t + drawn_in h rows n t
  unfolding drawn_in
  drawn_step n t = rw add-one

  draw_most : (o : OwnDraw) (t : ℕ) → o.draw ≤ 1000000 → o.heater ≤ 1000000 → draw_of o t ≤ 1000000
  unfolding draw_of
  draw_most o t d e = go (ltb t o.start)
    where
      go : (b : Bool) → cond b (cond (leb o.heat t) o.heater 0) (cond (ltb t o.end) o.draw 0) ≤ 1000000
      go true = cond_most (leb o.heat t) o.heater 1000000 e
      go false = cond_most (ltb t o.end) o.draw 1000000 d

  -- at most a million for each
  pub drawn_few : (m n : ℕ) → AmountsBounded rows m → h.heater ≤ 1000000 → n ≤ m → (t : ℕ) → drawn_in h rows n t ≤ n * 1000000
  unfolding drawn_in
  drawn_few m zero b l k t = omega arith
  drawn_few m (suc n) b l k t = omega (arith, draw_most (row_draw h (row_in rows n)) t (b.draw n (omega arith)) l, drawn_few m n b l (omega arith) t)

pub amounts_fewer : (rows : List Row) (m n : ℕ) → n ≤ m → AmountsBounded rows m → AmountsBounded rows n
amounts_fewer rows m n k b =
    record { engines = λ i l. b.engines i (omega arith); peak = λ i l. b.peak i (omega arith); draw = λ i l. b.draw i (omega arith) }

-- an array of draws, under a first line
pub drawing : (h : HeaderStruct) (draws : List ℕ) → length draws ≡ 4096 → HeaderFormed (header_view h) → Drawing draws h
unfolding header_view
drawing h draws size f = record { known = omega (arith, f.horizon); short = f.horizon.1 }
