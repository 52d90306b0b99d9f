-- What is drawn in each tick with one activity added.
-- Assumes nothing.
use Prim.Native.Nat.{ℕ, ◌≤◌, ◌<◌}
use mathlib.Core.Path.{◌≡◌, ap}
use native.Mathlib.Omega.{arith}
use borrow.Author.Tests.{le-leb, lt-leb, lt-ltb, le-ltb}
use Rattle.activity.specs.declared.Header.{Header as HeaderStruct}
use Rattle.charge.specs.Charge.{OwnDraw, draw_of, kept_by}
use Rattle.trial.specs.Trial.{own_draw, draw_more, draw_with, kept_at}

-- in the ticks before it draws, while its heater works, while it is held, and after it
module _ (draw : ℕ → ℕ) (o : OwnDraw) (t : ℕ) where
  pub draws_before : o.heat ≤ o.start → t < o.heat → draw t ≡ draw_with draw o t
  unfolding draw_of draw_with
  draws_before h l = rw (lt-ltb t o.start (omega arith), lt-leb o.heat t l) (omega arith)

  pub draws_heating : o.heat ≤ t → t < o.start → draw_more draw o.heater t ≡ draw_with draw o t
  unfolding draw_of draw_more draw_with
  draws_heating h l = rw (lt-ltb t o.start l, le-leb o.heat t h)

  pub draws_held : o.start ≤ t → t < o.end → draw_more draw o.draw t ≡ draw_with draw o t
  unfolding draw_of draw_more draw_with
  draws_held h l = rw (le-ltb t o.start h, lt-ltb t o.end l)

  pub draws_after : o.start ≤ o.end → o.end ≤ t → draw t ≡ draw_with draw o t
  unfolding draw_of draw_with
  draws_after h l = rw (le-ltb t o.start (omega arith), le-ltb t o.end l) (omega arith)

-- an activity at a start: the test with it added
module _ (h : HeaderStruct) (s duration own warm : ℕ) (o : OwnDraw) (e : o ≡ own_draw h s duration own warm) where
  pub own_kept : (draw : ℕ → ℕ) → kept_by h (draw_with draw o) ≡ kept_at h draw duration own warm s
  unfolding kept_at
  own_kept draw = ap (λ (o : OwnDraw). kept_by h (draw_with draw o)) e

-- nothing more is drawn
pub draws_alone : (draw : ℕ → ℕ) (t : ℕ) → draw_more draw 0 t ≡ draw t
unfolding draw_more
draws_alone draw t = omega arith
