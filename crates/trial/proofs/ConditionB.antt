-- Condition B over the tables is the definition's, where their rows say the schedule.
-- Assumes nothing.
use Prim.Native.Nat.{ℕ}
use mathlib.Core.Path.{◌≡◌, ap, ◌∙◌}
use mathlib.Core.List.{List, ◌∷◌}
use native.Mathlib.Omega.{arith}
use Rattle.rules.specs.Plan.{Activity, Schedule, at}
use Rattle.rules.specs.Tests.{total}
use Rattle.rules.specs.Warmup.{warmup}
use Rattle.rules.specs.MeetsB.{drawn, meets_b}
use Rattle.activity.specs.View.{header_view}
use Rattle.activity.specs.declared.Header.{Header as HeaderStruct}
use Rattle.placed.specs.declared.row.Row.{Row}
use Rattle.placed.specs.Tables.{draw_at}
use Rattle.placed.specs.Held.{TicksAt, AmountsAt, Rows}
use Rattle.charge.specs.Charge.{drawn_in, kept_by}
use Rattle.charge.proofs.Charged.{kept_is, entry_draws, drawn_is}
use Rattle.trial.specs.Trial.{own_draw, draw_with, kept_at}

-- with the candidate, whose amounts are in the row behind those placed
module _ (h : HeaderStruct) (rows : List Row) (n : ℕ) (placed : Schedule) (say : Rows (λ i e. TicksAt (header_view h) rows i e × AmountsAt rows i e.activity) n placed) where
  pub charge_meets : (a : Activity) → AmountsAt rows n a → (s : ℕ) → kept_at h (drawn_in h rows n) a.duration (draw_at rows n) a.warm s ≡ meets_b (header_view h) placed a s
  unfolding kept_at meets_b draw_with drawn total warmup header_view
  charge_meets a q s =
      ap (λ d. kept_by h (draw_with (drawn_in h rows n) (own_draw h s a.duration d a.warm))) q.draw
      ∙ kept_is h (draw_with (drawn_in h rows n) (own_draw h s a.duration a.draw a.warm)) (at a s ∷ placed) (λ t. omega (arith, drawn_is h rows n placed say t, entry_draws (header_view h) (at a s) t))
