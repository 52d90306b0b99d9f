-- What the distance of a start is, in plain facts (01, Placing and refusing; 02, [2]).
use Rattle.std.specs.Prelude.{ℕ, ◌≤◌, ◌≡◌}
use mathlib.Core.List.{[], Memᴰ}
use Rattle.rules.specs.Plan.{Window, Activity}
use Rattle.rules.specs.Warmup.{apart}

-- d s is the distance of the start s of the activity a
pub record DistanceRight (a : Activity) (d : ℕ → ℕ) : Type 0 where
  -- "Distance is measured to the p of the window holding the start"
  pub window : (w : Window) (s : ℕ) → Memᴰ w a.windows → w.from ≤ s → s ≤ w.to → d s ≡ apart s w.preferred
  -- "The preferred field counts only when the window list is empty"; that it counts then only, `Determined.distance` says
  pub field : (s : ℕ) → a.windows ≡ [] → d s ≡ apart s a.preferred
