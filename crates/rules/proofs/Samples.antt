-- The least case of the clause that no theorem here guards and a must-fail edit changes; crate `cases` has the tables.
-- Assumes nothing.
use mathlib.Core.Path.{◌≡◌, refl}
use mathlib.Core.Bool.{true}
use mathlib.Core.List.{[], ◌∷◌}
use Rattle.rules.specs.Open.{opened}
use Rattle.rules.specs.Plan.{at}
use Rattle.rules.specs.MeetsD.{ended_by}
use Rattle.rules.specs.Outcomes.{no_activity}

-- an end at 2 is at most 2
ended_at_once : ended_by (at no_activity 2 ∷ []) 2 0 ≡ true
unfolding opened
ended_at_once = refl
