-- That a plan is placeable is a proposition, so that it can stand in a struct.
use Rattle.std.specs.Prelude.{ℕ, suc}
use mathlib.Core.HLevel.{Unit-prop}
use mathlib.Core.List.{List, [], ◌∷◌}
use Rattle.rules.specs.WellFormed.{Rises}
use Rattle.rules.specs.Plan.{Plan}
use Rattle.plan.specs.Placeable.{Placeable}
use Rattle.std.proofs.Props.{props}

rises_prop : {A : Type 0} (low high : A → ℕ) (least : ℕ) (xs : List A) → IsProp (Rises low high least xs)
rises_prop low high least [] = Unit-prop
rises_prop low high least (x ∷ xs) = hlevel (rises_prop low high (suc (high x)) xs, props)

pub placeable_prop : (p : Plan) → IsProp (Placeable p)
placeable_prop p = hlevel (props, rises_prop)
