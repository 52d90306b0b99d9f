-- U (01, Nine conditions): "no placed activity that shares a unit holds a tick that the candidate holds".
use Rattle.std.specs.Prelude.{ℕ, Bool, true, ◌&&◌, not, [], ◌∷◌, eqb}
use Rattle.rules.specs.Plan.{Header, Activity, Entry, Schedule, at}
use Rattle.rules.specs.Tests.{ever, any_of, every}
use Rattle.rules.specs.Hold.{holds}

-- d and e have a unit in common
unfoldable pub share : Entry → Entry → Bool
share d e = any_of (λ u. any_of (eqb u) e.activity.units) d.activity.units

-- d and e share a unit and hold one tick
unfoldable pub clash : Header → Entry → Entry → Bool
clash h d e = share d e && ever (λ t. holds t d && holds t e) h.horizon

unfoldable pub meets_u : Header → Schedule → Activity → ℕ → Bool
meets_u h placed a s = every (λ e. not (clash h (at a s) e)) placed

-- over a whole schedule: "no two of them that share a unit hold one tick" (01, Placing and refusing)
unfoldable pub units_kept : Header → Schedule → Bool
units_kept h [] = true
units_kept h (e ∷ placed) = meets_u h placed e.activity e.start && units_kept h placed
