-- D (01, Nine conditions): "each activity in `after` is placed and its end is at most s".
use Rattle.std.specs.Prelude.{ℕ, Bool, ◌&&◌, leb, eqb}
use Rattle.rules.specs.Plan.{Header, Activity, Schedule, end}
use Rattle.rules.specs.Tests.{every, any_of}

-- the activity of this id is placed and ends by s
unfoldable pub ended_by : Schedule → ℕ → ℕ → Bool
ended_by placed s id = any_of (λ e. eqb e.activity.id id && leb (end e) s) placed

unfoldable pub meets_d : Header → Schedule → Activity → ℕ → Bool
meets_d h placed a s = every (ended_by placed s) a.after
