-- E and P (01, Nine conditions): "in each tick the engines (E) or peaks (P) of those holding it, candidate included, sum to at most the limit".
use Rattle.std.specs.Prelude.{ℕ, Bool, cond, leb}
use Rattle.rules.specs.Plan.{Header, Activity, Schedule}
use Rattle.rules.specs.Tests.{each, total}
use Rattle.rules.specs.Hold.{holds}

-- the sum of a quantity over those holding tick t
unfoldable pub load : (Activity → ℕ) → Schedule → ℕ → ℕ
load quantity placed t = total (λ e. cond (holds t e) (quantity e.activity) 0) placed

-- the sum is at most the limit in each tick of the plan
unfoldable pub load_kept : (Activity → ℕ) → ℕ → Header → Schedule → Bool
load_kept quantity limit h placed = each (λ t. leb (load quantity placed t) limit) h.horizon
