-- V (01, Nine conditions): "volumes of the placed and the candidate sum to at most the limit".
use Rattle.std.specs.Prelude.{ℕ, Bool, ◌∷◌, leb}
use Rattle.rules.specs.Plan.{Header, Activity, Schedule, at}
use Rattle.rules.specs.Tests.{total}

unfoldable pub total_volume : Schedule → ℕ
total_volume placed = total (λ e. e.activity.volume) placed

-- over a whole schedule
unfoldable pub volume_kept : Header → Schedule → Bool
volume_kept h placed = leb (total_volume placed) h.volume

unfoldable pub meets_v : Header → Schedule → Activity → ℕ → Bool
meets_v h placed a s = volume_kept h (at a s ∷ placed)
