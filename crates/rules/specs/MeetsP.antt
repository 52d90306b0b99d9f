-- P (01, Nine conditions): the peaks of those holding a tick sum to at most the limit.
use Rattle.std.specs.Prelude.{ℕ, Bool, ◌∷◌}
use Rattle.rules.specs.Plan.{Header, Activity, Schedule, at}
use Rattle.rules.specs.Load.{load_kept}

-- over a whole schedule
unfoldable pub peaks_kept : Header → Schedule → Bool
peaks_kept h placed = load_kept (λ a. a.peak) h.peak h placed

unfoldable pub meets_p : Header → Schedule → Activity → ℕ → Bool
meets_p h placed a s = peaks_kept h (at a s ∷ placed)
