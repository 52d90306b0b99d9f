-- E (01, Nine conditions): the engines of those holding a tick sum to at most the limit.
use Rattle.std.specs.Prelude.{ℕ, Bool, ◌∷◌}
use Rattle.rules.specs.Plan.{Header, Activity, Schedule, at}
use Rattle.rules.specs.Load.{load_kept}

-- over a whole schedule
unfoldable pub engines_kept : Header → Schedule → Bool
engines_kept h placed = load_kept (λ a. a.engines) h.engines h placed

unfoldable pub meets_e : Header → Schedule → Activity → ℕ → Bool
meets_e h placed a s = engines_kept h (at a s ∷ placed)
