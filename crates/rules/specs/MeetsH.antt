-- H (01, Nine conditions): "w(s) ≤ s".
use Rattle.std.specs.Prelude.{ℕ, Bool, leb}
use Rattle.rules.specs.Plan.{Header, Activity, Schedule}
use Rattle.rules.specs.Warmup.{warmup}

unfoldable pub meets_h : Header → Schedule → Activity → ℕ → Bool
meets_h h placed a s = leb (warmup h a s) s
