-- W (01, Nine conditions): "s is in a window, both bounds included; an empty list allows every s".
use Rattle.std.specs.Prelude.{ℕ, Bool, true, ◌&&◌, List, [], ◌∷◌, leb}
use Rattle.rules.specs.Plan.{Header, Window, Activity, Schedule}
use Rattle.rules.specs.Tests.{any_of}

unfoldable pub inside : ℕ → Window → Bool
inside s w = leb w.from s && leb s w.to

unfoldable pub allowed : List Window → ℕ → Bool
allowed [] s = true
allowed (w ∷ ws) s = any_of (inside s) (w ∷ ws)

unfoldable pub meets_w : Header → Schedule → Activity → ℕ → Bool
meets_w h placed a s = allowed a.windows s
