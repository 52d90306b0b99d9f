-- Runs of starts (01, Calls: "the longest unbroken runs of starts meeting the set, rising").
use Rattle.std.specs.Prelude.{ℕ, zero, suc, Bool, cond, List, [], ◌∷◌, eqb}
use Rattle.rules.specs.declared.Interval.{Interval}

-- the start s put before later runs: it lengthens the first one if that begins at s + 1, else it is a run by itself
unfoldable pub with_start : ℕ → List Interval → List Interval
with_start s [] = record { first = s; last = s } ∷ []
with_start s (r ∷ rs) = cond (eqb r.first (suc s)) (record { first = s; last = r.last } ∷ rs) (record { first = s; last = s } ∷ r ∷ rs)

-- the runs of starts that pass, among the n starts from s on
unfoldable pub runs_from : (ℕ → Bool) → ℕ → ℕ → List Interval
runs_from pass s zero = []
runs_from pass s (suc n) = cond (pass s) (with_start s (runs_from pass (suc s) n)) (runs_from pass (suc s) n)
