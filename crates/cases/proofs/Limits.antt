-- D, U, E, P and V, and the scheduling order (01, Nine conditions and The plan file); `Windows` has W.
-- Assumes nothing.
use Prim.Native.Nat.{ℕ}
use mathlib.Core.Path.{◌≡◌, refl}
use mathlib.Core.Bool.{Bool, true, not}
use mathlib.Core.List.{List, [], ◌∷◌}
use Rattle.rules.specs.Open.{opened}
use Rattle.rules.specs.Plan.{Entry}
use Rattle.rules.specs.MeetsU.{units_kept}
use Rattle.cases.proofs.Rows.{all, header, rows_opened, prints, starts}

-- an activity of unit 0 at this start, with this duration
unfoldable pub held : ℕ → ℕ → Entry
held start duration = record { activity = record { id = 0; priority = 0; duration = duration; preferred = 0; windows = []; after = []; units = 0 ∷ []; needs = []; sets = []; engines = 0; peak = 0; draw = 0; volume = 0; warm = 0 }; start = start }

unfoldable pub limit_examples : List Bool
limit_examples =
    -- after an end exactly met, and after a refused predecessor
    prints "plan 6 0 1 0 0 0 0 0 0 0 0\nact 1 0 2 1 - - - - - 0 0 0 0 0\nact 2 1 1 0 - 1 - - - 0 0 0 0 0\nact 3 2 1 0 9:9:9 - - - - 0 0 0 0 0\nact 4 3 1 0 - 1,3 - - - 0 0 0 0 0\n" "1 placed 1 3\n2 placed 3 4\n3 refused W\n4 refused D\nend 2 2 0 0 0 0\n"
    -- engines at the limit, and over it
    ∷ prints "plan 2 0 1 0 0 0 0 3 0 0 0\nact 1 0 2 0 - - - - - 2 0 0 0 0\nact 2 1 2 0 - - - - - 1 0 0 0 0\nact 3 2 1 0 - - - - - 1 0 0 0 0\n" "1 placed 0 2\n2 placed 0 2\n3 refused E\nend 2 1 0 0 0 0\n"
    -- peaks at the limit, and over it
    ∷ prints "plan 2 0 1 0 0 0 0 0 3 0 0\nact 1 0 2 0 - - - - - 0 2 0 0 0\nact 2 1 2 0 - - - - - 0 1 0 0 0\nact 3 2 1 0 - - - - - 0 1 0 0 0\n" "1 placed 0 2\n2 placed 0 2\n3 refused P\nend 2 1 0 0 0 0\n"
    -- volume at the limit, and over it
    ∷ prints "plan 2 0 1 0 0 0 0 0 0 3 0\nact 1 0 1 0 - - - - - 0 0 0 2 0\nact 2 1 1 0 - - - - - 0 0 0 1 0\nact 3 2 1 0 - - - - - 0 0 0 1 0\n" "1 placed 0 1\n2 placed 0 1\n3 refused V\nend 2 1 0 3 0 0\n"
    -- a shared unit: one after the other, then no room
    ∷ prints "plan 3 0 1 0 0 0 0 0 0 0 0\nact 1 0 2 0 - - 3,7 - - 0 0 0 0 0\nact 2 1 1 0 - - 7 - - 0 0 0 0 0\nact 3 2 1 0 - - 3 - - 0 0 0 0 0\nact 4 3 1 0 - - 3,7 - - 0 0 0 0 0\n" "1 placed 0 2\n2 placed 2 3\n3 placed 2 3\n4 refused U\nend 3 1 0 0 0 0\n"
    -- the order is by priority, then by line
    ∷ prints "plan 2 0 1 0 0 0 0 0 0 0 0\nact 1 5 1 0 - - 0 - - 0 0 0 0 0\nact 2 4 1 0 - - 0 - - 0 0 0 0 0\nact 3 4 1 0 - - 0 - - 0 0 0 0 0\n" "2 placed 0 1\n3 placed 1 2\n1 refused U\nend 2 1 0 0 0 0\n"
    -- a predecessor that is not the last named bars starts, and one that is not the first
    ∷ starts "plan 8 0 1 0 0 0 0 0 0 0 0\nact 1 0 2 3 - - - - - 0 0 0 0 0\nact 2 0 1 0 - - - - - 0 0 0 0 0\nact 3 1 1 0 - 1,2 - - - 0 0 0 0 0\n" 2 2 (5 ∷ 7 ∷ [])
    ∷ starts "plan 8 0 1 0 0 0 0 0 0 0 0\nact 1 0 1 0 - - - - - 0 0 0 0 0\nact 2 0 2 3 - - - - - 0 0 0 0 0\nact 3 1 1 0 - 1,2 - - - 0 0 0 0 0\n" 2 2 (5 ∷ 7 ∷ [])
    -- a refused one named first
    ∷ starts "plan 4 0 1 0 0 0 0 0 0 0 0\nact 1 0 1 0 9:9:9 - - - - 0 0 0 0 0\nact 2 0 1 0 - - - - - 0 0 0 0 0\nact 3 1 1 0 - 1,2 - - - 0 0 0 0 0\n" 2 2 []
    -- a shared unit that is the last of both; of three that is in the middle; units of which none is shared
    ∷ starts "plan 4 0 1 0 0 0 0 0 0 0 0\nact 1 0 1 1 - - 3,7 - - 0 0 0 0 0\nact 2 1 1 0 - - 5,7 - - 0 0 0 0 0\n" 1 4 (0 ∷ 0 ∷ 2 ∷ 3 ∷ [])
    ∷ starts "plan 4 0 1 0 0 0 0 0 0 0 0\nact 1 0 1 1 - - 3,7,9 - - 0 0 0 0 0\nact 2 1 1 0 - - 5,7,8 - - 0 0 0 0 0\n" 1 4 (0 ∷ 0 ∷ 2 ∷ 3 ∷ [])
    ∷ starts "plan 4 0 1 0 0 0 0 0 0 0 0\nact 1 0 1 1 - - 3,7 - - 0 0 0 0 0\nact 2 1 1 0 - - 2,5,9 - - 0 0 0 0 0\n" 1 4 (0 ∷ 3 ∷ [])
    -- a placed activity that is not the latest shares it; an activity without units shares none
    ∷ starts "plan 4 0 1 0 0 0 0 0 0 0 0\nact 1 0 1 1 - - 3 - - 0 0 0 0 0\nact 2 0 1 3 - - 4 - - 0 0 0 0 0\nact 3 1 1 0 - - 3 - - 0 0 0 0 0\n" 2 4 (0 ∷ 0 ∷ 2 ∷ 3 ∷ [])
    ∷ starts "plan 4 0 1 0 0 0 0 0 0 0 0\nact 1 0 1 1 - - - - - 0 0 0 0 0\nact 2 1 1 0 - - 0 - - 0 0 0 0 0\n" 1 4 (0 ∷ 3 ∷ [])
    -- engines over the limit only in the candidate's last tick, at start 2, only in the one between, at 3, only in its first, at 4
    ∷ starts "plan 9 0 1 0 0 0 0 3 0 0 0\nact 1 0 1 4 - - - - - 2 0 0 0 0\nact 2 1 3 0 - - - - - 2 0 0 0 0\n" 1 16 (0 ∷ 1 ∷ 5 ∷ 6 ∷ [])
    -- beside a placed one of three ticks: only after the candidate's first tick, at start 3
    ∷ starts "plan 9 0 1 0 0 0 0 3 0 0 0\nact 1 0 3 4 - - - - - 2 0 0 0 0\nact 2 1 2 0 - - - - - 2 0 0 0 0\n" 1 16 (0 ∷ 2 ∷ 7 ∷ 7 ∷ [])
    -- peaks the same
    ∷ starts "plan 9 0 1 0 0 0 0 0 3 0 0\nact 1 0 1 4 - - - - - 0 2 0 0 0\nact 2 1 3 0 - - - - - 0 2 0 0 0\n" 1 32 (0 ∷ 1 ∷ 5 ∷ 6 ∷ [])
    ∷ starts "plan 9 0 1 0 0 0 0 0 3 0 0\nact 1 0 3 4 - - - - - 0 2 0 0 0\nact 2 1 2 0 - - - - - 0 2 0 0 0\n" 1 32 (0 ∷ 2 ∷ 7 ∷ 7 ∷ [])
    -- the sum is over the placed and the candidate, those that hold the tick alone
    ∷ prints "plan 4 0 1 0 0 0 0 3 3 0 0\nact 1 0 2 0 - - - - - 1 2 0 0 0\nact 2 1 2 0 - - - - - 1 1 0 0 0\nact 3 2 2 0 - - - - - 1 0 0 0 0\nact 4 3 2 0 - - - - - 1 1 0 0 0\n" "1 placed 0 2\n2 placed 0 2\n3 placed 0 2\n4 placed 2 4\nend 4 0 0 0 0 0\n"
    -- three priorities, the lowest on the last line
    ∷ prints "plan 3 0 1 0 0 0 0 0 0 0 0\nact 1 2 1 0 - - 0 - - 0 0 0 0 0\nact 2 1 1 0 - - 0 - - 0 0 0 0 0\nact 3 0 1 0 - - 0 - - 0 0 0 0 0\n" "3 placed 0 1\n2 placed 1 2\n1 placed 2 3\nend 3 0 0 0 0 0\n"
    -- a schedule of two that share a unit breaks U where they hold one tick, and not one after the other
    ∷ not (units_kept (header 9) (held 3 2 ∷ held 4 2 ∷ []))
    ∷ not (units_kept (header 9) (held 8 1 ∷ held 3 2 ∷ held 4 2 ∷ []))
    ∷ units_kept (header 9) (held 3 2 ∷ held 5 2 ∷ [])
    ∷ []

limits : all limit_examples ≡ true
unfolding opened rows_opened held limit_examples
limits = refl
