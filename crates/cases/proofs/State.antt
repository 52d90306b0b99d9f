-- S: needs and sets (01, Nine conditions).
-- Assumes nothing.
use mathlib.Core.Path.{◌≡◌, refl}
use mathlib.Core.Bool.{Bool, true}
use mathlib.Core.List.{List, [], ◌∷◌}
use Rattle.rules.specs.Open.{opened}
use Rattle.cases.proofs.Rows.{all, rows_opened, prints, starts}

unfoldable pub state_examples : List Bool
state_examples =
    -- a need met only by the value at tick 0
    prints "plan 3 0 1 0 0 0 0 0 0 0 0\nact 1 0 1 1 - - - 2=0 - 0 0 0 0 0\nact 2 0 1 1 - - - 2=1 - 0 0 0 0 0\n" "1 placed 1 2\n2 refused S\nend 1 1 0 0 0 0\n"
    -- a set that spoils a placed need: activity 2 must end after activity 1 holds its last tick
    ∷ prints "plan 10 0 1 0 0 0 0 0 0 0 0\nact 1 1 2 5 - - - 1=0 - 0 0 0 0 0\nact 2 2 2 0 - - - - 1=3 0 0 0 0 0\n" "1 placed 5 7\n2 placed 5 7\nend 2 0 0 0 0 0\n"
    -- equal effect ticks: the set of the later place stands
    ∷ prints "plan 6 0 1 0 0 0 0 0 0 0 0\nact 1 1 2 0 2:2:2 - - - 1=3 0 0 0 0 0\nact 2 2 1 0 3:3:3 - - - 1=5 0 0 0 0 0\nact 3 3 1 0 - - - 1=5 - 0 0 0 0 0\nact 4 4 1 0 - - - 1=3 - 0 0 0 0 0\n" "1 placed 2 4\n2 placed 3 4\n3 placed 4 5\n4 refused S\nend 3 1 0 0 0 0\n"
    -- the later effect tick stands, whichever place set it
    ∷ prints "plan 6 0 1 0 0 0 0 0 0 0 0\nact 1 1 1 0 3:3:3 - - - 1=3 0 0 0 0 0\nact 2 2 1 0 1:1:1 - - - 1=5 0 0 0 0 0\nact 3 3 1 5 - - - 1=5 - 0 0 0 0 0\n" "1 placed 3 4\n2 placed 1 2\n3 placed 3 4\nend 3 0 0 0 0 0\n"
    -- an activity's own set is not in effect while it holds
    ∷ prints "plan 3 0 1 0 0 0 0 0 0 0 0\nact 1 0 1 0 - - - 1=2 1=2 0 0 0 0 0\n" "1 refused S\nend 0 1 0 0 0 0\n"
    -- a set of another variable, a smaller and a greater one
    ∷ prints "plan 4 0 1 0 0 0 0 0 0 0 0\nact 1 0 1 0 - - - - 1=3 0 0 0 0 0\nact 2 1 1 2 - - - 2=0 - 0 0 0 0 0\n" "1 placed 0 1\n2 placed 2 3\nend 2 0 0 0 0 0\n"
    ∷ prints "plan 4 0 1 0 0 0 0 0 0 0 0\nact 1 0 1 0 - - - - 2=3 0 0 0 0 0\nact 2 1 1 2 - - - 1=0 - 0 0 0 0 0\n" "1 placed 0 1\n2 placed 2 3\nend 2 0 0 0 0 0\n"
    -- a second set, and a second need: met with the first, unmet beside it, met without it
    ∷ prints "plan 4 0 1 0 0 0 0 0 0 0 0\nact 1 0 1 0 - - - - 1=3,2=5 0 0 0 0 0\nact 2 1 1 0 - - - 1=3,2=5 - 0 0 0 0 0\nact 3 2 1 0 - - - 1=3,2=4 - 0 0 0 0 0\nact 4 3 1 0 - - - 1=4,2=5 - 0 0 0 0 0\n" "1 placed 0 1\n2 placed 1 2\n3 refused S\n4 refused S\nend 2 2 0 0 0 0\n"
    -- the first set beside a second one
    ∷ starts "plan 4 0 1 0 0 0 0 0 0 0 0\nact 1 0 1 0 - - - - 1=3,2=5 0 0 0 0 0\nact 2 1 1 0 - - - 1=3 - 0 0 0 0 0\n" 1 8 (1 ∷ 3 ∷ [])
    -- an own need unmet only in the first tick: at start 3
    ∷ starts "plan 9 0 1 0 0 0 0 0 0 0 0\nact 1 0 2 2 - - - - 1=5 0 0 0 0 0\nact 2 1 3 0 - - - 1=5 - 0 0 0 0 0\n" 1 8 (4 ∷ 6 ∷ [])
    -- only in the last tick, at start 2; only in the one between, at 3; only in the first, at 4
    ∷ starts "plan 9 0 1 0 0 0 0 0 0 0 0\nact 1 0 1 3 - - - - 1=5 0 0 0 0 0\nact 2 1 1 4 - - - - 1=0 0 0 0 0 0\nact 3 2 3 0 - - - 1=0 - 0 0 0 0 0\n" 2 8 (0 ∷ 1 ∷ 5 ∷ 6 ∷ [])
    -- S alone fails: every start meets the others, and all nine are met where S is
    ∷ starts "plan 9 0 1 0 0 0 0 0 0 0 0\nact 1 0 1 3 - - - - 1=5 0 0 0 0 0\nact 2 1 1 4 - - - - 1=0 0 0 0 0 0\nact 3 2 3 0 - - - 1=0 - 0 0 0 0 0\n" 2 503 (0 ∷ 6 ∷ [])
    ∷ starts "plan 9 0 1 0 0 0 0 0 0 0 0\nact 1 0 1 3 - - - - 1=5 0 0 0 0 0\nact 2 1 1 4 - - - - 1=0 0 0 0 0 0\nact 3 2 3 0 - - - 1=0 - 0 0 0 0 0\n" 2 511 (0 ∷ 1 ∷ 5 ∷ 6 ∷ [])
    -- a set that spoils a placed one's second need in its last tick: at start 5
    ∷ starts "plan 9 0 1 0 0 0 0 0 0 0 0\nact 1 0 2 5 - - - 1=0,2=0 - 0 0 0 0 0\nact 2 1 1 0 - - - - 2=3 0 0 0 0 0\n" 1 8 (6 ∷ 8 ∷ [])
    -- the effect tick is the end, not the start, of the later place and of the earlier
    ∷ starts "plan 8 0 1 0 0 0 0 0 0 0 0\nact 1 0 1 2 - - - - 1=3 0 0 0 0 0\nact 2 1 2 2 - - - - 1=5 0 0 0 0 0\nact 3 2 1 0 - - - 1=5 - 0 0 0 0 0\n" 2 8 (4 ∷ 7 ∷ [])
    ∷ starts "plan 8 0 1 0 0 0 0 0 0 0 0\nact 1 0 2 2 - - - - 1=3 0 0 0 0 0\nact 2 1 1 2 - - - - 1=5 0 0 0 0 0\nact 3 2 1 0 - - - 1=3 - 0 0 0 0 0\n" 2 8 (4 ∷ 7 ∷ [])
    -- a set stands over one that took effect before it, whatever the values
    ∷ starts "plan 6 0 1 0 0 0 0 0 0 0 0\nact 1 0 1 0 - - - - 1=9 0 0 0 0 0\nact 2 1 1 2 - - - - 1=5 0 0 0 0 0\nact 3 2 1 0 - - - 1=5 - 0 0 0 0 0\n" 2 8 (3 ∷ 5 ∷ [])
    -- a value that is less than the one needed, and one that is more
    ∷ starts "plan 4 0 1 0 0 0 0 0 0 0 0\nact 1 0 1 0 - - - - 1=3 0 0 0 0 0\nact 2 1 1 0 - - - 1=4 - 0 0 0 0 0\n" 1 8 []
    ∷ starts "plan 4 0 1 0 0 0 0 0 0 0 0\nact 1 0 1 0 - - - - 1=3 0 0 0 0 0\nact 2 1 1 0 - - - 1=2 - 0 0 0 0 0\n" 1 8 []
    ∷ []

states : all state_examples ≡ true
unfolding opened rows_opened state_examples
states = refl
