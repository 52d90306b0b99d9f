-- B and H: capacity, floor, handover, heaters (01, Warm-up and Nine conditions).
-- Assumes nothing.
use mathlib.Core.Path.{◌≡◌, refl}
use mathlib.Core.Bool.{Bool, true}
use mathlib.Core.List.{List, [], ◌∷◌}
use Rattle.rules.specs.Open.{opened}
use Rattle.cases.proofs.Rows.{all, rows_opened, prints, starts}

unfoldable pub charge_examples : List Bool
charge_examples =
    -- capacity reached and energy lost: the battery is full from tick 1 on, so only 3 are left at the end
    prints "plan 4 0 10 0 8 5 0 0 0 0 0\nact 1 0 1 3 - - - - - 0 0 12 0 0\n" "1 placed 3 4\nend 1 0 3 0 3 4\n"
    -- charge below zero in a trial: −5 after start 0, though it recovers
    ∷ prints "plan 3 0 100 0 5 10 0 0 0 0 0\nact 1 0 1 0 - - - - - 0 0 20 0 0\n" "1 placed 1 2\nend 1 0 15 0 5 0\n"
    -- floor met exactly; one unit more is refused
    ∷ prints "plan 2 0 10 5 7 0 0 0 0 0 0\nact 1 0 2 0 - - - - - 0 0 1 0 0\n" "1 placed 0 2\nend 1 0 5 0 5 2\n"
    ∷ prints "plan 2 0 10 5 6 0 0 0 0 0 0\nact 1 0 2 0 - - - - - 0 0 1 0 0\n" "1 refused B\nend 0 1 6 0 6 0\n"
    -- handover met exactly; one unit more is refused
    ∷ prints "plan 2 0 10 0 7 0 5 0 0 0 0\nact 1 0 1 0 - - - - - 0 0 2 0 0\nact 2 0 1 0 - - - - - 0 0 1 0 0\n" "1 placed 0 1\n2 refused B\nend 1 1 5 0 5 1\n"
    -- charge is tested at every tick, not at the candidate's own alone: activity 2 would starve activity 1
    ∷ prints "plan 4 0 10 0 4 0 0 0 0 0 0\nact 1 0 1 3 - - - - - 0 0 3 0 0\nact 2 1 1 0 - - - - - 0 0 2 0 0\n" "1 placed 3 4\n2 refused B\nend 1 1 1 0 1 4\n"
    -- heaters add up: two of 4 ticks each, one tick apart
    ∷ prints "plan 8 840 20 0 10 0 0 0 0 0 1\nact 1 0 1 5 - - - - - 0 0 0 0 1\nact 2 0 1 6 - - - - - 0 0 0 0 1\n" "1 placed 5 6\n2 placed 6 7\nend 2 0 2 0 2 6\n"
    -- too early for its heater
    ∷ prints "plan 4 840 20 0 10 0 0 0 0 0 0\nact 1 0 1 0 - - - - - 0 0 0 0 1\n" "1 refused H\nend 0 1 10 0 10 0\n"
    -- the charge rises above the first charge, and the handover charge is reached by the rate alone
    ∷ prints "plan 4 0 10 0 2 1 6 0 0 0 0\n" "end 0 0 6 0 2 0\n"
    -- the stop at capacity at T itself
    ∷ prints "plan 1 0 10 0 8 5 0 0 0 0 0\n" "end 0 0 10 0 8 0\n"
    -- under the handover charge before T is enough
    ∷ prints "plan 4 0 10 0 7 1 6 0 0 0 0\nact 1 0 1 0 - - - - - 0 0 5 0 0\n" "1 placed 0 1\nend 1 0 6 0 3 1\n"
    -- rate, heater and draw in one plan: 5 + 6 × 2 − 4 × 1 − 3
    ∷ prints "plan 6 840 50 0 5 2 0 0 7 0 1\nact 1 0 1 4 - - - - - 0 7 3 0 1\n" "1 placed 4 5\nend 1 0 10 0 5 0\n"
    -- a draw over two ticks, each counted
    ∷ prints "plan 4 0 20 0 9 0 0 0 0 0 0\nact 1 0 2 1 - - - - - 0 0 3 0 0\n" "1 placed 1 3\nend 1 0 3 0 3 3\n"
    -- the floor met exactly inside the heater's ticks, by a draw in one of them: at start 3 and 4 it is missed by 1
    ∷ starts "plan 8 840 20 9 10 2 0 0 0 0 1\nact 1 0 1 2 - - - - - 0 0 5 0 0\nact 2 1 1 5 - - - - - 0 0 0 0 1\n" 1 64 (0 ∷ 2 ∷ 5 ∷ 7 ∷ [])
    -- with w at the start's own minute: at minute 899 w is 4, at 900 it is 5, and 4 is too early there
    ∷ starts "plan 8 896 1 0 0 0 0 0 0 0 0\nact 1 0 1 0 - - - - - 0 0 0 0 1\n" 0 256 (5 ∷ 7 ∷ [])
    -- w other than 4: five ticks of heater
    ∷ prints "plan 8 900 20 0 20 0 0 0 0 0 1\nact 1 0 1 0 - - - - - 0 0 0 0 1\n" "1 placed 5 6\nend 1 0 15 0 15 5\n"
    -- w of the start, at minute 899, and not of the end, at 900: four ticks
    ∷ prints "plan 8 894 20 0 20 0 0 0 0 0 1\nact 1 0 1 5 - - - - - 0 0 0 0 1\n" "1 placed 5 6\nend 1 0 16 0 16 5\n"
    -- not warm: no heater
    ∷ prints "plan 6 900 20 0 20 0 0 0 0 0 1\nact 1 0 1 5 - - - - - 0 0 0 0 0\n" "1 placed 5 6\nend 1 0 20 0 20 0\n"
    ∷ []

charges : all charge_examples ≡ true
unfolding opened rows_opened charge_examples
charges = refl
