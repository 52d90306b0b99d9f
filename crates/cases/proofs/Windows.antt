-- W, and which start is the nearest: by the preferred tick of its window, or of the line where there are no windows (01, Nine conditions and Placing and refusing; 02, [2]).
-- Assumes nothing.
use Prim.Native.Nat.{ℕ}
use mathlib.Core.Path.{◌≡◌, refl}
use mathlib.Core.Bool.{Bool, true}
use mathlib.Core.List.{List, [], ◌∷◌}
use lib.Dec.{eqb}
use Rattle.rules.specs.Open.{opened}
use Rattle.rules.specs.Plan.{Window}
use Rattle.rules.specs.Outcomes.{distance}
use Rattle.cases.proofs.Rows.{all, rows_opened, prints, starts}

-- `a:p:b`
unfoldable pub window : ℕ → ℕ → ℕ → Window
window a p b = record { from = a; preferred = p; to = b }

-- of an activity with this preferred field and these windows, the start s has the distance d
unfoldable pub away : ℕ → List Window → ℕ → ℕ → Bool
away field windows s d = eqb (distance (record { id = 0; priority = 0; duration = 1; preferred = field; windows = windows; after = []; units = []; needs = []; sets = []; engines = 0; peak = 0; draw = 0; volume = 0; warm = 0 }) s) d

unfoldable pub window_examples : List Bool
window_examples =
    -- 2:5:8 at its bounds, at its preferred tick and on both sides of it, whatever the preferred field, 9 or 0
    away 9 (window 2 5 8 ∷ []) 2 3
    ∷ away 9 (window 2 5 8 ∷ []) 4 1
    ∷ away 9 (window 2 5 8 ∷ []) 5 0
    ∷ away 9 (window 2 5 8 ∷ []) 6 1
    ∷ away 9 (window 2 5 8 ∷ []) 8 3
    ∷ away 0 (window 2 5 8 ∷ []) 2 3
    ∷ away 0 (window 2 5 8 ∷ []) 8 3
    -- the preferred tick at a bound
    ∷ away 9 (window 2 2 8 ∷ []) 2 0
    ∷ away 9 (window 2 2 8 ∷ []) 8 6
    ∷ away 9 (window 2 8 8 ∷ []) 2 6
    ∷ away 9 (window 2 8 8 ∷ []) 8 0
    -- of three windows that of the start, at the first, the last and those between
    ∷ away 20 (window 0 3 4 ∷ window 6 6 8 ∷ window 9 14 14 ∷ []) 0 3
    ∷ away 20 (window 0 3 4 ∷ window 6 6 8 ∷ window 9 14 14 ∷ []) 4 1
    ∷ away 20 (window 0 3 4 ∷ window 6 6 8 ∷ window 9 14 14 ∷ []) 6 0
    ∷ away 20 (window 0 3 4 ∷ window 6 6 8 ∷ window 9 14 14 ∷ []) 7 1
    ∷ away 20 (window 0 3 4 ∷ window 6 6 8 ∷ window 9 14 14 ∷ []) 8 2
    ∷ away 20 (window 0 3 4 ∷ window 6 6 8 ∷ window 9 14 14 ∷ []) 9 5
    ∷ away 20 (window 0 3 4 ∷ window 6 6 8 ∷ window 9 14 14 ∷ []) 14 0
    -- a start in no window has the distance from the preferred field, before, between and behind them; it is never valid
    ∷ away 5 (window 2 3 4 ∷ window 6 6 8 ∷ []) 1 4
    ∷ away 5 (window 2 3 4 ∷ window 6 6 8 ∷ []) 5 0
    ∷ away 5 (window 2 3 4 ∷ window 6 6 8 ∷ []) 9 4
    -- without windows every start has it
    ∷ away 5 [] 0 5
    ∷ away 5 [] 5 0
    ∷ away 5 [] 9 4
    ∷ away 4095 [] 0 4095
    -- one window, all of whose starts are valid: its preferred tick, in the middle and at a bound, where the preferred field is another start of it or outside it
    ∷ prints "plan 12 0 1 0 0 0 0 0 0 0 0\nact 1 0 1 7 2:5:8 - - - - 0 0 0 0 0\n" "1 placed 5 6\nend 1 0 0 0 0 0\n"
    ∷ prints "plan 12 0 1 0 0 0 0 0 0 0 0\nact 1 0 1 0 2:5:8 - - - - 0 0 0 0 0\n" "1 placed 5 6\nend 1 0 0 0 0 0\n"
    ∷ prints "plan 12 0 1 0 0 0 0 0 0 0 0\nact 1 0 1 11 2:5:8 - - - - 0 0 0 0 0\n" "1 placed 5 6\nend 1 0 0 0 0 0\n"
    ∷ prints "plan 12 0 1 0 0 0 0 0 0 0 0\nact 1 0 1 5 2:2:8 - - - - 0 0 0 0 0\n" "1 placed 2 3\nend 1 0 0 0 0 0\n"
    ∷ prints "plan 12 0 1 0 0 0 0 0 0 0 0\nact 1 0 1 5 2:8:8 - - - - 0 0 0 0 0\n" "1 placed 8 9\nend 1 0 0 0 0 0\n"
    -- its preferred tick beyond the last start, 9, and beyond the plan; a window beyond the last start
    ∷ prints "plan 12 0 1 0 0 0 0 0 0 0 0\nact 1 0 3 2 2:11:11 - - - - 0 0 0 0 0\n" "1 placed 9 12\nend 1 0 0 0 0 0\n"
    ∷ prints "plan 12 0 1 0 0 0 0 0 0 0 0\nact 1 0 3 2 2:4095:4095 - - - - 0 0 0 0 0\n" "1 placed 9 12\nend 1 0 0 0 0 0\n"
    ∷ prints "plan 12 0 1 0 0 0 0 0 0 0 0\nact 1 0 3 2 10:10:11 - - - - 0 0 0 0 0\n" "1 refused W\nend 0 1 0 0 0 0\n"
    -- its preferred tick taken: of 4 and 6 the earlier, where 0 or 8 is the preferred field; 4 taken, too: 6
    ∷ prints "plan 12 0 1 0 0 0 0 0 0 0 0\nact 1 0 1 5 - - 0 - - 0 0 0 0 0\nact 2 1 1 0 2:5:8 - 0 - - 0 0 0 0 0\n" "1 placed 5 6\n2 placed 4 5\nend 2 0 0 0 0 0\n"
    ∷ prints "plan 12 0 1 0 0 0 0 0 0 0 0\nact 1 0 1 5 - - 0 - - 0 0 0 0 0\nact 2 1 1 8 2:5:8 - 0 - - 0 0 0 0 0\n" "1 placed 5 6\n2 placed 4 5\nend 2 0 0 0 0 0\n"
    ∷ prints "plan 12 0 1 0 0 0 0 0 0 0 0\nact 1 0 2 4 - - 0 - - 0 0 0 0 0\nact 2 1 1 0 2:5:8 - 0 - - 0 0 0 0 0\n" "1 placed 4 6\n2 placed 6 7\nend 2 0 0 0 0 0\n"
    -- two windows, their preferred ticks at the far ends, 0 and 9. Taken are 0, 1, 2 and 9: 3 is 3 away, and 8 in the later window 1; the preferred field has 4
    ∷ prints "plan 12 0 1 0 0 0 0 0 0 0 0\nact 1 0 3 0 - - 0 - - 0 0 0 0 0\nact 2 0 1 9 - - 0 - - 0 0 0 0 0\nact 3 1 1 4 0:0:3,6:9:9 - 0 - - 0 0 0 0 0\n" "1 placed 0 3\n2 placed 9 10\n3 placed 8 9\nend 3 0 0 0 0 0\n"
    -- taken are 0, 1, 8 and 9: 2 and 7 are both 2 away, the earlier start; the preferred field has 7, which no longer counts
    ∷ prints "plan 12 0 1 0 0 0 0 0 0 0 0\nact 1 0 2 0 - - 0 - - 0 0 0 0 0\nact 2 0 2 8 - - 0 - - 0 0 0 0 0\nact 3 1 1 7 0:0:3,6:9:9 - 0 - - 0 0 0 0 0\n" "1 placed 0 2\n2 placed 8 10\n3 placed 2 3\nend 3 0 0 0 0 0\n"
    -- taken are 0, 7, 8 and 9: 1 is 1 away, and 6 is 3; the preferred field has 6
    ∷ prints "plan 12 0 1 0 0 0 0 0 0 0 0\nact 1 0 1 0 - - 0 - - 0 0 0 0 0\nact 2 0 3 7 - - 0 - - 0 0 0 0 0\nact 3 1 1 6 0:0:3,6:9:9 - 0 - - 0 0 0 0 0\n" "1 placed 0 1\n2 placed 7 10\n3 placed 1 2\nend 3 0 0 0 0 0\n"
    -- nothing taken: both preferred ticks are valid, so the earlier; the preferred field is the later one
    ∷ prints "plan 12 0 1 0 0 0 0 0 0 0 0\nact 1 0 1 9 0:0:3,6:9:9 - - - - 0 0 0 0 0\n" "1 placed 0 1\nend 1 0 0 0 0 0\n"
    -- 0 taken: 9 in the later window; the preferred field has 1
    ∷ prints "plan 12 0 1 0 0 0 0 0 0 0 0\nact 1 0 1 0 - - 0 - - 0 0 0 0 0\nact 2 1 1 1 0:0:3,6:9:9 - 0 - - 0 0 0 0 0\n" "1 placed 0 1\n2 placed 9 10\nend 2 0 0 0 0 0\n"
    -- windows that touch, preferred 0 and 9. Taken are 0, 1, 2, 7, 8 and 9: 3 and 6 are 3 away from their own, so 3. With preferred 3 and 9, and 1, 2, 3, 7, 8 and 9 taken, 4 is 1 away from the preferred tick of the window before and 5 from its own: 0, which is 3 away, as 6 is
    ∷ prints "plan 12 0 1 0 0 0 0 0 0 0 0\nact 1 0 3 0 - - 0 - - 0 0 0 0 0\nact 2 0 3 7 - - 0 - - 0 0 0 0 0\nact 3 1 1 6 0:0:3,4:9:9 - 0 - - 0 0 0 0 0\n" "1 placed 0 3\n2 placed 7 10\n3 placed 3 4\nend 3 0 0 0 0 0\n"
    ∷ prints "plan 12 0 1 0 0 0 0 0 0 0 0\nact 1 0 3 1 - - 0 - - 0 0 0 0 0\nact 2 0 3 7 - - 0 - - 0 0 0 0 0\nact 3 1 1 4 0:3:3,4:9:9 - 0 - - 0 0 0 0 0\n" "1 placed 1 4\n2 placed 7 10\n3 placed 0 1\nend 3 0 0 0 0 0\n"
    -- four windows, by the preferred tick of the last
    ∷ prints "plan 12 0 1 0 0 0 0 0 0 0 0\nact 1 0 8 0 - - 0 - - 0 0 0 0 0\nact 2 1 1 0 0:0:0,2:2:3,5:5:6,7:10:11 - 0 - - 0 0 0 0 0\n" "1 placed 0 8\n2 placed 10 11\nend 2 0 0 0 0 0\n"
    -- without windows the preferred field counts, also beside another activity of the plan that has one; taken, of two equally near the earlier; beyond the last start and the plan
    ∷ prints "plan 12 0 1 0 0 0 0 0 0 0 0\nact 1 0 1 7 2:5:8 - - - - 0 0 0 0 0\nact 2 0 1 7 - - - - - 0 0 0 0 0\n" "1 placed 5 6\n2 placed 7 8\nend 2 0 0 0 0 0\n"
    ∷ prints "plan 12 0 1 0 0 0 0 0 0 0 0\nact 1 0 1 7 - - 0 - - 0 0 0 0 0\nact 2 1 1 7 - - 0 - - 0 0 0 0 0\n" "1 placed 7 8\n2 placed 6 7\nend 2 0 0 0 0 0\n"
    ∷ prints "plan 9 0 1 0 0 0 0 0 0 0 0\nact 1 0 2 4095 - - - - - 0 0 0 0 0\n" "1 placed 7 9\nend 1 0 0 0 0 0\n"
    -- W allows both bounds and what is between, whatever the preferred tick
    ∷ starts "plan 12 0 1 0 0 0 0 0 0 0 0\nact 1 0 1 0 2:5:8 - - - - 0 0 0 0 0\n" 0 1 (2 ∷ 8 ∷ [])
    ∷ starts "plan 12 0 1 0 0 0 0 0 0 0 0\nact 1 0 1 0 2:2:2,8:8:8 - - - - 0 0 0 0 0\n" 0 1 (2 ∷ 2 ∷ 8 ∷ 8 ∷ [])
    ∷ starts "plan 12 0 1 0 0 0 0 0 0 0 0\nact 1 0 1 0 - - - - - 0 0 0 0 0\n" 0 1 (0 ∷ 11 ∷ [])
    ∷ []

windows : all window_examples ≡ true
unfolding opened rows_opened window away window_examples
windows = refl
