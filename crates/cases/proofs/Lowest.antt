-- The charge projection: the last charge, the lowest, and the first tick that has it (01, Nine conditions and Calls; 02, [1]). The charges at ticks 0 to T stand above each row.
-- Assumes nothing.
use Prim.Native.Nat.{ℕ}
use mathlib.Core.Path.{◌≡◌, refl}
use mathlib.Core.Bool.{Bool, true, false, not, ◌&&◌}
use mathlib.Core.List.{List, [], ◌∷◌}
use lib.Dec.{eqb}
use lib.IntN.{ℤ, pos, negsuc, neg_ℤ}
use lib.ListN.{get_or}
use Rattle.rules.specs.Open.{opened}
use Rattle.rules.specs.MeetsB.{projected, within_limits}
use Rattle.cases.proofs.Rows.{all, rows_opened, prints, starts}

-- −n
unfoldable pub below : ℕ → ℤ
below n = neg_ℤ (pos n)

unfoldable pub equal_signed : ℤ → ℤ → Bool
equal_signed (pos a) (pos b) = eqb a b
equal_signed (negsuc a) (negsuc b) = eqb a b
equal_signed (pos a) (negsuc b) = false
equal_signed (negsuc a) (pos b) = false

-- of these charges at ticks 0 to n, the last, the lowest, and the first tick that has it
unfoldable pub projects : List ℤ → ℕ → ℤ → ℤ → ℕ → Bool
projects charges n last lowest tick =
    let p = projected (λ t. get_or charges t (pos 0)) n in
    equal_signed p.last last && equal_signed p.lowest lowest && eqb p.tick tick

-- the floor and the handover charge allow these as the last and the lowest charge
unfoldable pub allows : ℕ → ℕ → ℤ → ℤ → Bool
allows floor handover last lowest = within_limits (record { horizon = 9; minute = 0; capacity = 9; floor = floor; first = 9; rate = 0; handover = handover; engines = 0; peak = 0; volume = 0; heater = 0 }) (record { last = last; lowest = lowest; tick = 1 })

unfoldable pub lowest_examples : List Bool
lowest_examples =
    -- charges by themselves: one; rising; falling; the lowest between
    projects (pos 5 ∷ []) 0 (pos 5) (pos 5) 0
    ∷ projects (pos 5 ∷ pos 7 ∷ pos 9 ∷ []) 2 (pos 9) (pos 5) 0
    ∷ projects (pos 9 ∷ pos 7 ∷ pos 5 ∷ []) 2 (pos 5) (pos 5) 2
    ∷ projects (pos 9 ∷ pos 5 ∷ pos 7 ∷ []) 2 (pos 7) (pos 5) 1
    -- several ticks that have it: all; neighbours; others between, tick 0 and T among them
    ∷ projects (pos 7 ∷ pos 7 ∷ pos 7 ∷ []) 2 (pos 7) (pos 7) 0
    ∷ projects (pos 9 ∷ pos 5 ∷ pos 5 ∷ pos 7 ∷ []) 3 (pos 7) (pos 5) 1
    ∷ projects (pos 9 ∷ pos 5 ∷ pos 7 ∷ pos 5 ∷ []) 3 (pos 5) (pos 5) 1
    ∷ projects (pos 5 ∷ pos 9 ∷ pos 5 ∷ pos 8 ∷ []) 3 (pos 8) (pos 5) 0
    -- a later one that is lower by 1, and one that is higher by 1
    ∷ projects (pos 9 ∷ pos 5 ∷ pos 7 ∷ pos 4 ∷ []) 3 (pos 4) (pos 4) 3
    ∷ projects (pos 9 ∷ pos 5 ∷ pos 7 ∷ pos 6 ∷ []) 3 (pos 6) (pos 5) 1
    -- charges behind tick n don't count
    ∷ projects (pos 9 ∷ pos 5 ∷ pos 7 ∷ pos 4 ∷ []) 2 (pos 7) (pos 5) 1
    -- below zero
    ∷ projects (pos 3 ∷ below 2 ∷ pos 4 ∷ []) 2 (pos 4) (below 2) 1
    ∷ projects (pos 3 ∷ below 2 ∷ below 5 ∷ below 5 ∷ below 1 ∷ []) 4 (below 1) (below 5) 2
    ∷ projects (below 3 ∷ below 1 ∷ below 2 ∷ []) 2 (below 2) (below 3) 0
    ∷ projects (pos 0 ∷ below 1 ∷ pos 0 ∷ []) 2 (pos 0) (below 1) 1
    ∷ projects (pos 2 ∷ pos 1 ∷ pos 0 ∷ below 1 ∷ []) 3 (below 1) (below 1) 3
    -- the lowest is held to the floor, which is 5 here, and the last to the handover charge, which is 8; both exactly met, and each missed by 1
    ∷ allows 5 8 (pos 8) (pos 5)
    ∷ not (allows 5 8 (pos 8) (pos 4))
    ∷ not (allows 5 8 (pos 7) (pos 5))
    ∷ not (allows 5 8 (pos 7) (pos 4))
    -- a floor over the handover charge; below zero
    ∷ allows 5 0 (pos 5) (pos 5)
    ∷ not (allows 5 0 (pos 5) (pos 4))
    ∷ not (allows 0 0 (pos 1) (below 1))
    ∷ not (allows 0 0 (below 1) (below 1))
    -- no activities, the charge rises: 5 7 9 11; it stays, since the rate is 0: 9 9 9 9; it stays, since the battery is full: 20 20 20 20
    ∷ prints "plan 3 0 20 0 5 2 0 0 0 0 0\n" "end 0 0 11 0 5 0\n"
    ∷ prints "plan 3 0 20 0 9 0 0 0 0 0 0\n" "end 0 0 9 0 9 0\n"
    ∷ prints "plan 3 0 20 0 20 5 0 0 0 0 0\n" "end 0 0 20 0 20 0\n"
    -- at T: 9 9 9 5, and in the shortest plan: 9 5; at the tick before T: 9 10 11 8 9
    ∷ prints "plan 3 0 20 0 9 0 0 0 0 0 0\nact 1 0 1 2 - - - - - 0 0 4 0 0\n" "1 placed 2 3\nend 1 0 5 0 5 3\n"
    ∷ prints "plan 1 0 20 0 9 0 0 0 0 0 0\nact 1 0 1 0 - - - - - 0 0 4 0 0\n" "1 placed 0 1\nend 1 0 5 0 5 1\n"
    ∷ prints "plan 4 0 20 0 9 1 0 0 0 0 0\nact 1 0 1 2 - - - - - 0 0 4 0 0\n" "1 placed 2 3\nend 1 0 9 0 8 3\n"
    -- nothing draws in its first tick or after it: 9 5 5 5
    ∷ prints "plan 3 0 20 0 9 0 0 0 0 0 0\nact 1 0 1 0 - - - - - 0 0 4 0 0\n" "1 placed 0 1\nend 1 0 5 0 5 1\n"
    -- it comes back to the lowest: 9 5 6 7 5 6; down to 1 less: 9 5 6 7 4 5; to 1 more: 9 5 6 7 6 7
    ∷ prints "plan 5 0 20 0 9 1 0 0 0 0 0\nact 1 0 1 0 - - - - - 0 0 5 0 0\nact 2 0 1 3 - - - - - 0 0 3 0 0\n" "1 placed 0 1\n2 placed 3 4\nend 2 0 6 0 5 1\n"
    ∷ prints "plan 5 0 20 0 9 1 0 0 0 0 0\nact 1 0 1 0 - - - - - 0 0 5 0 0\nact 2 0 1 3 - - - - - 0 0 4 0 0\n" "1 placed 0 1\n2 placed 3 4\nend 2 0 5 0 4 4\n"
    ∷ prints "plan 5 0 20 0 9 1 0 0 0 0 0\nact 1 0 1 0 - - - - - 0 0 5 0 0\nact 2 0 1 3 - - - - - 0 0 2 0 0\n" "1 placed 0 1\n2 placed 3 4\nend 2 0 7 0 5 1\n"
    -- back to the first charge: 5 6 7 5
    ∷ prints "plan 3 0 20 0 5 1 0 0 0 0 0\nact 1 0 1 2 - - - - - 0 0 3 0 0\n" "1 placed 2 3\nend 1 0 5 0 5 0\n"
    -- the heater's ticks 1 to 4 leave the lowest at the start, tick 5, before the activity draws: 10 11 9 7 5 3 3 4 5
    ∷ prints "plan 8 840 20 0 10 1 0 0 0 0 3\nact 1 0 1 5 - - - - - 0 0 1 0 1\n" "1 placed 5 6\nend 1 0 5 0 3 5\n"
    -- the stop at capacity before the lowest: 8 10 4 7 10, and 9 5 9 10 4 8, which would be 9 5 9 13 7 11 without it
    ∷ prints "plan 4 0 10 0 8 3 0 0 0 0 0\nact 1 0 1 1 - - - - - 0 0 9 0 0\n" "1 placed 1 2\nend 1 0 10 0 4 2\n"
    ∷ prints "plan 5 0 10 0 9 4 0 0 0 0 0\nact 1 0 1 0 - - - - - 0 0 8 0 0\nact 2 0 1 3 - - - - - 0 0 10 0 0\n" "1 placed 0 1\n2 placed 3 4\nend 2 0 8 0 4 4\n"
    -- refused ones draw nothing, nor do their heaters: 9 9 9 9, and 10 10 10 9 9 9 9 9 9
    ∷ prints "plan 3 0 20 0 9 0 0 0 0 0 0\nact 1 0 1 1 5:5:5 - - - - 0 0 4 0 0\n" "1 refused W\nend 0 1 9 0 9 0\n"
    ∷ prints "plan 8 840 20 0 10 0 0 0 0 0 1\nact 1 0 1 5 9:9:9 - - - - 0 0 4 0 1\nact 2 0 1 2 - - - - - 0 0 1 0 0\n" "1 refused W\n2 placed 2 3\nend 1 1 9 0 9 3\n"
    -- the lowest equal to the floor, 5: 9 11 5 7 9; under it at that tick alone, 9 11 4 6 8, it is refused, which leaves 9 11 13 15 17
    ∷ prints "plan 4 0 20 5 9 2 0 0 0 0 0\nact 1 0 1 1 1:1:1 - - - - 0 0 8 0 0\n" "1 placed 1 2\nend 1 0 9 0 5 2\n"
    ∷ prints "plan 4 0 20 5 9 2 0 0 0 0 0\nact 1 0 1 1 1:1:1 - - - - 0 0 9 0 0\n" "1 refused WB\nend 0 1 17 0 9 0\n"
    -- the same at every start, B alone: start 0 gives 9 3 5 7 9 and 9 2 4 6 8, start 1 the charges above, starts 2 and 3 none under 6
    ∷ starts "plan 4 0 20 5 9 2 0 0 0 0 0\nact 1 0 1 1 - - - - - 0 0 8 0 0\n" 0 64 (1 ∷ 3 ∷ [])
    ∷ starts "plan 4 0 20 5 9 2 0 0 0 0 0\nact 1 0 1 1 - - - - - 0 0 9 0 0\n" 0 64 (2 ∷ 3 ∷ [])
    -- the handover charge, 9, is asked of the last and not of the lowest: 9 11 5 7 9; the last is missed by 1: 9 11 4 6 8
    ∷ starts "plan 4 0 20 0 9 2 9 0 0 0 0\nact 1 0 1 1 1:1:1 - - - - 0 0 8 0 0\n" 0 65 (1 ∷ 1 ∷ [])
    ∷ starts "plan 4 0 20 0 9 2 9 0 0 0 0\nact 1 0 1 1 1:1:1 - - - - 0 0 9 0 0\n" 0 65 []
    -- 9 goes by the last charge: 2 5 8 11
    ∷ prints "plan 3 0 20 0 2 3 11 0 0 0 0\n" "end 0 0 11 0 2 0\n"
    ∷ prints "plan 3 0 20 0 2 3 12 0 0 0 0\n" "no 9 0\n"
    -- nine digits: 1000000000 999000000 998000000; the battery empty: 4 0 0
    ∷ prints "plan 2 0 1000000000 0 1000000000 0 0 0 0 0 0\nact 1 0 2 0 - - - - - 0 0 1000000 0 0\n" "1 placed 0 2\nend 1 0 998000000 0 998000000 2\n"
    ∷ prints "plan 2 0 20 0 4 0 0 0 0 0 0\nact 1 0 1 0 - - - - - 0 0 4 0 0\n" "1 placed 0 1\nend 1 0 0 0 0 1\n"
    ∷ []

lowests : all lowest_examples ≡ true
unfolding opened rows_opened below equal_signed projects allows lowest_examples
lowests = refl
