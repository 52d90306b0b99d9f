-- The runs of starts that meet a set (01, Calls).
-- Assumes nothing.
use mathlib.Core.Path.{◌≡◌, refl}
use mathlib.Core.Bool.{Bool, true}
use mathlib.Core.List.{List, [], ◌∷◌}
use Rattle.rules.specs.Open.{opened}
use Rattle.rules.specs.Calls.{starts_call}
use Rattle.cases.proofs.Inputs.{tabbed}
use Rattle.cases.proofs.Rows.{all, rows_opened, starts, terms_are, equal, ends}

unfoldable pub starts_examples : List Bool
starts_examples =
    -- heater ticks below 0 draw nothing: at start 2 only two of the four do; B judged alone
    starts "plan 6 840 20 8 10 0 0 0 0 0 1\nact 1 0 1 0 - - - - - 0 0 0 0 1\n" 0 64 (0 ∷ 2 ∷ [])
    -- two runs of W
    ∷ starts "plan 9 0 1 0 0 0 0 0 0 0 0\nact 1 0 1 4 0:0:1,6:6:7 - - - - 0 0 0 0 0\n" 0 1 (0 ∷ 1 ∷ 6 ∷ 7 ∷ [])
    -- set 0 gives 0 to T − d; windows that meet make one run, cut by T − d
    ∷ starts "plan 9 0 1 0 0 0 0 0 0 0 0\nact 1 0 2 4 3:3:4,5:5:8 - - - - 0 0 0 0 0\n" 0 0 (0 ∷ 7 ∷ [])
    ∷ starts "plan 9 0 1 0 0 0 0 0 0 0 0\nact 1 0 2 4 3:3:4,5:5:8 - - - - 0 0 0 0 0\n" 0 1 (3 ∷ 7 ∷ [])
    -- no start meets the set: no run
    ∷ starts "plan 4 840 20 0 10 0 0 0 0 0 0\nact 1 0 1 0 - - - - - 0 0 0 0 1\n" 0 256 []
    -- U around a placed activity, and U with W
    ∷ starts "plan 9 0 1 0 0 0 0 0 0 0 0\nact 1 0 2 4 - - 3 - - 0 0 0 0 0\nact 2 1 2 4 2:2:6 - 3 - - 0 0 0 0 0\n" 1 4 (0 ∷ 2 ∷ 6 ∷ 7 ∷ [])
    ∷ starts "plan 9 0 1 0 0 0 0 0 0 0 0\nact 1 0 2 4 - - 3 - - 0 0 0 0 0\nact 2 1 2 4 2:2:6 - 3 - - 0 0 0 0 0\n" 1 5 (2 ∷ 2 ∷ 6 ∷ 6 ∷ [])
    -- each condition alone, of a candidate whose starts 4 to 9 fail U, S, E, P, W and B in turn, and 0 to 3 H
    ∷ starts "plan 10 840 10 0 10 5 0 1 1 0 0\nact 1 0 1 4 - - 0 - - 0 0 0 0 0\nact 2 0 1 4 - - - - 1=1 0 0 0 0 0\nact 3 0 1 5 - - - - 1=0 0 0 0 0 0\nact 4 0 1 6 - - - - - 1 0 0 0 0\nact 5 0 1 7 - - - - - 0 1 0 0 0\nact 6 0 1 9 - - - - - 0 0 11 0 0\nact 7 1 1 0 0:0:7,9:9:9 - 0 1=0 - 1 1 6 0 1\n" 6 1 (0 ∷ 7 ∷ 9 ∷ 9 ∷ [])
    ∷ starts "plan 10 840 10 0 10 5 0 1 1 0 0\nact 1 0 1 4 - - 0 - - 0 0 0 0 0\nact 2 0 1 4 - - - - 1=1 0 0 0 0 0\nact 3 0 1 5 - - - - 1=0 0 0 0 0 0\nact 4 0 1 6 - - - - - 1 0 0 0 0\nact 5 0 1 7 - - - - - 0 1 0 0 0\nact 6 0 1 9 - - - - - 0 0 11 0 0\nact 7 1 1 0 0:0:7,9:9:9 - 0 1=0 - 1 1 6 0 1\n" 6 2 (0 ∷ 9 ∷ [])
    ∷ starts "plan 10 840 10 0 10 5 0 1 1 0 0\nact 1 0 1 4 - - 0 - - 0 0 0 0 0\nact 2 0 1 4 - - - - 1=1 0 0 0 0 0\nact 3 0 1 5 - - - - 1=0 0 0 0 0 0\nact 4 0 1 6 - - - - - 1 0 0 0 0\nact 5 0 1 7 - - - - - 0 1 0 0 0\nact 6 0 1 9 - - - - - 0 0 11 0 0\nact 7 1 1 0 0:0:7,9:9:9 - 0 1=0 - 1 1 6 0 1\n" 6 4 (0 ∷ 3 ∷ 5 ∷ 9 ∷ [])
    ∷ starts "plan 10 840 10 0 10 5 0 1 1 0 0\nact 1 0 1 4 - - 0 - - 0 0 0 0 0\nact 2 0 1 4 - - - - 1=1 0 0 0 0 0\nact 3 0 1 5 - - - - 1=0 0 0 0 0 0\nact 4 0 1 6 - - - - - 1 0 0 0 0\nact 5 0 1 7 - - - - - 0 1 0 0 0\nact 6 0 1 9 - - - - - 0 0 11 0 0\nact 7 1 1 0 0:0:7,9:9:9 - 0 1=0 - 1 1 6 0 1\n" 6 8 (0 ∷ 4 ∷ 6 ∷ 9 ∷ [])
    ∷ starts "plan 10 840 10 0 10 5 0 1 1 0 0\nact 1 0 1 4 - - 0 - - 0 0 0 0 0\nact 2 0 1 4 - - - - 1=1 0 0 0 0 0\nact 3 0 1 5 - - - - 1=0 0 0 0 0 0\nact 4 0 1 6 - - - - - 1 0 0 0 0\nact 5 0 1 7 - - - - - 0 1 0 0 0\nact 6 0 1 9 - - - - - 0 0 11 0 0\nact 7 1 1 0 0:0:7,9:9:9 - 0 1=0 - 1 1 6 0 1\n" 6 16 (0 ∷ 5 ∷ 7 ∷ 9 ∷ [])
    ∷ starts "plan 10 840 10 0 10 5 0 1 1 0 0\nact 1 0 1 4 - - 0 - - 0 0 0 0 0\nact 2 0 1 4 - - - - 1=1 0 0 0 0 0\nact 3 0 1 5 - - - - 1=0 0 0 0 0 0\nact 4 0 1 6 - - - - - 1 0 0 0 0\nact 5 0 1 7 - - - - - 0 1 0 0 0\nact 6 0 1 9 - - - - - 0 0 11 0 0\nact 7 1 1 0 0:0:7,9:9:9 - 0 1=0 - 1 1 6 0 1\n" 6 32 (0 ∷ 6 ∷ 8 ∷ 9 ∷ [])
    ∷ starts "plan 10 840 10 0 10 5 0 1 1 0 0\nact 1 0 1 4 - - 0 - - 0 0 0 0 0\nact 2 0 1 4 - - - - 1=1 0 0 0 0 0\nact 3 0 1 5 - - - - 1=0 0 0 0 0 0\nact 4 0 1 6 - - - - - 1 0 0 0 0\nact 5 0 1 7 - - - - - 0 1 0 0 0\nact 6 0 1 9 - - - - - 0 0 11 0 0\nact 7 1 1 0 0:0:7,9:9:9 - 0 1=0 - 1 1 6 0 1\n" 6 64 (0 ∷ 8 ∷ [])
    ∷ starts "plan 10 840 10 0 10 5 0 1 1 0 0\nact 1 0 1 4 - - 0 - - 0 0 0 0 0\nact 2 0 1 4 - - - - 1=1 0 0 0 0 0\nact 3 0 1 5 - - - - 1=0 0 0 0 0 0\nact 4 0 1 6 - - - - - 1 0 0 0 0\nact 5 0 1 7 - - - - - 0 1 0 0 0\nact 6 0 1 9 - - - - - 0 0 11 0 0\nact 7 1 1 0 0:0:7,9:9:9 - 0 1=0 - 1 1 6 0 1\n" 6 128 (0 ∷ 9 ∷ [])
    ∷ starts "plan 10 840 10 0 10 5 0 1 1 0 0\nact 1 0 1 4 - - 0 - - 0 0 0 0 0\nact 2 0 1 4 - - - - 1=1 0 0 0 0 0\nact 3 0 1 5 - - - - 1=0 0 0 0 0 0\nact 4 0 1 6 - - - - - 1 0 0 0 0\nact 5 0 1 7 - - - - - 0 1 0 0 0\nact 6 0 1 9 - - - - - 0 0 11 0 0\nact 7 1 1 0 0:0:7,9:9:9 - 0 1=0 - 1 1 6 0 1\n" 6 256 (4 ∷ 9 ∷ [])
    -- pairs of them, and all but B
    ∷ starts "plan 10 840 10 0 10 5 0 1 1 0 0\nact 1 0 1 4 - - 0 - - 0 0 0 0 0\nact 2 0 1 4 - - - - 1=1 0 0 0 0 0\nact 3 0 1 5 - - - - 1=0 0 0 0 0 0\nact 4 0 1 6 - - - - - 1 0 0 0 0\nact 5 0 1 7 - - - - - 0 1 0 0 0\nact 6 0 1 9 - - - - - 0 0 11 0 0\nact 7 1 1 0 0:0:7,9:9:9 - 0 1=0 - 1 1 6 0 1\n" 6 12 (0 ∷ 3 ∷ 6 ∷ 9 ∷ [])
    ∷ starts "plan 10 840 10 0 10 5 0 1 1 0 0\nact 1 0 1 4 - - 0 - - 0 0 0 0 0\nact 2 0 1 4 - - - - 1=1 0 0 0 0 0\nact 3 0 1 5 - - - - 1=0 0 0 0 0 0\nact 4 0 1 6 - - - - - 1 0 0 0 0\nact 5 0 1 7 - - - - - 0 1 0 0 0\nact 6 0 1 9 - - - - - 0 0 11 0 0\nact 7 1 1 0 0:0:7,9:9:9 - 0 1=0 - 1 1 6 0 1\n" 6 447 (9 ∷ 9 ∷ [])
    -- D and V alone, where they fail
    ∷ starts "plan 4 0 1 0 0 0 0 0 0 0 0\nact 1 0 1 1 - - - - - 0 0 0 0 0\nact 2 1 1 0 - 1 - - - 0 0 0 1 0\n" 1 2 (2 ∷ 3 ∷ [])
    ∷ starts "plan 4 0 1 0 0 0 0 0 0 0 0\nact 1 0 1 1 - - - - - 0 0 0 0 0\nact 2 1 1 0 - 1 - - - 0 0 0 1 0\n" 1 128 []
    -- two runs into two records, and into one; no run into none
    ∷ terms_are (starts_call (tabbed "plan 9 0 1 0 0 0 0 0 0 0 0\nact 1 0 1 4 0:0:1,6:6:7 - - - - 0 0 0 0 0\n") 0 1 2).terms 0 0 (2 ∷ [])
    ∷ equal (ends (starts_call (tabbed "plan 9 0 1 0 0 0 0 0 0 0 0\nact 1 0 1 4 0:0:1,6:6:7 - - - - 0 0 0 0 0\n") 0 1 2).written) (0 ∷ 1 ∷ 6 ∷ 7 ∷ [])
    ∷ terms_are (starts_call (tabbed "plan 9 0 1 0 0 0 0 0 0 0 0\nact 1 0 1 4 0:0:1,6:6:7 - - - - 0 0 0 0 0\n") 0 1 1).terms 10 0 []
    ∷ equal (ends (starts_call (tabbed "plan 9 0 1 0 0 0 0 0 0 0 0\nact 1 0 1 4 0:0:1,6:6:7 - - - - 0 0 0 0 0\n") 0 1 1).written) []
    ∷ terms_are (starts_call (tabbed "plan 4 0 1 0 0 0 0 0 0 0 0\nact 1 0 1 0 9:9:9 - - - - 0 0 0 0 0\n") 0 1 0).terms 0 0 (0 ∷ [])
    -- set 511 is one, 512 is not; place 1 is none
    ∷ terms_are (starts_call (tabbed "plan 9 0 1 0 0 0 0 0 0 0 0\nact 1 0 1 4 0:0:1,6:6:7 - - - - 0 0 0 0 0\n") 0 511 9).terms 0 0 (2 ∷ [])
    ∷ terms_are (starts_call (tabbed "plan 9 0 1 0 0 0 0 0 0 0 0\nact 1 0 1 4 0:0:1,6:6:7 - - - - 0 0 0 0 0\n") 0 512 9).terms 12 0 []
    ∷ terms_are (starts_call (tabbed "plan 9 0 1 0 0 0 0 0 0 0 0\nact 1 0 1 4 0:0:1,6:6:7 - - - - 0 0 0 0 0\n") 1 0 9).terms 11 0 []
    ∷ []

run_lists : all starts_examples ≡ true
unfolding opened rows_opened starts_examples
run_lists = refl
