-- The ten cases marked † in document 01 (Edges), with the windows of document 02, [2], as one table of tests that antt computes.
-- Assumes nothing.
use Prim.Native.Nat.{ℕ, ◌<◌}
use mathlib.Core.Path.{◌≡◌, refl}
use mathlib.Core.Bool.{Bool, true, false, ◌&&◌}
use mathlib.Core.List.{List, [], ◌∷◌, ◌++◌}
use lib.Dec.{eqb}
use lib.ListN.{get_or, length}
use Rattle.rules.specs.Open.{opened}
use Rattle.rules.specs.Bytes.{same}
use Rattle.rules.specs.Tests.{every}
use Rattle.rules.specs.Warmup.{warmup_entry}
use Rattle.rules.specs.Report.{output}
use Rattle.rules.specs.Calls.{starts_call}
use Rattle.rules.specs.declared.Interval.{Interval}
use Rattle.cases.proofs.Inputs.{tabbed, line_p, line_a, worked}
use Rattle.rules.proofs.Tests.{every_at}

-- the runs are one, from a to b
abbrev pub one_run : ℕ → ℕ → List Interval → Bool
one_run a b [] = false
one_run a b (r ∷ []) = eqb r.first a && eqb r.last b
one_run a b (r ∷ q ∷ rs) = false

-- the starts of the worked input's place k that meet the set m are one run, from a to b
unfoldable pub starts_are : ℕ → ℕ → ℕ → ℕ → Bool
starts_are k m a b = one_run a b (starts_call worked k m 2048).written

unfoldable pub edges : List Bool
edges =
    -- 1 w is 4 at q 168, 4 at 179, 5 at 180
    (eqb (warmup_entry 168) 4 && eqb (warmup_entry 179) 4 && eqb (warmup_entry 180) 5)
    -- 2 w is 16 at q 24, 14 at 0, 13 at 287
    ∷ (eqb (warmup_entry 24) 16 && eqb (warmup_entry 0) 14 && eqb (warmup_entry 287) 13)
    -- 3 activity 10 may start at 15, not 14
    ∷ starts_are 3 511 15 18
    -- 4 window 0:0:8 allows 8, not 9
    ∷ starts_are 1 1 0 8
    -- 5 activity 7: start 4 meets H, 3 doesn't
    ∷ starts_are 0 256 4 15
    -- 6 handover 60 is accepted in P, 61 refused
    ∷ (same (output (tabbed "plan 20 840 100 20 40 1 60 1 10 50 1\n")) (tabbed "end 0 0 60 0 40 0\n") && same (output (tabbed "plan 20 840 100 20 40 1 61 1 10 50 1\n")) (tabbed "no 9 0\n"))
    -- 7 valid 8 and 16, preferred 12, by the preferred field and by a window: 8
    ∷ (same (output (line_p ++ tabbed "act 1 0 7 9 - - 0 - - 0 0 0 0 0\nact 2 0 1 12 - - 0 - - 0 0 0 0 0\n")) (tabbed "1 placed 9 16\n2 placed 8 9\nend 2 0 60 0 40 0\n") && same (output (line_p ++ tabbed "act 1 0 7 9 - - 0 - - 0 0 0 0 0\nact 2 0 1 0 8:12:16 - 0 - - 0 0 0 0 0\n")) (tabbed "1 placed 9 16\n2 placed 8 9\nend 2 0 60 0 40 0\n"))
    -- 8 s + d = T is a start
    ∷ starts_are 3 0 0 18
    -- 9 c equal to the floor is enough
    ∷ same (output (tabbed "plan 2 0 10 5 7 0 0 0 0 0 0\nact 1 0 1 0 - - - - - 0 0 2 0 0\nact 2 0 1 0 - - - - - 0 0 1 0 0\n")) (tabbed "1 placed 0 1\n2 refused B\nend 1 1 5 0 5 1\n")
    -- 10 the input gives its report
    ∷ same (output worked) (tabbed "7 placed 10 15\n8 refused WD\n9 refused V\n10 placed 15 17\nend 2 2 37 50 34 17\n")
    ∷ []

all_edges : every (λ b. b) edges ≡ true
unfolding opened edges starts_are tabbed line_p line_a worked
all_edges = refl

ten : length edges ≡ 10
unfolding edges
ten = refl

-- each marked case holds
pub edge : (i : ℕ) → i < length edges → get_or edges i false ≡ true
edge i h = every_at (λ b. b) edges false i all_edges h
