-- The worked input of document 01 (Calls), and plans written with a space for each tab.
-- Assumes nothing.
use Prim.Native.Nat.{ℕ}
use Prim.Native.String.{String}
use mathlib.Core.Bool.{cond}
use mathlib.Core.List.{List, ◌++◌, map}
use lib.Dec.{eqb}
use Rattle.rules.specs.Bytes.{bytes}

-- the bytes of a text with a tab for each space
unfoldable pub tabbed : String → List ℕ
tabbed s = map (λ b. cond (eqb b 32) 9 b) (bytes s)

-- "P its first line and A its second"
unfoldable pub line_p : List ℕ
line_p = tabbed "plan 20 840 100 20 40 1 0 1 10 50 1\n"

unfoldable pub line_a : List ℕ
line_a = tabbed "act 7 1 5 10 - - 0 - 1=3 1 4 3 10 1\n"

unfoldable pub worked : List ℕ
worked =
    line_p ++
    line_a ++
    tabbed "act 8 2 3 0 0:0:8 7 - - - 0 0 0 0 0\n" ++
    tabbed "act 9 3 2 12 - - 0 1=3 - 1 7 2 41 0\n" ++
    tabbed "act 10 4 2 12 - - 0 1=3 - 1 7 2 40 0\n"
