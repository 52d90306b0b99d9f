-- Reading: lines, words, numbers and lists, and the first refusal in the order of document 01 (When the planner says no).
-- Assumes nothing.
use Prim.Native.Nat.{ℕ, zero, suc, ◌+◌}
use Prim.Native.String.{String}
use mathlib.Core.Path.{◌≡◌, refl}
use mathlib.Core.Bool.{Bool, true}
use mathlib.Core.List.{List, [], ◌∷◌}
use Rattle.rules.specs.Open.{opened}
use Rattle.rules.specs.Plan.{Activity}
use Rattle.rules.specs.Number.{decimal}
use Rattle.rules.specs.Lines.{lines}
use Rattle.rules.specs.Outcomes.{no_activity}
use Rattle.rules.specs.Reading.{activity_lines, reading}
use Rattle.cases.proofs.Inputs.{tabbed}
use Rattle.cases.proofs.Rows.{all, rows_opened, equal, header, prints, refuses}

-- so many bytes, none of them LF
unfoldable pub same_bytes : ℕ → List ℕ
same_bytes zero = []
same_bytes (suc n) = 120 ∷ same_bytes n

unfoldable pub filed : List ℕ → ℕ → ℕ → Bool
filed s number line = refuses (reading s) number line

-- so many activities
unfoldable pub activities : ℕ → List Activity
activities zero = []
activities (suc n) = no_activity ∷ activities n

-- this line behind so many activity lines
unfoldable pub sixty_fifth : ℕ → String → ℕ → ℕ → Bool
sixty_fifth n line number at = refuses (activity_lines (header 9) (activities n) (n + 2) (lines (tabbed line))) number at

unfoldable pub reading_examples : List Bool
reading_examples =
    -- no activities; the last LF missing; an empty line; a field short; another word
    prints "plan 1 0 1 0 0 0 0 0 0 0 0\n" "end 0 0 0 0 0 0\n"
    ∷ prints "plan 1 0 1 0 0 0 0 0 0 0 0" "no 2 1\n"
    ∷ prints "plan 1 0 1 0 0 0 0 0 0 0 0\n\n" "no 2 2\n"
    ∷ prints "plan 1 0 1 0 0 0 0 0 0 0\n" "no 2 1\n"
    ∷ prints "plane 1 0 1 0 0 0 0 0 0 0 0\n" "no 2 1\n"
    -- fields left to right: 4 in an earlier field before 3 in a later one
    ∷ prints "plan 4097 x 1 0 0 0 0 0 0 0 0\n" "no 4 1\n"
    -- over one whole field: 3 before 4 before 8 before 13
    ∷ prints "plan 9 0 1 0 0 0 0 0 0 0 0\nact 1 0 1 0 5000:5000:1,x:2:2 - - - - 0 0 0 0 0\n" "no 3 2\n"
    ∷ prints "plan 9 0 1 0 0 0 0 0 0 0 0\nact 1 0 1 0 3:3:1,5000:5000:5000 - - - - 0 0 0 0 0\n" "no 4 2\n"
    ∷ prints "plan 9 0 1 0 0 0 0 0 0 0 0\nact 1 0 1 0 0:2:1,1:1:2 - - - - 0 0 0 0 0\n" "no 8 2\n"
    ∷ prints "plan 9 0 1 0 0 0 0 0 0 0 0\nact 1 0 1 0 0:1:0,1:1:1,2:2:2,3:3:3,4:4:4 - - - - 0 0 0 0 0\n" "no 8 2\n"
    ∷ prints "plan 9 0 1 0 0 0 0 0 0 0 0\nact 1 0 1 0 0:1:0,1:1:1,2:2:2,3:3:3 - - - - 0 0 0 0 0\n" "no 13 2\n"
    -- eleven digits, a dash in a list, an empty item, an empty field
    ∷ prints "plan 10000000000 0 1 0 0 0 0 0 0 0 0\n" "no 3 1\n"
    ∷ prints "plan 9 0 1 0 0 0 0 0 0 0 0\nact 1 0 1 0 - - 1,- - - 0 0 0 0 0\n" "no 3 2\n"
    ∷ prints "plan 9 0 1 0 0 0 0 0 0 0 0\nact 1 0 1 0 - - 1, - - 0 0 0 0 0\n" "no 3 2\n"
    ∷ prints "plan 9 0 1 0 0 0 0 0 0 0 0\nact 1 0 1 0 -  - - - 0 0 0 0 0\n" "no 3 2\n"
    -- ranges that depend on earlier fields: floor over capacity, first charge under the floor, duration over T
    ∷ prints "plan 9 0 5 6 5 0 0 0 0 0 0\n" "no 4 1\n"
    ∷ prints "plan 9 0 5 4 3 0 0 0 0 0 0\n" "no 4 1\n"
    ∷ prints "plan 9 0 1 0 0 0 0 0 0 0 0\nact 1 0 10 0 - - - - - 0 0 0 0 0\n" "no 4 2\n"
    -- 6 after the fields of its line
    ∷ prints "plan 9 0 1 0 0 0 0 0 0 0 0\nact 1 0 1 0 - - - - - 0 0 0 0 0\nact 1 0 1 0 - - - - - 0 0 0 0 2\n" "no 4 3\n"
    -- 7 at the least place, which stands on the later line
    ∷ prints "plan 9 0 1 0 0 0 0 0 0 0 0\nact 1 5 1 0 - 9 - - - 0 0 0 0 0\nact 2 4 1 0 - 1 - - - 0 0 0 0 0\n" "no 7 3\n"
    -- 7 before 9
    ∷ prints "plan 1 0 5 0 0 0 5 0 0 0 0\nact 1 0 1 0 - 2 - - - 0 0 0 0 0\n" "no 7 2\n"
    -- an empty file; a tab for the last LF
    ∷ prints "" "no 2 1\n"
    ∷ prints "plan 1 0 1 0 0 0 0 0 0 0 0 " "no 2 1\n"
    -- other words of the same length; shorter ones; a field more; an activity line with one less and one more; a second first line
    ∷ prints "alan 1 0 1 0 0 0 0 0 0 0 0\n" "no 2 1\n"
    ∷ prints "plan 9 0 1 0 0 0 0 0 0 0 0\nacs 1 0 1 0 - - - - - 0 0 0 0 0\n" "no 2 2\n"
    ∷ prints "pla 1 0 1 0 0 0 0 0 0 0 0\n" "no 2 1\n"
    ∷ prints "plan 1 0 1 0 0 0 0 0 0 0 0 0\n" "no 2 1\n"
    ∷ prints "plan 9 0 1 0 0 0 0 0 0 0 0\nac 1 0 1 0 - - - - - 0 0 0 0 0\n" "no 2 2\n"
    ∷ prints "plan 9 0 1 0 0 0 0 0 0 0 0\nactor 1 0 1 0 - - - - - 0 0 0 0 0\n" "no 2 2\n"
    ∷ prints "plan 9 0 1 0 0 0 0 0 0 0 0\nact 1 0 1 0 - - - - - 0 0 0 0\n" "no 2 2\n"
    ∷ prints "plan 9 0 1 0 0 0 0 0 0 0 0\nact 1 0 1 0 - - - - - 0 0 0 0 0 0\n" "no 2 2\n"
    ∷ prints "plan 9 0 1 0 0 0 0 0 0 0 0\nplan 9 0 1 0 0 0 0 0 0 0 0\n" "no 2 2\n"
    -- an empty line first; the LF of an activity line missing
    ∷ prints "\nplan 9 0 1 0 0 0 0 0 0 0 0\n" "no 2 1\n"
    ∷ prints "plan 9 0 1 0 0 0 0 0 0 0 0\nact 1 0 1 0 - - - - - 0 0 0 0 0" "no 2 2\n"
    -- lines in order: 2 on the third line after 3 on the second, and 3 on the third after 2 on the second
    ∷ prints "plan 9 0 1 0 0 0 0 0 0 0 0\nact x 0 1 0 - - - - - 0 0 0 0 0\nact\n" "no 3 2\n"
    ∷ prints "plan 9 0 1 0 0 0 0 0 0 0 0\nact\nact x 0 1 0 - - - - - 0 0 0 0 0\n" "no 2 2\n"
    ∷ prints "plan 9 0 1 0 0 0 0 0 0 0 0\nact 1 0 1 0 - - - - - 0 0 0 0 0\nact x 0 1 0 - - - - - 0 0 0 0 0\n" "no 3 3\n"
    -- the bytes before 0 and behind 9; a sign; a leading zero; two zeros; no digit
    ∷ prints "plan 9 0 1 0 0 0 0 0 0 0 0\nact 1/ 0 1 0 - - - - - 0 0 0 0 0\n" "no 3 2\n"
    ∷ prints "plan 9 0 1 0 0 0 0 0 0 0 0\nact 1: 0 1 0 - - - - - 0 0 0 0 0\n" "no 3 2\n"
    ∷ prints "plan 9 0 1 0 0 0 0 0 0 0 0\nact -1 0 1 0 - - - - - 0 0 0 0 0\n" "no 3 2\n"
    ∷ prints "plan 9 0 1 0 0 0 0 0 0 0 0\nact 1 01 1 0 - - - - - 0 0 0 0 0\n" "no 3 2\n"
    ∷ prints "plan 9 0 1 0 0 0 0 0 0 0 0\nact 1 00 1 0 - - - - - 0 0 0 0 0\n" "no 3 2\n"
    ∷ prints "plan 9 0 1 0 0 0 0 0 0 0 0\nact  0 1 0 - - - - - 0 0 0 0 0\n" "no 3 2\n"
    -- ten digits: a number, in range and over it
    ∷ prints "plan 1 0 1000000000 0 1000000000 0 0 0 0 0 0\n" "end 0 0 1000000000 0 1000000000 0\n"
    ∷ prints "plan 9999999999 0 1 0 0 0 0 0 0 0 0\n" "no 4 1\n"
    -- 6 of the second earlier line, and of the first
    ∷ prints "plan 9 0 1 0 0 0 0 0 0 0 0\nact 1 0 1 0 - - - - - 0 0 0 0 0\nact 2 0 1 0 - - - - - 0 0 0 0 0\nact 2 0 1 0 - - - - - 0 0 0 0 0\n" "no 6 4\n"
    ∷ prints "plan 9 0 1 0 0 0 0 0 0 0 0\nact 1 0 1 0 - - - - - 0 0 0 0 0\nact 2 0 1 0 - - - - - 0 0 0 0 0\nact 1 0 1 0 - - - - - 0 0 0 0 0\n" "no 6 4\n"
    -- 7 by priority, by line, and of itself; an `after` whose first or second id is missing
    ∷ prints "plan 9 0 1 0 0 0 0 0 0 0 0\nact 1 1 1 0 - - - - - 0 0 0 0 0\nact 2 0 1 0 - 1 - - - 0 0 0 0 0\n" "no 7 3\n"
    ∷ prints "plan 9 0 1 0 0 0 0 0 0 0 0\nact 1 0 1 0 - 2 - - - 0 0 0 0 0\nact 2 0 1 0 - - - - - 0 0 0 0 0\n" "no 7 2\n"
    ∷ prints "plan 9 0 1 0 0 0 0 0 0 0 0\nact 1 0 1 0 - - - - - 0 0 0 0 0\nact 2 0 1 0 - 2 - - - 0 0 0 0 0\n" "no 7 3\n"
    ∷ prints "plan 9 0 1 0 0 0 0 0 0 0 0\nact 1 0 1 0 - - - - - 0 0 0 0 0\nact 2 0 1 0 - 0,1 - - - 0 0 0 0 0\n" "no 7 3\n"
    ∷ prints "plan 9 0 1 0 0 0 0 0 0 0 0\nact 1 0 1 0 - - - - - 0 0 0 0 0\nact 2 0 1 0 - 1,3 - - - 0 0 0 0 0\n" "no 7 3\n"
    -- of two with 7 the least place, by priority; and 7 on the first of two lines
    ∷ prints "plan 9 0 1 0 0 0 0 0 0 0 0\nact 1 1 1 0 - 9 - - - 0 0 0 0 0\nact 2 0 1 0 - 9 - - - 0 0 0 0 0\n" "no 7 3\n"
    ∷ prints "plan 9 0 1 0 0 0 0 0 0 0 0\nact 1 0 1 0 - 9 - - - 0 0 0 0 0\nact 2 0 1 0 - 9 - - - 0 0 0 0 0\n" "no 7 2\n"
    -- an `after` of the activity two places before
    ∷ prints "plan 9 0 1 0 0 0 0 0 0 0 0\nact 1 0 1 0 - - - - - 0 0 0 0 0\nact 2 0 1 0 - - - - - 0 0 0 0 0\nact 3 0 1 0 - 1 - - - 0 0 0 0 0\n" "1 placed 0 1\n2 placed 0 1\n3 placed 1 2\nend 3 0 0 0 0 0\n"
    -- 9: a handover charge that is just reached, and one more
    ∷ prints "plan 3 0 9 0 2 1 5 0 0 0 0\n" "end 0 0 5 0 2 0\n"
    ∷ prints "plan 3 0 9 0 2 1 6 0 0 0 0\n" "no 9 0\n"
    -- 60,000 bytes are read, one more are not
    ∷ filed (10 ∷ same_bytes 59999) 2 1
    ∷ filed (10 ∷ same_bytes 60000) 1 0
    -- a 65th activity line: 2 before 5, and 5 before the fields; a 64th: its fields
    ∷ sixty_fifth 64 "act\n" 2 66
    ∷ sixty_fifth 64 "act x 0 1 0 - - - - - 0 0 0 0 0\n" 5 66
    ∷ sixty_fifth 64 "act 1 0 1 0 0:9:8 - - - - 0 0 0 0 0\n" 5 66
    ∷ sixty_fifth 63 "act 1 0 1 0 0:9:8 - - - - 0 0 0 0 0\n" 13 65
    ∷ sixty_fifth 63 "act x 0 1 0 - - - - - 0 0 0 0 0\n" 3 65
    ∷ sixty_fifth 63 "act 1 0 1 0 - - - - - 0 0 0 0 0\n" 0 0
    -- numbers as they are written
    ∷ equal (decimal 0) (tabbed "0")
    ∷ equal (decimal 9) (tabbed "9")
    ∷ equal (decimal 10) (tabbed "10")
    ∷ equal (decimal 907) (tabbed "907")
    ∷ equal (decimal 4294967295) (tabbed "4294967295")
    ∷ []

readings : all reading_examples ≡ true
unfolding opened rows_opened same_bytes filed activities sixty_fifth reading_examples
readings = refl
