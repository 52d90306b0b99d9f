-- Both bounds of every range with the neighbour that is refused, and the form, order and number of list items (01, The plan file).
-- Assumes nothing.
use Prim.Native.Nat.{ℕ, zero, suc}
use Prim.Native.String.{String}
use mathlib.Core.Path.{◌≡◌, refl}
use mathlib.Core.Bool.{Bool, true, cond}
use mathlib.Core.List.{List, [], ◌∷◌, ◌++◌}
use lib.Dec.{eqb}
use Rattle.rules.specs.Open.{opened}
use Rattle.rules.specs.Plan.{Window, Setting, Activity}
use Rattle.rules.specs.Lines.{lines, fields, line_of}
use Rattle.rules.specs.Reading.{Reading, accepted, refused, plan_lines}
use Rattle.cases.proofs.Inputs.{tabbed}
use Rattle.cases.proofs.Rows.{all, rows_opened, equal, refuses}

-- the fields of a first line and of an activity line in which every range is kept
unfoldable pub header_fields : List (List ℕ)
header_fields = fields (tabbed "plan 9 0 1 0 0 0 0 0 0 0 0\n")

unfoldable pub activity_fields : List (List ℕ)
activity_fields = fields (tabbed "act 1 0 1 0 - - - - - 0 0 0 0 0\n")

-- field i replaced
unfoldable pub replaced : ℕ → List ℕ → List (List ℕ) → List (List ℕ)
replaced i text [] = []
replaced zero text (f ∷ fs) = text ∷ fs
replaced (suc i) text (f ∷ fs) = f ∷ replaced i text fs

-- a first line alone draws this number, or 0 for none; a line of activity behind a first line does
unfoldable pub headed : String → ℕ → Bool
headed line number = refuses (plan_lines (lines (tabbed line))) number (cond (eqb number 0) 0 1)

unfoldable pub in_header : ℕ → String → ℕ → Bool
in_header i text number = refuses (plan_lines (line_of (replaced i (tabbed text) header_fields) ∷ [])) number (cond (eqb number 0) 0 1)

unfoldable pub in_activity : ℕ → String → ℕ → Bool
in_activity i text number = refuses (plan_lines (line_of header_fields ∷ line_of (replaced i (tabbed text) activity_fields) ∷ [])) number (cond (eqb number 0) 0 2)

-- what was read, as one list of numbers
unfoldable pub header_numbers : Reading → List ℕ
header_numbers (refused r) = []
header_numbers (accepted p) = let h = p.header in h.horizon ∷ h.minute ∷ h.capacity ∷ h.floor ∷ h.first ∷ h.rate ∷ h.handover ∷ h.engines ∷ h.peak ∷ h.volume ∷ h.heater ∷ []

unfoldable pub window_numbers : List Window → List ℕ
window_numbers [] = []
window_numbers (w ∷ ws) = w.from ∷ w.preferred ∷ w.to ∷ window_numbers ws

unfoldable pub setting_numbers : List Setting → List ℕ
setting_numbers [] = []
setting_numbers (x ∷ xs) = x.variable ∷ x.value ∷ setting_numbers xs

unfoldable pub numbers_of : List Activity → List ℕ
numbers_of [] = []
numbers_of (a ∷ rest) = (a.id ∷ a.priority ∷ a.duration ∷ a.preferred ∷ []) ++ window_numbers a.windows ++ a.after ++ a.units ++ setting_numbers a.needs ++ setting_numbers a.sets ++ (a.engines ∷ a.peak ∷ a.draw ∷ a.volume ∷ a.warm ∷ numbers_of rest)

unfoldable pub activity_numbers : Reading → List ℕ
activity_numbers (refused r) = []
activity_numbers (accepted p) = numbers_of p.activities

unfoldable pub range_examples : List Bool
range_examples =
    -- the first line: horizon, minute, capacity
    in_header 1 "0" 4
    ∷ in_header 1 "1" 0
    ∷ in_header 1 "4096" 0
    ∷ in_header 1 "4097" 4
    ∷ in_header 2 "0" 0
    ∷ in_header 2 "1439" 0
    ∷ in_header 2 "1440" 4
    ∷ in_header 3 "0" 4
    ∷ in_header 3 "1" 0
    ∷ in_header 3 "1000000000" 0
    ∷ in_header 3 "1000000001" 4
    -- the floor to the capacity, which is 1: the first charge is then a word, so that 3 says that the floor was let through
    ∷ headed "plan 9 0 1 1 x 0 0 0 0 0 0\n" 3
    ∷ headed "plan 9 0 1 2 x 0 0 0 0 0 0\n" 4
    -- the first charge from the floor to the capacity
    ∷ headed "plan 9 0 9 3 2 0 0 0 0 0 0\n" 4
    ∷ headed "plan 9 0 9 3 3 0 0 0 0 0 0\n" 0
    ∷ headed "plan 9 0 9 3 9 0 0 0 0 0 0\n" 0
    ∷ headed "plan 9 0 9 3 10 0 0 0 0 0 0\n" 4
    -- rate, handover (to the capacity), engines, peak, volume, heater
    ∷ in_header 6 "0" 0
    ∷ in_header 6 "1000000" 0
    ∷ in_header 6 "1000001" 4
    ∷ in_header 7 "0" 0
    ∷ in_header 7 "1" 0
    ∷ in_header 7 "2" 4
    ∷ in_header 8 "0" 0
    ∷ in_header 8 "64" 0
    ∷ in_header 8 "65" 4
    ∷ in_header 9 "0" 0
    ∷ in_header 9 "1000000" 0
    ∷ in_header 9 "1000001" 4
    ∷ in_header 10 "0" 0
    ∷ in_header 10 "1000000000" 0
    ∷ in_header 10 "1000000001" 4
    ∷ in_header 11 "0" 0
    ∷ in_header 11 "1000000" 0
    ∷ in_header 11 "1000001" 4
    -- an activity line: id, priority, duration (to the horizon, which is 9), preferred
    ∷ in_activity 1 "0" 0
    ∷ in_activity 1 "65535" 0
    ∷ in_activity 1 "65536" 4
    ∷ in_activity 2 "0" 0
    ∷ in_activity 2 "65535" 0
    ∷ in_activity 2 "65536" 4
    ∷ in_activity 3 "0" 4
    ∷ in_activity 3 "1" 0
    ∷ in_activity 3 "9" 0
    ∷ in_activity 3 "10" 4
    ∷ in_activity 4 "0" 0
    ∷ in_activity 4 "4095" 0
    ∷ in_activity 4 "4096" 4
    -- windows: the three numbers of one, first start, preferred tick and last start, from 0 to 4,095, each alone beyond it
    ∷ in_activity 5 "0:0:0" 0
    ∷ in_activity 5 "4095:4095:4095" 0
    ∷ in_activity 5 "4096:4095:4095" 4
    ∷ in_activity 5 "0:4096:4095" 4
    ∷ in_activity 5 "0:0:4096" 4
    ∷ in_activity 5 "4096:4096:4096" 4
    ∷ in_activity 5 "0:0:0,1:4096:2" 4
    -- a ≤ b, each begins after the last one's b, at most four
    ∷ in_activity 5 "5:5:4" 8
    ∷ in_activity 5 "5:4:4" 8
    ∷ in_activity 5 "4:4:5,5:5:6" 8
    ∷ in_activity 5 "4:4:5,5:6:6" 8
    ∷ in_activity 5 "4:4:5,6:6:6" 0
    ∷ in_activity 5 "4:5:5,6:6:6" 0
    ∷ in_activity 5 "6:6:6,4:4:5" 8
    ∷ in_activity 5 "0:0:0,1:1:1,2:2:2,3:3:3" 0
    ∷ in_activity 5 "0:0:0,1:1:1,2:2:2,3:3:3,4:4:4" 8
    -- the preferred tick from a to b, in each window
    ∷ in_activity 5 "2:1:5" 13
    ∷ in_activity 5 "2:2:5" 0
    ∷ in_activity 5 "2:3:5" 0
    ∷ in_activity 5 "2:5:5" 0
    ∷ in_activity 5 "2:6:5" 13
    ∷ in_activity 5 "1:0:4095" 13
    ∷ in_activity 5 "0:0:4095" 0
    ∷ in_activity 5 "0:4095:4095" 0
    ∷ in_activity 5 "0:4095:4094" 13
    ∷ in_activity 5 "2:2:5,7:6:8" 13
    ∷ in_activity 5 "2:2:5,7:9:8" 13
    ∷ in_activity 5 "2:6:5,7:7:8" 13
    ∷ in_activity 5 "0:0:0,1:1:1,2:3:2,3:3:3" 13
    ∷ in_activity 5 "0:0:0,1:1:1,2:2:2,3:4:3" 13
    -- three numbers with `:` between them
    ∷ in_activity 5 "1" 3
    ∷ in_activity 5 "1:2" 3
    ∷ in_activity 5 "1:1:2:2" 3
    ∷ in_activity 5 "1:" 3
    ∷ in_activity 5 ":1" 3
    ∷ in_activity 5 "1:2:" 3
    ∷ in_activity 5 ":1:2" 3
    ∷ in_activity 5 "1::2" 3
    ∷ in_activity 5 "1=1=2" 3
    ∷ in_activity 5 "1:1=2" 3
    ∷ in_activity 5 "x:1:1" 3
    ∷ in_activity 5 "1:x:1" 3
    ∷ in_activity 5 "1:1:x" 3
    ∷ in_activity 5 "1:01:1" 3
    ∷ in_activity 5 "1:1:1,2:3" 3
    -- after
    ∷ in_activity 6 "0" 0
    ∷ in_activity 6 "65535" 0
    ∷ in_activity 6 "65536" 4
    ∷ in_activity 6 "2,2" 8
    ∷ in_activity 6 "2,1" 8
    ∷ in_activity 6 "1,2,3,4,5,6,7,8" 0
    ∷ in_activity 6 "1,2,3,4,5,6,7,8,9" 8
    ∷ in_activity 6 "1,3,2" 8
    -- units
    ∷ in_activity 7 "0" 0
    ∷ in_activity 7 "31" 0
    ∷ in_activity 7 "32" 4
    ∷ in_activity 7 "2,2" 8
    ∷ in_activity 7 "2,1" 8
    ∷ in_activity 7 "1,3,2" 8
    ∷ in_activity 7 "0,1,2,3,4,5,6,7,8,9,10,11,12,13,14,15,16,17,18,19,20,21,22,23,24,25,26,27,28,29,30,31" 0
    ∷ in_activity 7 "0,1,2,3,4,5,6,7,8,9,10,11,12,13,14,15,16,17,18,19,20,21,22,23,24,25,26,27,28,29,30,31,31" 8
    -- needs
    ∷ in_activity 8 "0=0" 0
    ∷ in_activity 8 "7=255" 0
    ∷ in_activity 8 "8=0" 4
    ∷ in_activity 8 "0=256" 4
    ∷ in_activity 8 "1=2,1=3" 8
    ∷ in_activity 8 "2=0,1=0" 8
    ∷ in_activity 8 "1=5,2=0" 0
    ∷ in_activity 8 "0=0,1=0,2=0,3=0" 0
    ∷ in_activity 8 "0=0,1=0,2=0,3=0,4=0" 8
    ∷ in_activity 8 "1=2=3" 3
    ∷ in_activity 8 "1" 3
    ∷ in_activity 8 "1=" 3
    ∷ in_activity 8 "=1" 3
    ∷ in_activity 8 "1:2" 3
    -- sets
    ∷ in_activity 9 "0=0" 0
    ∷ in_activity 9 "7=255" 0
    ∷ in_activity 9 "8=0" 4
    ∷ in_activity 9 "0=256" 4
    ∷ in_activity 9 "1=2,1=3" 8
    ∷ in_activity 9 "2=0,1=0" 8
    ∷ in_activity 9 "1=5,2=0" 0
    ∷ in_activity 9 "0=0,1=0,2=0,3=0" 0
    ∷ in_activity 9 "0=0,1=0,2=0,3=0,4=0" 8
    ∷ in_activity 9 "1=2=3" 3
    ∷ in_activity 9 "1" 3
    ∷ in_activity 9 "1=" 3
    ∷ in_activity 9 "=1" 3
    ∷ in_activity 9 "1:2" 3
    -- engines, peak, draw, volume, warm
    ∷ in_activity 10 "0" 0
    ∷ in_activity 10 "64" 0
    ∷ in_activity 10 "65" 4
    ∷ in_activity 11 "0" 0
    ∷ in_activity 11 "1000000" 0
    ∷ in_activity 11 "1000001" 4
    ∷ in_activity 12 "0" 0
    ∷ in_activity 12 "1000000" 0
    ∷ in_activity 12 "1000001" 4
    ∷ in_activity 13 "0" 0
    ∷ in_activity 13 "1000000000" 0
    ∷ in_activity 13 "1000000001" 4
    ∷ in_activity 14 "0" 0
    ∷ in_activity 14 "1" 0
    ∷ in_activity 14 "2" 4
    -- each field is read into its place
    ∷ equal (header_numbers (plan_lines (lines (tabbed "plan 11 12 130 14 15 16 17 18 19 20 21\n")))) (11 ∷ 12 ∷ 130 ∷ 14 ∷ 15 ∷ 16 ∷ 17 ∷ 18 ∷ 19 ∷ 20 ∷ 21 ∷ [])
    ∷ equal (activity_numbers (plan_lines (lines (tabbed "plan 11 12 130 14 15 16 17 18 19 20 21\nact 1 2 3 4 5:6:7,40:41:42 9,10 11,12 1=13,2=14 3=15,4=16 17 18 19 20 1\n")))) (1 ∷ 2 ∷ 3 ∷ 4 ∷ 5 ∷ 6 ∷ 7 ∷ 40 ∷ 41 ∷ 42 ∷ 9 ∷ 10 ∷ 11 ∷ 12 ∷ 1 ∷ 13 ∷ 2 ∷ 14 ∷ 3 ∷ 15 ∷ 4 ∷ 16 ∷ 17 ∷ 18 ∷ 19 ∷ 20 ∷ 1 ∷ [])
    ∷ []

ranges : all range_examples ≡ true
unfolding opened rows_opened header_fields activity_fields replaced headed in_header in_activity header_numbers window_numbers setting_numbers numbers_of activity_numbers range_examples
ranges = refl
