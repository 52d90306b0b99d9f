-- The rows of the tables: what is asked, and the answer that it must have. A plan is written with a space for each tab.
-- Assumes nothing.
use Prim.Native.Nat.{ℕ}
use Prim.Native.String.{String}
use mathlib.Core.Bool.{Bool, true, false, ◌&&◌}
use mathlib.Core.List.{List, [], ◌∷◌}
use lib.Dec.{eqb}
use lib.ListN.{length}
use Rattle.rules.specs.Plan.{Header}
use Rattle.rules.specs.Reading.{Reading, accepted, refused}
use Rattle.rules.specs.Report.{output}
use Rattle.rules.specs.Calls.{Terms, outcome_call, starts_call}
use Rattle.rules.specs.declared.Interval.{Interval}
use Rattle.cases.proofs.Inputs.{tabbed}

-- each row of a table holds, and two lists are equal: not by `every` and `same`, which the tables test
unfoldable pub all : List Bool → Bool
all [] = true
all (b ∷ bs) = b && all bs

unfoldable pub equal : List ℕ → List ℕ → Bool
equal [] [] = true
equal [] (y ∷ t) = false
equal (x ∷ s) [] = false
equal (x ∷ s) (y ∷ t) = eqb x y && equal s t

-- an answer's number, line and values
unfoldable pub terms_are : Terms → ℕ → ℕ → List ℕ → Bool
terms_are t number line values = eqb t.number number && eqb t.line line && equal t.values values

-- the program prints this for the plan
unfoldable pub prints : String → String → Bool
prints plan text = equal (output (tabbed plan)) (tabbed text)

-- the outcome call at this place has these values: 1 and the start, or 0 and the set of the letters
unfoldable pub answers : String → ℕ → List ℕ → Bool
answers plan place values = terms_are (outcome_call (tabbed plan) place) 0 0 values

-- the first and last start of each run, one after the other
unfoldable pub ends : List Interval → List ℕ
ends [] = []
ends (r ∷ rs) = r.first ∷ r.last ∷ ends rs

-- the starts call at this place gives these runs for the set, and their count
unfoldable pub starts : String → ℕ → ℕ → List ℕ → Bool
starts plan place set runs =
    let filled = starts_call (tabbed plan) place set 2048 in
    equal (ends filled.written) runs && terms_are filled.terms 0 0 (length filled.written ∷ [])

-- a file's refusal, or 0 and 0 where it is accepted
unfoldable pub refuses : Reading → ℕ → ℕ → Bool
refuses (accepted p) number line = eqb number 0 && eqb line 0
refuses (refused r) number line = eqb r.number number && eqb r.line line

-- the first line of a plan in which nothing but the horizon matters
unfoldable pub header : ℕ → Header
header horizon = record { horizon = horizon; minute = 0; capacity = 1; floor = 0; first = 0; rate = 0; handover = 0; engines = 0; peak = 0; volume = 0; heater = 0 }

-- what the theorem of a table opens
unfoldable pub rows_opened : Unit {0}
unfolding all equal terms_are prints answers ends starts refuses header tabbed
rows_opened = tt
