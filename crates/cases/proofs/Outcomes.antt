-- The calls' full answers, placed and refused (01, Calls).
-- Assumes nothing.
use Prim.Native.Nat.{ℕ}
use lib.Dec.{eqb}
use mathlib.Core.Path.{◌≡◌, refl}
use mathlib.Core.Bool.{Bool, true}
use mathlib.Core.List.{List, [], ◌∷◌}
use Rattle.rules.specs.Open.{opened}
use Rattle.rules.specs.Report.{output}
use Rattle.rules.specs.Calls.{outcome_terms, count_terms, outcome_call, slice_after, report_call, starts_call}
use Rattle.rules.specs.declared.Outcome.TheVariants.{Placed, Refused}
use Rattle.rules.specs.Refusals.{number_of, refusal_view}
use Rattle.rules.specs.declared.Fault.TheVariants.{TooLong, NotFormed, Malformed, OutOfRange, TooMany, Repeated, Misplaced, NotRising, OutOfReach, NoRoom, NoPlace, NoSet, OutOfWindow}
use Rattle.std.specs.Prelude.{Ok, Err}
use Rattle.cases.proofs.Inputs.{tabbed}
use Rattle.cases.proofs.Rows.{all, rows_opened, answers, equal, terms_are}

-- a plan whose activities are refused with one letter each, but for the third
unfoldable pub nine : List ℕ
nine = tabbed "plan 2 0 1 0 0 0 0 0 0 0 0\nact 1 0 1 0 5:5:5 - - - - 0 0 0 0 0\nact 2 0 1 0 - 1 - - - 0 0 0 0 0\nact 3 0 2 0 - - 0 - - 0 0 0 0 0\nact 4 0 1 0 - - 0 - - 0 0 0 0 0\nact 5 0 1 0 - - - 0=1 - 0 0 0 0 0\nact 6 0 1 0 - - - - - 1 0 0 0 0\nact 7 0 1 0 - - - - - 0 1 0 0 0\nact 8 0 1 0 - - - - - 0 0 1 0 0\nact 9 0 1 0 - - - - - 0 0 0 1 0\nact 10 0 1 0 - - - - - 0 0 0 0 1\n"

unfoldable pub outcome_examples : List Bool
outcome_examples =
    -- placed at 0, and refused with each of the nine letters alone
    terms_are (outcome_call nine 0) 0 0 (0 ∷ 1 ∷ [])
    ∷ terms_are (outcome_call nine 1) 0 0 (0 ∷ 2 ∷ [])
    ∷ terms_are (outcome_call nine 2) 0 0 (1 ∷ 0 ∷ [])
    ∷ terms_are (outcome_call nine 3) 0 0 (0 ∷ 4 ∷ [])
    ∷ terms_are (outcome_call nine 4) 0 0 (0 ∷ 8 ∷ [])
    ∷ terms_are (outcome_call nine 5) 0 0 (0 ∷ 16 ∷ [])
    ∷ terms_are (outcome_call nine 6) 0 0 (0 ∷ 32 ∷ [])
    ∷ terms_are (outcome_call nine 7) 0 0 (0 ∷ 64 ∷ [])
    ∷ terms_are (outcome_call nine 8) 0 0 (0 ∷ 128 ∷ [])
    ∷ terms_are (outcome_call nine 9) 0 0 (0 ∷ 256 ∷ [])
    ∷ equal (output nine) (tabbed "1 refused W\n2 refused D\n3 placed 0 2\n4 refused U\n5 refused S\n6 refused E\n7 refused P\n8 refused B\n9 refused V\n10 refused H\nend 1 9 0 0 0 0\n")
    -- no place beyond the last activity, and none in a plan without activities
    ∷ terms_are (outcome_call nine 10) 11 0 []
    ∷ terms_are (outcome_call nine 11) 11 0 []
    ∷ terms_are (outcome_call (tabbed "plan 1 0 1 0 0 0 0 0 0 0 0\n") 0) 11 0 []
    -- placed at another start than 0, by place and not by line; a set of several letters
    ∷ answers "plan 9 0 1 0 0 0 0 0 0 0 0\nact 1 5 1 3 - - - - - 0 0 0 0 0\nact 2 4 1 7 - - - - - 0 0 0 0 0\n" 0 (1 ∷ 7 ∷ [])
    ∷ answers "plan 9 0 1 0 0 0 0 0 0 0 0\nact 1 5 1 3 - - - - - 0 0 0 0 0\nact 2 4 1 7 - - - - - 0 0 0 0 0\n" 1 (1 ∷ 3 ∷ [])
    ∷ answers "plan 2 0 1 0 0 0 0 1 1 0 0\nact 1 0 1 0 - - - - - 1 0 0 0 0\nact 2 0 1 1 - - - - - 0 1 0 0 0\nact 3 1 1 0 - - - - - 1 1 0 0 0\n" 2 (0 ∷ 48 ∷ [])
    -- a file that is refused: its number and line, from every call, and nothing written
    ∷ terms_are (outcome_call (tabbed "plan 9 0 1 0 0 0 0 0 0 0 0\nact 1 0 1 0 - - - - - 0 0 0 0 0\nact 1 0 1 0 - - - - - 0 0 0 0 0\n") 0) 6 3 []
    ∷ terms_are (report_call (tabbed "plan 9 0 1 0 0 0 0 0 0 0 0\nact 1 0 1 0 - - - - - 0 0 0 0 0\nact 1 0 1 0 - - - - - 0 0 0 0 0\n") 100).terms 6 3 []
    ∷ terms_are (starts_call (tabbed "plan 9 0 1 0 0 0 0 0 0 0 0\nact 1 0 1 0 - - - - - 0 0 0 0 0\nact 1 0 1 0 - - - - - 0 0 0 0 0\n") 0 0 9).terms 6 3 []
    ∷ equal (report_call (tabbed "plan 9 0 1 0 0 0 0 0 0 0 0\nact 1 0 1 0 - - - - - 0 0 0 0 0\nact 1 0 1 0 - - - - - 0 0 0 0 0\n") 100).written []
    -- a report of sixteen bytes into sixteen, with its bytes, and into fifteen
    ∷ terms_are (report_call (tabbed "plan 1 0 1 0 0 0 0 0 0 0 0\n") 16).terms 0 0 (16 ∷ [])
    ∷ equal (report_call (tabbed "plan 1 0 1 0 0 0 0 0 0 0 0\n") 16).written (tabbed "end 0 0 0 0 0 0\n")
    ∷ terms_are (report_call (tabbed "plan 1 0 1 0 0 0 0 0 0 0 0\n") 15).terms 10 0 []
    ∷ equal (report_call (tabbed "plan 1 0 1 0 0 0 0 0 0 0 0\n") 15).written []
    -- the faults by their numbers, and a refusal by its number and line
    ∷ eqb (number_of TooLong) 1
    ∷ eqb (number_of NotFormed) 2
    ∷ eqb (number_of Malformed) 3
    ∷ eqb (number_of OutOfRange) 4
    ∷ eqb (number_of TooMany) 5
    ∷ eqb (number_of Repeated) 6
    ∷ eqb (number_of Misplaced) 7
    ∷ eqb (number_of NotRising) 8
    ∷ eqb (number_of OutOfReach) 9
    ∷ eqb (number_of NoRoom) 10
    ∷ eqb (number_of NoPlace) 11
    ∷ eqb (number_of NoSet) 12
    ∷ eqb (number_of OutOfWindow) 13
    ∷ eqb (refusal_view (record { fault = TooMany; line = 66 })).number 5
    ∷ eqb (refusal_view (record { fault = TooMany; line = 66 })).line 66
    -- an answer in the document's terms
    ∷ terms_are (outcome_terms (Ok (Placed 5))) 0 0 (1 ∷ 5 ∷ [])
    ∷ terms_are (outcome_terms (Ok (Refused 3))) 0 0 (0 ∷ 3 ∷ [])
    ∷ terms_are (outcome_terms (Err (record { fault = OutOfRange; line = 2 }))) 4 2 []
    ∷ terms_are (count_terms (Ok 7)) 0 0 (7 ∷ [])
    ∷ terms_are (count_terms (Err (record { fault = OutOfRange; line = 2 }))) 4 2 []
    -- a lent slice after the call: what is written, and behind it what was there
    ∷ equal (slice_after (1 ∷ 2 ∷ []) (7 ∷ 8 ∷ 9 ∷ [])) (1 ∷ 2 ∷ 9 ∷ [])
    ∷ equal (slice_after [] (7 ∷ 8 ∷ [])) (7 ∷ 8 ∷ [])
    ∷ []

outcomes : all outcome_examples ≡ true
unfolding opened rows_opened nine outcome_examples refusal_view
outcomes = refl
