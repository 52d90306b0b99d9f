-- The letters of a refusal, each dropped when the others kept have no start in common (01, Placing and refusing).
-- Assumes nothing.
use mathlib.Core.Path.{◌≡◌, refl}
use mathlib.Core.Bool.{Bool, true}
use mathlib.Core.List.{List, [], ◌∷◌}
use Rattle.rules.specs.Open.{opened}
use Rattle.cases.proofs.Rows.{all, rows_opened, prints, answers}

unfoldable pub letter_examples : List Bool
letter_examples =
    -- S alone would do, but it is dropped before V
    prints "plan 2 0 1 0 0 0 0 0 0 1 0\nact 1 0 1 0 - - - 0=1 - 0 0 0 2 0\n" "1 refused V\nend 0 1 0 0 0 0\n"
    -- three and four letters: any one left out gives a start
    ∷ prints "plan 8 0 1 0 0 0 0 0 0 0 0\nact 1 0 1 0 3:3:3 - - - - 0 0 0 0 0\nact 2 0 1 0 5:5:5 - - - 1=3 0 0 0 0 0\nact 3 1 1 0 2:2:2,6:6:6 1 - 1=0 - 0 0 0 0 0\n" "1 placed 3 4\n2 placed 5 6\n3 refused WDS\nend 2 1 0 0 0 0\n"
    ∷ prints "plan 8 0 1 0 0 0 0 0 0 0 0\nact 1 0 1 0 3:3:3 - - - - 0 0 0 0 0\nact 2 0 1 0 5:5:5 - 0 - 1=3 0 0 0 0 0\nact 3 1 1 0 2:2:2,5:5:6 1 0 1=0 - 0 0 0 0 0\n" "1 placed 3 4\n2 placed 5 6\n3 refused WDUS\nend 2 1 0 0 0 0\n"
    -- two letters: engines are full at tick 0 and peaks at tick 1
    ∷ prints "plan 2 0 1 0 0 0 0 1 1 0 0\nact 1 0 1 0 - - - - - 1 0 0 0 0\nact 2 0 1 1 - - - - - 0 1 0 0 0\nact 3 1 1 0 - - - - - 1 1 0 0 0\n" "1 placed 0 1\n2 placed 1 2\n3 refused EP\nend 2 1 0 0 0 0\n"
    -- B and H: too early for the heater before tick 4, and no charge from then on
    ∷ prints "plan 6 840 9 0 9 0 0 0 0 0 2\nact 1 0 1 5 - - - - - 0 0 3 0 0\nact 2 1 1 0 - - - - - 0 0 0 0 1\n" "1 placed 5 6\n2 refused BH\nend 1 1 6 0 6 6\n"
    -- four letters: H at starts 0 to 3, E at 4, P at 5, B at 6
    ∷ prints "plan 7 840 10 0 10 5 0 1 1 0 0\nact 1 0 1 4 - - - - - 1 0 0 0 0\nact 2 0 1 5 - - - - - 0 1 0 0 0\nact 3 0 1 6 - - - - - 0 0 11 0 0\nact 4 1 1 0 - - - - - 1 1 6 0 1\n" "1 placed 4 5\n2 placed 5 6\n3 placed 6 7\n4 refused EPBH\nend 3 1 4 0 4 7\n"
    -- V fails at every start, so it is left alone, whatever else fails before it
    ∷ answers "plan 2 0 1 0 0 0 0 0 0 1 1\nact 1 0 1 0 9:9:9 - - 0=1 - 1 1 1 2 0\n" 0 (0 ∷ 128 ∷ [])
    -- but for H, which comes after it
    ∷ answers "plan 2 0 1 0 0 0 0 0 0 1 1\nact 1 0 1 0 - - - - - 0 0 0 2 1\n" 0 (0 ∷ 256 ∷ [])
    -- seven letters: H at starts 0 to 3, then U, S, E, P, W and B at one start each
    ∷ answers "plan 10 840 10 0 10 5 0 1 1 0 0\nact 1 0 1 4 - - 0 - - 0 0 0 0 0\nact 2 0 1 4 - - - - 1=1 0 0 0 0 0\nact 3 0 1 5 - - - - 1=0 0 0 0 0 0\nact 4 0 1 6 - - - - - 1 0 0 0 0\nact 5 0 1 7 - - - - - 0 1 0 0 0\nact 6 0 1 9 - - - - - 0 0 11 0 0\nact 7 1 1 0 0:0:7,9:9:9 - 0 1=0 - 1 1 6 0 1\n" 6 (0 ∷ 381 ∷ [])
    -- where several alone would do, those named first are dropped
    ∷ answers "plan 2 0 1 0 0 0 0 0 0 0 0\nact 1 0 1 0 9:9:9 - - 0=1 - 1 1 1 0 1\n" 0 (0 ∷ 256 ∷ [])
    ∷ answers "plan 2 0 1 0 0 0 0 0 0 0 0\nact 1 0 1 0 9:9:9 - - 0=1 - 1 1 1 0 0\n" 0 (0 ∷ 64 ∷ [])
    ∷ answers "plan 2 0 1 0 0 0 0 0 0 0 0\nact 1 0 1 0 9:9:9 - - 0=1 - 1 1 0 0 0\n" 0 (0 ∷ 32 ∷ [])
    ∷ answers "plan 2 0 1 0 0 0 0 0 0 0 0\nact 1 0 1 0 9:9:9 - - 0=1 - 1 0 0 0 0\n" 0 (0 ∷ 16 ∷ [])
    ∷ []

lettered : all letter_examples ≡ true
unfolding opened rows_opened letter_examples
lettered = refl
