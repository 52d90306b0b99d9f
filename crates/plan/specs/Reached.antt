-- A reading, where some lines of the file have been read.
use Rattle.std.specs.Prelude.{ℕ, ◌+◌, List, [], ◌∷◌, ◌++◌, map, length, drop, Result, Ok, Err}
use Rattle.rules.specs.Plan.{Header}
use Rattle.rules.specs.Lines.{lines}
use Rattle.rules.specs.Reading.{Reading, accepted, refused, no, activity_lines, after_lines}
use Rattle.rules.specs.Refusals.{number_of, refusal_view}
use Rattle.rules.specs.declared.Fault.{Fault}
use Rattle.rules.specs.declared.Refusal.{Refusal}
use Rattle.activity.specs.View.{header_view}
use Rattle.activity.specs.declared.Header.{Header as HeaderStruct}
use Rattle.plan.specs.Said.{said_by, plan_of, in_order}
use Rattle.order.specs.declared.Line.{Line}

-- these lines have been read, and byte `at` of s is next
unfoldable pub lines_from : Header → List ℕ → List Line → ℕ → Reading
lines_from h s read at = activity_lines h (map (said_by h s) read) (length read + 2) (lines (drop at s))

-- the next line has been read behind them, up to byte `at` of s
unfoldable pub line_from : Header → List ℕ → List Line → ℕ → Result Line Fault → Reading
line_from h s read at (Ok l) = lines_from h s (read ++ l ∷ []) at
line_from h s read at (Err f) = no (number_of f) (length read + 2)

-- all have been read
unfoldable pub lines_view : Header → List ℕ → Result (List Line) Refusal → Reading
lines_view h s (Ok read) = accepted (plan_of h s read)
lines_view h s (Err r) = refused (refusal_view r)

-- the first line has been read, up to byte `end` of s
unfoldable pub first_from : List ℕ → ℕ → Result HeaderStruct Fault → Reading
first_from s end (Ok h) = in_order (after_lines (lines_from (header_view h) s [] (end + 1)))
first_from s end (Err f) = no (number_of f) 1
