-- The activity that a line says, by the byte where the line begins: the plan stays in its bytes.
use Rattle.std.specs.Prelude.{ℕ, ◌<◌, ◌≡◌, List, length, take, drop}
use Rattle.rules.specs.Plan.{Header, Activity}
use Rattle.rules.specs.Lines.{split_on}
use Rattle.rules.specs.Fields.{Read, value, fault}
use Rattle.rules.specs.ActivityLine.{activity_of}
use Rattle.rules.specs.Outcomes.{no_activity}
use Rattle.text.specs.Text.{index_of}

-- the line that begins at byte `at`, without its LF
unfoldable pub line_at : List ℕ → ℕ → List ℕ
line_at s at = take (index_of 10 (drop at s)) (drop at s)

unfoldable pub value_in : Read Activity → Activity
value_in (value a) = a
value_in (fault k) = no_activity

-- the activity that it says
unfoldable pub activity_in : Header → List ℕ → ℕ → Activity
activity_in h s at = value_in (activity_of h (split_on 9 (line_at s at)))

-- it says one
pub record LineSays (h : Header) (s : List ℕ) (at : ℕ) : Type 0 where
  pub inside : at < length s
  pub says : activity_of h (split_on 9 (line_at s at)) ≡ value (activity_in h s at)
