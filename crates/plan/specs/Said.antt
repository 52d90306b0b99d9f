-- What the lines of a plan say, by its header and its bytes; a plan with its activities by place.
use Rattle.std.specs.Prelude.{ℕ, ◌≡◌, List, map}
use Rattle.std.specs.List.{All}
use Rattle.rules.specs.Plan.{Header, Activity, Plan}
use Rattle.rules.specs.Ordered.{ordered}
use Rattle.rules.specs.Reading.{Reading, accepted, refused}
use Rattle.plan.specs.LineAt.{activity_in, LineSays}
use Rattle.order.specs.declared.Line.{Line}

-- the activity that a line says
abbrev pub said_by : Header → List ℕ → Line → Activity
said_by h s l = activity_in h s l.at

-- it is a line of s and says an activity, of this id and this priority
pub record LineIn (h : Header) (s : List ℕ) (l : Line) : Type 0 where
  pub says : LineSays h s l.at
  pub id_is : l.id ≡ (said_by h s l).id
  pub priority_is : l.priority ≡ (said_by h s l).priority

abbrev pub LinesIn : Header → List ℕ → List Line → Type 0
LinesIn h s lines = All (LineIn h s) lines

-- the plan that lines say, in their order
abbrev pub plan_of : Header → List ℕ → List Line → Plan
plan_of h s lines = record { header = h; activities = map (said_by h s) lines }

-- a plan with its activities in the scheduling order
unfoldable pub in_order : Reading → Reading
in_order (accepted p) = accepted (ordered p)
in_order (refused r) = refused r
