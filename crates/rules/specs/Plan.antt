-- The plan: what its file says (01, The plan file). All times are ticks of one minute.
use Rattle.std.specs.Prelude.{ℕ, ◌+◌, List}

-- the first line, after the word `plan`
pub record Header : Type 0 where
  -- T
  pub horizon : ℕ
  -- minute of day at tick 0
  pub minute : ℕ
  pub capacity : ℕ
  pub floor : ℕ
  -- first charge
  pub first : ℕ
  -- charging rate per tick
  pub rate : ℕ
  -- handover charge
  pub handover : ℕ
  pub engines : ℕ
  -- peak limit
  pub peak : ℕ
  -- volume limit
  pub volume : ℕ
  -- heater draw per tick
  pub heater : ℕ

-- `a:p:b`, with its preferred tick p (02, [2])
pub record Window : Type 0 where
  pub from : ℕ
  pub preferred : ℕ
  pub to : ℕ

-- `v=k`, a need or a set
pub record Setting : Type 0 where
  pub variable : ℕ
  pub value : ℕ

-- every other line, after the word `act`
pub record Activity : Type 0 where
  pub id : ℕ
  pub priority : ℕ
  pub duration : ℕ
  pub preferred : ℕ
  pub windows : List Window
  pub after : List ℕ
  pub units : List ℕ
  pub needs : List Setting
  pub sets : List Setting
  pub engines : ℕ
  pub peak : ℕ
  pub draw : ℕ
  pub volume : ℕ
  pub warm : ℕ

-- "None to 64 activities"
abbrev pub most_activities : ℕ
most_activities = 64

-- the activities in the order of their lines
pub record Plan : Type 0 where
  pub header : Header
  pub activities : List Activity

-- an entry of a schedule: an activity at its start
pub record Entry : Type 0 where
  pub activity : Activity
  pub start : ℕ

-- a schedule, the entry of the latest place first: with a candidate added, the candidate comes first
abbrev pub Schedule : Type 0
Schedule = List Entry

abbrev pub at : Activity → ℕ → Entry
at a s = record { activity = a; start = s }

-- "its end is s + d"
abbrev pub end : Entry → ℕ
end e = e.start + e.activity.duration
