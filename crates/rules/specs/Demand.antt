-- Demand 3 (00): one statement over a plan's bytes and its whole order, none to 64 activities.
use Rattle.std.specs.Prelude.{ℕ, zero, suc, ◌+◌, ◌<◌, ◌≤◌, ◌≡◌, ◌↔◌, ◌≢◌, true, pos, length, get_or, ◌≤ℤ◌}
use mathlib.Core.List.{List, [], ◌++◌, Memᴰ}
use Rattle.rules.specs.Plan.{Header, Activity, Setting, Plan, Entry, Schedule, at, end, most_activities}
use Rattle.rules.specs.Lines.{lines}
use Rattle.rules.specs.Hold.{holds}
use Rattle.rules.specs.Reading.{accepted, reading}
use Rattle.rules.specs.Load.{load}
use Rattle.rules.specs.MeetsU.{share}
use Rattle.rules.specs.MeetsS.{standing}
use Rattle.rules.specs.MeetsB.{charge, projection}
use Rattle.rules.specs.MeetsV.{total_volume}
use Rattle.rules.specs.Conditions.{condition_count, all_conditions, meets, has, meets_set}
use Rattle.rules.specs.Outcomes.{starts, distance, added, no_activity, activity_at}
use Rattle.rules.specs.RunsRight.{RunsRight}
use Rattle.rules.specs.ProjectionRight.{ProjectionRight}
use Rattle.rules.specs.Report.{outcome_line, end_line, output}
use Rattle.rules.specs.Calls.{full, outcome_values, outcome_call, filling, report_call, starts_call}
use Rattle.rules.specs.declared.Outcome.{Outcome}
use Rattle.rules.specs.declared.Outcome.TheVariants.{Placed, Refused}
use Rattle.rules.specs.declared.Interval.{Interval}
use Rattle.rules.specs.declared.Projection.{Projection}

-- s is a start of a in the plan: s + d is at most T
abbrev pub Start : Header → Activity → ℕ → Type 0
Start h a s = s + a.duration ≤ h.horizon

-- a candidate a beside those placed before it
module _ (h : Header) (before : Schedule) (a : Activity) where
  -- s is a start that meets all nine conditions
  pub record Valid (s : ℕ) : Type 0 where
    pub start : Start h a s
    pub meets_all : (c : ℕ) → c < condition_count → meets h before a c s ≡ true

  -- a is rightly refused with the set m
  pub record RefusedWith (m : ℕ) : Type 0 where
    pub small : m ≤ all_conditions
    -- "The conditions named in a refusal have no start in common"
    pub none : (s : ℕ) → Start h a s → ((c : ℕ) → c < condition_count → has m c ≡ true → meets h before a c s ≡ true) → ⊥
    -- "leaving out any one of them gives a start that meets the rest"
    pub least : (b : ℕ) → b < condition_count → has m b ≡ true → (s : ℕ) × Start h a s × ((c : ℕ) → c < condition_count → has m c ≡ true → c ≢ b → meets h before a c s ≡ true)
    -- "goes through W D U S E P B V H in turn, dropping a letter when the others kept have no start in common" (01): at letter b's turn those kept are the earlier letters of m and all the later ones
    pub turn : (b : ℕ) → b < condition_count → (has m b ≡ true) ↔ ((s : ℕ) × Start h a s × ((c : ℕ) → c < condition_count → c ≢ b → (c < b → has m c ≡ true) → meets h before a c s ≡ true))

  -- a is rightly placed at s
  pub record PlacedAt (s : ℕ) : Type 0 where
    pub valid : Valid s
    -- "no other valid start is nearer its preferred tick", where "nearer" means by `distance` (02, [2])
    pub nearest : (r : ℕ) → Valid r → distance a s ≤ distance a r
    -- "of two equally near it has the earlier"; "Ties go to the earlier start" (02, [2])
    pub earlier : (r : ℕ) → Valid r → distance a r ≡ distance a s → s ≤ r

  -- o is the right answer
  pub record Right (o : Outcome) : Type 0 where
    -- "refused exactly when no start in the plan meets all nine conditions beside those placed before it"
    pub exactly : ((m : ℕ) × (o ≡ Refused m)) ↔ ((s : ℕ) → Valid s → ⊥)
    pub refused : (m : ℕ) → o ≡ Refused m → RefusedWith m
    pub placed : (s : ℕ) → o ≡ Placed s → PlacedAt s

-- the i-th entry of a schedule
abbrev pub nth : Schedule → ℕ → Entry
nth ps i = get_or ps i (at no_activity 0)

-- "charge c is at least the floor at ticks 0 to T, and at least the handover charge at T" (01, B)
pub record ChargeKept (h : Header) (ps : Schedule) : Type 0 where
  pub floor : (t : ℕ) → t ≤ h.horizon → pos h.floor ≤ℤ charge h ps t
  pub handover : pos h.handover ≤ℤ charge h ps h.horizon

-- "The finished schedule breaks no limit of the plan at any tick"
pub record Limits (h : Header) (ps : Schedule) : Type 0 where
  -- each ends by the horizon
  pub in_time : (i : ℕ) → i < length ps → end (nth ps i) ≤ h.horizon
  -- no two that share a unit hold one tick
  pub units : (i j t : ℕ) → i < j → j < length ps → share (nth ps i) (nth ps j) ≡ true → holds t (nth ps i) ≡ true → holds t (nth ps j) ≡ true → ⊥
  -- every need is met in each tick that the needing activity holds
  pub needs : (i t : ℕ) → i < length ps → holds t (nth ps i) ≡ true → (n : Setting) → Memᴰ n (nth ps i).activity.needs → (standing ps n.variable t).value ≡ n.value
  pub engines : (t : ℕ) → t < h.horizon → load (λ a. a.engines) ps t ≤ h.engines
  pub peaks : (t : ℕ) → t < h.horizon → load (λ a. a.peak) ps t ≤ h.peak
  pub charge : ChargeKept h ps
  pub volume : total_volume ps ≤ h.volume

-- the schedule of those that the answers place at the first k places, each at its start
abbrev pub placed_by : Plan → (ℕ → Outcome) → ℕ → Schedule
placed_by p answers zero = []
placed_by p answers (suc k) = added (answers k) (activity_at p k) (placed_by p answers k)

-- the lines of the first k places as the answers give them
abbrev pub lines_by : Plan → (ℕ → Outcome) → ℕ → List ℕ
lines_by p answers zero = []
lines_by p answers (suc k) = lines_by p answers k ++ outcome_line (activity_at p k) (answers k)

-- the finished schedule and the report as the answers give them
abbrev pub finished_by : Plan → (ℕ → Outcome) → Schedule
finished_by p answers = placed_by p answers (length p.activities)

abbrev pub report_by : Plan → (ℕ → Outcome) → List ℕ
report_by p answers =
    let n = length p.activities in lines_by p answers n ++ end_line n (finished_by p answers) (projection p.header (finished_by p answers))

-- the answers are right at every place of the plan, and so are the lines of the report that they give
pub record RightAnswers (p : Plan) (answers : ℕ → Outcome) : Type 0 where
  pub few : length p.activities ≤ most_activities
  pub right : (k : ℕ) → k < length p.activities → Right p.header (placed_by p answers k) (activity_at p k) (answers k)
  -- "and so does the line of that place in every report written": its lines are those of the places, then the end line
  pub line_count : length (lines (report_by p answers)) ≡ suc (length p.activities)
  pub line : (k : ℕ) → k < length p.activities → get_or (lines (report_by p answers)) k [] ≡ outcome_line (activity_at p k) (answers k)
  -- the end line has the charge at T of the finished schedule, its lowest charge and the first tick that has it (02, [1])
  pub last : (q : Projection) × ProjectionRight (charge p.header (finished_by p answers)) p.header.horizon q × (get_or (lines (report_by p answers)) (length p.activities) [] ≡ end_line (length p.activities) (finished_by p answers) q)
  -- "The finished schedule breaks no limit of the plan at any tick"
  pub whole : Limits p.header (finished_by p answers)

-- rs are the runs of the starts at place k that meet the set m beside those that the answers place at the places before it
abbrev pub RunsBy : Plan → (ℕ → Outcome) → ℕ → ℕ → List Interval → Type 0
RunsBy p answers k m rs = RunsRight (meets_set (meets p.header (placed_by p answers k) (activity_at p k)) m) (starts p.header (activity_at p k)) rs

pub record Demand3 (s : List ℕ) (p : Plan) : Type 0 where
  -- the outcome at each place
  pub answers : ℕ → Outcome
  pub right : RightAnswers p answers
  -- "the outcome call gives the answer that document 01 lays down"
  pub called : (k : ℕ) → k < length p.activities → outcome_call s k ≡ full (outcome_values (answers k))
  -- every report written is the answers' own, by the report call and by the program
  pub report : (room : ℕ) → report_call s room ≡ filling room (report_by p answers)
  pub printed : output s ≡ report_by p answers
  -- every list of runs written by the starts call is of the starts beside these answers, "at most 2,048" of them (01, Calls)
  pub runs : (k m : ℕ) → k < length p.activities → m ≤ all_conditions → (rs : List Interval) × RunsBy p answers k m rs × (length rs ≤ 2048) × ((room : ℕ) → starts_call s k m room ≡ filling room rs)

-- demand 3: "For every plan that document 01 accepts"
abbrev pub DemandThree : Type 0
DemandThree = (s : List ℕ) (p : Plan) → reading s ≡ accepted p → Demand3 s p
