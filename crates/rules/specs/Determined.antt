-- The facts determine the scheduling order, the runs, the charge projection, the answer to an activity, and what is read of a file: they hold of these and of nothing else. Whoever reads the facts (OrderRight, RunsRight, ProjectionRight, ChargeKept, DistanceRight, Right, TextOf, Fault) need not read Order, Runs, the projection in MeetsB (from `further` on), the distance in Outcomes (`preferred_at` and `distance`), Answer, HeaderLine, ActivityLine and Reading, which say how these are found.
use Rattle.std.specs.Prelude.{ℕ, ◌<◌, ◌≤◌, ◌≡◌, ◌↔◌, ◌⊎◌, Bool, true, List, [], ◌∷◌, ℤ, pos, ◌<ℤ◌, length}
use Rattle.rules.specs.Plan.{Header, Activity, Plan, Schedule, at}
use Rattle.rules.specs.Order.{order}
use Rattle.rules.specs.OrderRight.{OrderRight}
use Rattle.rules.specs.Runs.{runs_from}
use Rattle.rules.specs.RunsRight.{RunsRight}
use Rattle.rules.specs.MeetsB.{charge, projected, charge_kept, meets_b}
use Rattle.rules.specs.ProjectionRight.{ProjectionRight}
use Rattle.rules.specs.Outcomes.{distance, reply}
use Rattle.rules.specs.DistanceRight.{DistanceRight}
use Rattle.rules.specs.Reading.{accepted, no, out_of_reach, reading}
use Rattle.rules.specs.Print.{plan_text}
use Rattle.rules.specs.WellFormed.{ActivityFormed, WellFormed, Reachable}
use Rattle.rules.specs.Faults.{Fault}
use Rattle.rules.specs.Demand.{Valid, Right, ChargeKept, RightAnswers, placed_by, report_by}
use Rattle.rules.specs.declared.Outcome.{Outcome}
use Rattle.rules.specs.declared.Interval.{Interval}
use Rattle.rules.specs.declared.Projection.{Projection}

-- the scheduling order of the activities xs is determined by the facts
pub record OrderDetermined (xs : List Activity) : Type 0 where
  -- it is ys exactly when the facts hold of ys
  pub exactly : (ys : List Activity) → (order xs ≡ ys) ↔ OrderRight xs ys
  -- they hold of no two lists
  pub same : (ys zs : List Activity) → OrderRight xs ys → OrderRight xs zs → ys ≡ zs

-- so are the runs of the starts that pass, of the n starts from 0 on
pub record RunsDetermined (pass : ℕ → Bool) (n : ℕ) : Type 0 where
  pub exactly : (rs : List Interval) → (runs_from pass 0 n ≡ rs) ↔ RunsRight pass n rs
  pub same : (rs qs : List Interval) → RunsRight pass n rs → RunsRight pass n qs → rs ≡ qs

-- so is the projection of the charges c at ticks 0 to n
pub record ProjectionDetermined (c : ℕ → ℤ) (n : ℕ) : Type 0 where
  pub exactly : (p : Projection) → (projected c n ≡ p) ↔ ProjectionRight c n p
  pub same : (p other : Projection) → ProjectionRight c n p → ProjectionRight c n other → p ≡ other

-- what is judged by a projection is what 01 says of the charge: B with the candidate added, the finished schedule, and 9 with nothing placed
pub record ProjectionJudged (h : Header) : Type 0 where
  pub candidate : (placed : Schedule) (a : Activity) (s : ℕ) → (meets_b h placed a s ≡ true) ↔ ChargeKept h (at a s ∷ placed)
  pub whole : (placed : Schedule) → (charge_kept h placed ≡ true) ↔ ChargeKept h placed
  pub reach : (out_of_reach h ≡ true) ↔ (charge h [] h.horizon <ℤ pos h.handover)

-- the distance is right, and every distance that is right is the same at every valid start: that of a start in no window, which the facts leave open, matters to no answer
pub record DistanceDetermined (h : Header) (a : Activity) : Type 0 where
  pub right : DistanceRight a (distance a)
  pub same : (before : Schedule) (d : ℕ → ℕ) → DistanceRight a d → (s : ℕ) → Valid h before a s → d s ≡ distance a s

-- so is the answer to the activity a beside a schedule
pub record AnswerDetermined (h : Header) (before : Schedule) (a : Activity) : Type 0 where
  pub exactly : (o : Outcome) → (reply h before a ≡ o) ↔ Right h before a o
  pub same : (o other : Outcome) → Right h before a o → Right h before a other → o ≡ other

-- two series of answers are the same at every place of the plan, and so are the schedules and the report that they give
pub record SameAnswers (p : Plan) (answers others : ℕ → Outcome) : Type 0 where
  pub answer : (k : ℕ) → k < length p.activities → answers k ≡ others k
  pub schedule : (k : ℕ) → k ≤ length p.activities → placed_by p answers k ≡ placed_by p others k
  pub report : report_by p answers ≡ report_by p others

-- the file s is the text of the plan p, which is well formed and whose handover charge can be reached
abbrev pub TextOf : List ℕ → Plan → Type 0
TextOf s p = WellFormed p × Reachable p × (plan_text p ≡ s)

-- what is read of a file is determined by the facts
pub record FileDetermined (s : List ℕ) : Type 0 where
  -- it is accepted as the plan p exactly when it is the text of p
  pub accepts : (p : Plan) → (reading s ≡ accepted p) ↔ TextOf s p
  -- it is refused with number k at line n exactly when it has that fault
  pub refuses : (k n : ℕ) → (reading s ≡ no k n) ↔ Fault s k n
  -- every file is a plan's text or has a fault, and none is both
  pub either : ((p : Plan) × TextOf s p) ⊎ ((k : ℕ) × (n : ℕ) × Fault s k n)
  pub not_both : (p : Plan) (k n : ℕ) → TextOf s p → Fault s k n → ⊥
  -- no file is the text of two plans, nor has it two faults
  pub plan : (p other : Plan) → TextOf s p → TextOf s other → p ≡ other
  pub fault : (k n j m : ℕ) → Fault s k n → Fault s j m → (k ≡ j) × (n ≡ m)

pub record Determined : Type 0 where
  pub order : (xs : List Activity) → OrderDetermined xs
  pub runs : (pass : ℕ → Bool) (n : ℕ) → RunsDetermined pass n
  pub projection : (c : ℕ → ℤ) (n : ℕ) → ProjectionDetermined c n
  pub judged : (h : Header) → ProjectionJudged h
  pub distance : (h : Header) (a : Activity) → ActivityFormed h a → DistanceDetermined h a
  pub answer : (h : Header) (before : Schedule) (a : Activity) → AnswerDetermined h before a
  -- two series of answers to a plan, right at every place, are the same
  pub answers : (p : Plan) (answers others : ℕ → Outcome) → RightAnswers p answers → RightAnswers p others → SameAnswers p answers others
  pub file : (s : List ℕ) → FileDetermined s
