-- The calls' definitions at each end that the code comes to.
-- Assumes nothing.
use Prim.Native.Nat.{ℕ, ◌<◌, ◌≤◌}
use mathlib.Core.Path.{◌≡◌, sym, ap, ◌∙◌}
use mathlib.Core.List.{List}
use lib.ListN.{length}
use borrow.Author.Tests.{le-leb, lt-leb, lt-ltb, le-ltb}
use Rattle.rules.specs.Conditions.{all_conditions}
use Rattle.std.specs.Prelude.{Ok, Err}
use Rattle.rules.specs.Refusals.{number_of, Refusal}
use Rattle.rules.specs.declared.Outcome.{Outcome}
use Rattle.rules.specs.declared.Refusal.{Refusal as RefusalStruct}
use Rattle.rules.specs.Reading.{refused, reading}
use Rattle.rules.specs.Outcomes.{outcome}
use Rattle.rules.specs.Report.{report, no_line, answer_to, output}
use Rattle.rules.specs.Calls.{refusal, full, outcome_values, outcome_terms, refusing, filling, outcome_of, outcome_call, report_of, report_call, runs, starts_of, starts_call}
use Rattle.rules.proofs.Ordered.{same_outcome, same_count, same_report, same_runs}
use Rattle.plan.specs.View.{plan_view}
use Rattle.plan.specs.declared.Plan.{Plan as PlanStruct}
use Rattle.plan.proofs.Accepted.{AcceptedAs}
use Rattle.calls.specs.Called.{OutcomeCalled}

-- the bytes are refused
module _ (s : List ℕ) (q : Refusal) (e : reading s ≡ refused q) where
  pub outcome_refused : (place : ℕ) → outcome_call s place ≡ refusal q.number q.line
  unfolding outcome_call outcome_of
  outcome_refused place = rw e

  pub report_refused : (room : ℕ) → report_call s room ≡ refusing q.number q.line
  unfolding report_call report_of
  report_refused room = rw e

  pub starts_refused : (place m room : ℕ) → starts_call s place m room ≡ refusing q.number q.line
  unfolding starts_call starts_of
  starts_refused place m room = rw e

  pub output_refused : output s ≡ no_line q
  unfolding output answer_to
  output_refused = rw e

-- they are accepted as the plan that p holds
module _ (s : List ℕ) (p : PlanStruct) (A : AcceptedAs s (plan_view p)) where
  count_is : length (plan_view p).activities ≡ length A.plan.activities
  count_is = ap (λ q. length q.activities) A.view ∙ same_count A.plan

  pub outcome_beyond : (place : ℕ) → length (plan_view p).activities ≤ place → outcome_call s place ≡ refusal 11 0
  unfolding outcome_call outcome_of
  outcome_beyond place h = rw (A.read, ← count_is, le-leb _ _ h)

  pub outcome_answered : (place : ℕ) → place < length (plan_view p).activities → outcome_call s place ≡ full (outcome_values (outcome (plan_view p) place))
  unfolding outcome_call outcome_of
  outcome_answered place h = rw (A.read, ← count_is, lt-leb _ _ h, A.view, same_outcome A.plan place)

  pub report_answered : (room : ℕ) → report_call s room ≡ filling room (report (plan_view p))
  unfolding report_call report_of
  report_answered room = rw (A.read, A.view, same_report A.plan)

  pub output_answered : output s ≡ report (plan_view p)
  unfolding output answer_to
  output_answered = rw (A.read, A.view, same_report A.plan)

  pub starts_beyond : (place m room : ℕ) → length (plan_view p).activities ≤ place → starts_call s place m room ≡ refusing 11 0
  unfolding starts_call starts_of
  starts_beyond place m room h = rw (A.read, ← count_is, le-leb _ _ h)

  pub starts_no_set : (place m room : ℕ) → place < length (plan_view p).activities → all_conditions < m → starts_call s place m room ≡ refusing 12 0
  unfolding starts_call starts_of
  starts_no_set place m room h l = rw (A.read, ← count_is, lt-leb _ _ h, lt-ltb _ _ l)

  pub starts_answered : (place m room : ℕ) → place < length (plan_view p).activities → m ≤ all_conditions → starts_call s place m room ≡ filling room (runs (plan_view p) place m)
  unfolding starts_call starts_of
  starts_answered place m room h l = rw (A.read, ← count_is, lt-leb _ _ h, le-ltb _ _ l, A.view, same_runs A.plan place m)

-- ---- an answer of outcome
pub outcome_err : (s : List ℕ) (q : RefusalStruct) (place : ℕ) → outcome_call s place ≡ refusal (number_of q.fault) q.line → OutcomeCalled s place (Err q)
unfolding outcome_terms
outcome_err s q place e = sym e

pub outcome_ok : (s : List ℕ) (o : Outcome) (place : ℕ) → outcome_call s place ≡ full (outcome_values o) → OutcomeCalled s place (Ok o)
unfolding outcome_terms
outcome_ok s o place e = sym e
