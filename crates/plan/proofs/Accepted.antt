-- What the reader answers: the refusal that the definition reads, or its plan with the activities by place, which can be placed.
-- Assumes nothing.
use Rattle.std.proofs.Common.{◌≡◌, ℕ, List, Result, Ok, Err, refl, sym}
use Rattle.rules.specs.Plan.{Plan}
use Rattle.rules.specs.Order.{order}
use Rattle.rules.specs.Ordered.{ordered}
use Rattle.rules.specs.Outcomes.{no_activity, activity_at}
use Rattle.rules.specs.Reading.{Reading, accepted, refused, reading}
use Rattle.rules.specs.Refusals.{refusal_view}
use Rattle.rules.specs.WellFormed.{WellFormed, Reachable}
use Rattle.rules.specs.declared.Refusal.{Refusal}
use Rattle.rules.proofs.Accepted.{accepted_formed}
use Rattle.rules.proofs.ListAt.{at_mem}
use Rattle.rules.proofs.Order.{order_length}
use Rattle.rules.proofs.Ordered.{order_again}
use Rattle.rules.proofs.PlaceFacts.{order_mem}
use Rattle.plan.specs.Said.{in_order}
use Rattle.plan.specs.View.{plan_view}
use Rattle.plan.specs.Placeable.{Placeable}
use Rattle.plan.specs.Reading.{reading_view}
use Rattle.plan.specs.declared.Plan.{Plan as PlanStruct}

-- the bytes s are accepted as a plan that is q in the scheduling order
pub record AcceptedAs (s : List ℕ) (q : Plan) : Type 0 where
  pub plan : Plan
  pub read : reading s ≡ accepted plan
  pub view : q ≡ ordered plan

accepted_as : (s : List ℕ) (q : Plan) → accepted q ≡ in_order (reading s) → AcceptedAs s q
unfolding in_order
accepted_as s q e = go (reading s) refl e
  where
    go : (r : Reading) → reading s ≡ r → accepted q ≡ in_order r → AcceptedAs s q
    go (accepted p) e f = record { plan = p; read = e; view = cc }
    go (refused r) e f = cc

-- so it can be placed
pub accepted_placeable : (s : List ℕ) (q : Plan) → in_order (reading s) ≡ accepted q → Placeable q
unfolding activity_at
accepted_placeable s q e =
    let A = accepted_as s q (sym e) in
    let F : WellFormed A.plan × Reachable A.plan = accepted_formed s A.plan A.read in
    rw A.view
    (record {
      few = rw order_length F.0.few;
      header = F.0.header;
      each = λ k h. rw order_again (F.0.each _ (order_mem A.plan.activities (at_mem no_activity (order A.plan.activities) k h)));
      ordered = order_again A.plan.activities;
      reachable = F.1;
    })

-- what the answer r says of the bytes s
abbrev pub ReadAs : List ℕ → Result PlanStruct Refusal → Type 0
ReadAs s (Ok q) = AcceptedAs s (plan_view q)
ReadAs s (Err r) = reading s ≡ refused (refusal_view r)

refused_go : (r : Refusal) (x : Reading) → refused (refusal_view r) ≡ in_order x → x ≡ refused (refusal_view r)
unfolding in_order
refused_go r (accepted p) e = cc
refused_go r (refused q) e = sym e

pub read_as : (s : List ℕ) (r : Result PlanStruct Refusal) → reading_view r ≡ in_order (reading s) → ReadAs s r
unfolding reading_view
read_as s (Ok q) e = accepted_as s (plan_view q) e
read_as s (Err r) e = refused_go r (reading s) e
