-- The facts determine the order, the runs, the answers and what is read.
-- Assumes nothing.
use Prim.Native.Nat.{ℕ}
use mathlib.Core.Path.{◌≡◌, refl, sym, ◌∙◌, ap}
use mathlib.Core.Logic.{◌⊎◌, inl, inr}
use mathlib.Core.Bool.{Bool}
use mathlib.Core.List.{List}
use Rattle.rules.specs.Plan.{Header, Activity, Plan, Schedule}
use Rattle.rules.specs.Reading.{Reading, accepted, refused, reading}
use Rattle.rules.specs.Faults.{Fault}
use Rattle.rules.specs.Determined.{OrderDetermined, RunsDetermined, AnswerDetermined, TextOf, FileDetermined, Determined}
use Rattle.rules.specs.Refusals.{Refusal}
use Rattle.rules.proofs.Order.{order_right}
use Rattle.rules.proofs.SameOrder.{order_same}
use Rattle.rules.proofs.Runs.{runs_right}
use Rattle.rules.proofs.SameRuns.{runs_same}
use Rattle.rules.proofs.Answers.{replied}
use Rattle.rules.proofs.PlanBack.{read_printed}
use Rattle.rules.proofs.Accepted.{refused_fault, accepted_text_lem}
use Rattle.rules.proofs.Acceptance.{refused_not_printed}
use Rattle.rules.proofs.FaultRefused.{fault_refused}
use Rattle.rules.proofs.SameAnswers.{same_answer, same_answers}
use Rattle.rules.proofs.Projecting.{projection_determined, projection_judged}
use Rattle.rules.proofs.Distance.{distance_determined}

order_determined : (xs : List Activity) → OrderDetermined xs
order_determined xs = record { exactly = λ ys. (λ e. rw (← e) (order_right xs), order_same xs _ ys (order_right xs)); same = order_same xs }

runs_determined : (pass : ℕ → Bool) (n : ℕ) → RunsDetermined pass n
runs_determined pass n = record { exactly = λ rs. (λ e. rw (← e) (runs_right pass n), runs_same pass n _ rs (runs_right pass n)); same = runs_same pass n }

answer_determined : (h : Header) (before : Schedule) (a : Activity) → AnswerDetermined h before a
answer_determined h before a = record { exactly = λ o. (λ e. rw (← e) (replied h before a), same_answer h before a _ o (replied h before a)); same = same_answer h before a }

same_plan : {p other : Plan} → accepted p ≡ accepted other → p ≡ other
same_plan e = cc

same_refusal : {r other : Refusal} → refused r ≡ refused other → r ≡ other
same_refusal e = cc

module _ (s : List ℕ) where
  read_text : (p : Plan) → TextOf s p → reading s ≡ accepted p
  read_text p t = ap reading (sym t.2) ∙ read_printed p t.0 t.1

  one_or_other : (r : Reading) → reading s ≡ r → ((p : Plan) × TextOf s p) ⊎ ((k : ℕ) × (n : ℕ) × Fault s k n)
  one_or_other (accepted p) e = inl (p, accepted_text_lem s p e)
  one_or_other (refused r) e = inr (r.number, r.line, refused_fault s r.number r.line e)

  one_fault : (k n j m : ℕ) → Fault s k n → Fault s j m → (k ≡ j) × (n ≡ m)
  one_fault k n j m f g =
      let e = same_refusal (sym (fault_refused s k n f) ∙ fault_refused s j m g) in
      (ap (λ (r : Refusal). r.number) e, ap (λ (r : Refusal). r.line) e)

  pub file_determined : FileDetermined s
  file_determined =
      record {
        accepts = λ p. (accepted_text_lem s p, read_text p);
        refuses = λ k n. (refused_fault s k n, fault_refused s k n);
        either = one_or_other (reading s) refl;
        not_both = λ p k n t f. refused_not_printed s _ (fault_refused s k n f) p t.0 t.1 t.2;
        plan = λ p other t u. same_plan (sym (read_text p t) ∙ read_text other u);
        fault = one_fault;
      }

pub determined : Determined
determined = record { order = order_determined; runs = runs_determined; projection = projection_determined; judged = projection_judged; distance = distance_determined; answer = answer_determined; answers = same_answers; file = file_determined }
