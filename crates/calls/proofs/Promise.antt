-- What the calls return for every byte string meets demand 3.
-- Assumes nothing.
use Prim.Native.Nat.{ℕ}
use mathlib.Core.Path.{◌≡◌, refl, ◌∙◌, ap}
use native.Mathlib.Omega.{arith}
use mathlib.Core.List.{List, [], ◌∷◌, map}
use lib.ListN.{length}
use borrow.Author.Tests.{le-leb, lt-leb, lt-ltb}
use Rattle.rules.specs.Plan.{Plan}
use Rattle.rules.specs.Reading.{accepted, refused, reading}
use Rattle.rules.specs.Report.{no_line, answer_to, output}
use Rattle.rules.specs.Calls.{refusal, full, outcome_values, outcome_terms, count_terms, Filled, slice_after, refusing, filling, outcome_of, outcome_call, report_of, report_call, starts_of, starts_call}
use Rattle.rules.specs.Demand.{Demand3}
use Rattle.rules.specs.Refusals.{number_of, Refusal, refusal_view}
use Rattle.rules.specs.declared.Outcome.{Outcome}
use Rattle.rules.specs.declared.Outcome.TheVariants.{Placed, Refused}
use Rattle.rules.specs.declared.Refusal.{Refusal as RefusalStruct}
use Rattle.rules.specs.declared.Interval.{Interval}
use Rattle.std.specs.Prelude.{Result, Ok, Err}
use Rattle.rules.proofs.Demand.{demand3}
use Rattle.rules.proofs.Terms.{outcome_terms_differ, count_terms_differ}
use Rattle.calls.specs.Called.{SliceFilled, ColumnsFilled}
use Rattle.calls.specs.Promise.{Refuses, call_refusal, ReportAnswered, Printed, RunsAnswered, StartsRefused, Answered, RefusedAs, Promise}
use Rattle.calls.proofs.Running.{too_long, fitting}

-- an answer that has a refusal's terms is that refusal
told_apart : {X : Type 0} (v : ℕ) (vs : List ℕ) (k n : ℕ) → full (v ∷ vs) ≡ refusal k n → X
told_apart v vs k n e = let f : v ∷ vs ≡ [] = ap (λ t. t.values) e in let z : ◌≡◌ {A = ℕ} 0 1 = cc in absurd (omega arith)

is_refusal : (e : RefusalStruct) (q : Refusal) → refusal (number_of e.fault) e.line ≡ refusal q.number q.line → refusal_view e ≡ q
unfolding refusal_view
is_refusal e q f = λ i. record { number = (f i).number; line = (f i).line }

count_refuses : (r : Result ℕ RefusalStruct) (q : Refusal) → count_terms r ≡ refusal q.number q.line → Refuses r q
unfolding count_terms
count_refuses (Ok n) q f = told_apart n [] _ _ f
count_refuses (Err e) q f = (e, refl, is_refusal e q f)

outcome_refuses : (r : Result Outcome RefusalStruct) (q : Refusal) → outcome_terms r ≡ refusal q.number q.line → Refuses r q
unfolding outcome_terms outcome_values
outcome_refuses (Ok (Placed s)) q f = told_apart 1 (s ∷ []) _ _ f
outcome_refuses (Ok (Refused m)) q f = told_apart 0 (m ∷ []) _ _ f
outcome_refuses (Err e) q f = (e, refl, is_refusal e q f)

-- a slice filled with a result or left as it was, by what the call's definition says
filled_with : (f : Filled ℕ) (xs lent after : List ℕ) (r : Result ℕ RefusalStruct) → SliceFilled f lent r after → f ≡ record { terms = full (length xs ∷ []); written = xs } → (r ≡ Ok (length xs)) × (after ≡ slice_after xs lent)
unfolding count_terms
filled_with f xs lent after r F e = (count_terms_differ r (Ok (length xs)) (F.answer ∙ ap (λ g. g.terms) e), F.slice ∙ ap (λ g. slice_after g.written lent) e)

left_alone : (f : Filled ℕ) (q : Refusal) (lent after : List ℕ) (r : Result ℕ RefusalStruct) → SliceFilled f lent r after → f ≡ refusing q.number q.line → Refuses r q × (after ≡ lent)
unfolding count_terms slice_after
left_alone f q lent after r F e = (count_refuses r q (F.answer ∙ ap (λ g. g.terms) e), F.slice ∙ ap (λ g. slice_after g.written lent) e)

columns_with : (f : Filled Interval) (xs : List Interval) (lf ll firsts lasts : List ℕ) (r : Result ℕ RefusalStruct) → ColumnsFilled f lf ll r firsts lasts → f ≡ record { terms = full (length xs ∷ []); written = xs } → (r ≡ Ok (length xs)) × (firsts ≡ slice_after (map (λ run. run.first) xs) lf) × (lasts ≡ slice_after (map (λ run. run.last) xs) ll)
unfolding count_terms
columns_with f xs lf ll firsts lasts r F e = (count_terms_differ r (Ok (length xs)) (F.answer ∙ ap (λ g. g.terms) e), F.firsts_filled ∙ ap (λ g. slice_after (map (λ run. run.first) g.written) lf) e, F.lasts_filled ∙ ap (λ g. slice_after (map (λ run. run.last) g.written) ll) e)

columns_alone : (f : Filled Interval) (q : Refusal) (lf ll firsts lasts : List ℕ) (r : Result ℕ RefusalStruct) → ColumnsFilled f lf ll r firsts lasts → f ≡ refusing q.number q.line → Refuses r q × (firsts ≡ lf) × (lasts ≡ ll)
unfolding count_terms slice_after
columns_alone f q lf ll firsts lasts r F e = (count_refuses r q (F.answer ∙ ap (λ g. g.terms) e), F.firsts_filled ∙ ap (λ g. slice_after (map (λ run. run.first) g.written) lf) e, F.lasts_filled ∙ ap (λ g. slice_after (map (λ run. run.last) g.written) ll) e)

report_answered : (s text : List ℕ) → ((room : ℕ) → report_call s room ≡ filling room text) → ReportAnswered s text
report_answered s text e =
    record {
      written = λ lent after r F h. filled_with _ text lent after r F (e (length lent) ∙ fitting _ _ h);
      short = λ lent after r F h. left_alone _ (call_refusal 10) lent after r F (e (length lent) ∙ too_long _ _ h);
    }

printed_as : (s text : List ℕ) → output s ≡ text → Printed s text
printed_as s text e r F = F ∙ e

runs_answered : (s : List ℕ) (k m : ℕ) (rs : List Interval) → ((room : ℕ) → starts_call s k m room ≡ filling room rs) → RunsAnswered s k m rs
runs_answered s k m rs e =
    record {
      written = λ lf ll firsts lasts r F h. columns_with _ rs lf ll firsts lasts r F (e _ ∙ fitting _ _ h);
      short = λ lf ll firsts lasts r F h. columns_alone _ (call_refusal 10) lf ll firsts lasts r F (e _ ∙ too_long _ _ h);
    }

starts_refused : (s : List ℕ) (k m : ℕ) (q : Refusal) → ((room : ℕ) → starts_call s k m room ≡ refusing q.number q.line) → StartsRefused s k m q
starts_refused s k m q e lf ll firsts lasts r F = columns_alone _ q lf ll firsts lasts r F (e _)

answered : (s : List ℕ) (p : Plan) → reading s ≡ accepted p → Answered s p
unfolding outcome_terms outcome_call outcome_of starts_call starts_of
answered s p e =
    let D : Demand3 s p = demand3 s p e in
    record {
      answers = D.answers;
      right = D.right;
      outcome = λ k r a h. outcome_terms_differ r (Ok (D.answers k)) (a ∙ D.called k h);
      beyond = λ k r a h. outcome_refuses r (call_refusal 11) (a ∙ rw (e, le-leb _ _ h));
      report = report_answered s _ D.report;
      printed = printed_as s _ D.printed;
      runs = λ k m h l. let R = D.runs k m h l in (R.0, R.1, R.2, runs_answered s k m R.0 R.3);
      no_place = λ k m h. starts_refused s k m (call_refusal 11) (λ room. rw (e, le-leb _ _ h));
      no_set = λ k m h l. starts_refused s k m (call_refusal 12) (λ room. rw (e, lt-leb _ _ h, lt-ltb _ _ l));
    }

refused_all : (s : List ℕ) (q : Refusal) → reading s ≡ refused q → RefusedAs s q
unfolding outcome_terms outcome_call outcome_of report_call report_of starts_call starts_of output answer_to
refused_all s q e =
    record {
      outcome = λ k r a. outcome_refuses r q (a ∙ rw e);
      report = λ lent after r F. left_alone _ q lent after r F (rw e);
      starts = λ k m. starts_refused s k m q (λ room. rw e);
      printed = printed_as s (no_line q) (rw e);
    }

pub promise : (s : List ℕ) → Promise s
promise s = record { accepted_as = answered s; refused_as = refused_all s }
