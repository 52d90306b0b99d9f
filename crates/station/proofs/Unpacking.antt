-- Unpacking gives every answer of the calls back, by the sizes of what it can hold.
use Prim.Native.Nat.{ℕ, ◌<◌, ◌≤◌}
use mathlib.Core.Path.{◌≡◌, refl, sym, ◌∙◌, ap, subst}
use mathlib.Core.Logic.{◌≢◌}
use mathlib.Core.List.{List, [], ◌∷◌}
use native.Mathlib.Omega.{arith}
use lib.Dec.{leb, ltb}
use lib.ListN.{length}
use borrow.Author.Tests.{ne_eqb, ltb-true, ltb-false, leb-false}
use Rattle.rules.specs.Plan.{Activity, Plan, Schedule}
use Rattle.rules.specs.Reading.{Reading, accepted, refused, reading}
use Rattle.rules.specs.WellFormed.{WellFormed}
use Rattle.rules.specs.Calls.{Terms, refusal, full, outcome_values, Filled, refusing, outcome_of, outcome_call, report_call, starts_call}
use Rattle.rules.specs.Demand.{Right, Demand3}
use Rattle.rules.specs.declared.Outcome.{Outcome}
use Rattle.rules.specs.declared.Outcome.TheVariants.{Placed, Refused}
use Rattle.rules.proofs.Accepted.{accepted_formed}
use Rattle.rules.proofs.Demand.{demand3}
use Rattle.rules.proofs.Says.{either_way}
use Rattle.calls.proofs.Running.{too_long, fitting}
use Rattle.packing.specs.Packing.{packed, line_in, start_in, conditions_in, written_in, outcome_in, count_in}
use Rattle.packing.proofs.Parts.{refusal_refusal, refusal_value, refusal_bits, outcome_refusal, outcome_value, outcome_mark, outcome_bits, count_refusal, count_value, count_bits, no_mark}
use Rattle.station.specs.Unpacking.{report_most, runs_most, OutcomeUnpacked, CountUnpacked, Unpacking}
use Rattle.station.proofs.Sizes.{refusal_small, AnswersAs, refuses, fills, report_as, starts_as}

-- ---- an answer unpacked
refusal_outcome : (k n : ℕ) → 1 ≤ k → k < 256 → n < 4294967296 → OutcomeUnpacked (refusal k n) (packed (refusal k n))
unfolding outcome_in line_in
refusal_outcome k n f h l =
    record {
      answer = rw (refusal_refusal k n h l, ne_eqb k 0 (λ e. omega arith), refusal_value k n h l);
      refusal = refusal_refusal k n h l;
      line = rw (refusal_refusal k n h l, ne_eqb k 0 (λ e. omega arith), refusal_value k n h l);
      unmarked = λ _. no_mark _ (refusal_bits k n h l);
      bits = omega (arith, refusal_bits k n h l);
    }

placed_outcome : (s : ℕ) → s < 4294967296 → OutcomeUnpacked (full (1 ∷ s ∷ [])) (packed (full (1 ∷ s ∷ [])))
unfolding outcome_in start_in line_in
placed_outcome s h =
    record {
      answer = rw (outcome_refusal 1 s (omega arith) h, outcome_mark 1 s (omega arith) h, outcome_value 1 s (omega arith) h);
      refusal = outcome_refusal 1 s (omega arith) h;
      line = rw (outcome_refusal 1 s (omega arith) h);
      unmarked = λ f. absurd (f (outcome_refusal 1 s (omega arith) h));
      bits = outcome_bits 1 s (omega arith) h;
    }

refused_outcome : (m : ℕ) → m < 4294967296 → OutcomeUnpacked (full (0 ∷ m ∷ [])) (packed (full (0 ∷ m ∷ [])))
unfolding outcome_in conditions_in line_in
refused_outcome m h =
    record {
      answer = rw (outcome_refusal 0 m (omega arith) h, outcome_mark 0 m (omega arith) h, outcome_value 0 m (omega arith) h);
      refusal = outcome_refusal 0 m (omega arith) h;
      line = rw (outcome_refusal 0 m (omega arith) h);
      unmarked = λ f. absurd (f (outcome_refusal 0 m (omega arith) h));
      bits = outcome_bits 0 m (omega arith) h;
    }

refusal_count : {A : Type 0} (k n : ℕ) → 1 ≤ k → k < 256 → n < 4294967296 → CountUnpacked {A = A} (refusing k n) (packed (refusal k n))
unfolding count_in line_in written_in
refusal_count k n f h l =
    record {
      answer = rw (refusal_refusal k n h l, ne_eqb k 0 (λ e. omega arith), refusal_value k n h l);
      refusal = refusal_refusal k n h l;
      line = rw (refusal_refusal k n h l, ne_eqb k 0 (λ e. omega arith), refusal_value k n h l);
      written = rw (refusal_refusal k n h l, ne_eqb k 0 (λ e. omega arith)) refl;
      bits = refusal_bits k n h l;
    }

full_count : {A : Type 0} (xs : List A) → length xs < 4294967296 → CountUnpacked (record { terms = full (length xs ∷ []); written = xs }) (packed (full (length xs ∷ [])))
unfolding count_in written_in line_in
full_count xs h =
    record {
      answer = rw (count_refusal (length xs) h, count_value (length xs) h);
      refusal = count_refusal (length xs) h;
      line = rw (count_refusal (length xs) h);
      written = rw (count_refusal (length xs) h, count_value (length xs) h) refl;
      bits = count_bits (length xs) h;
    }

-- ---- over what is read
outcome_as : (t u : Terms) → t ≡ u → OutcomeUnpacked u (packed u) → OutcomeUnpacked t (packed t)
outcome_as t u e U = rw e U

count_as : {A : Type 0} (f g : Filled A) → f ≡ g → CountUnpacked g (packed g.terms) → CountUnpacked f (packed f.terms)
count_as f g e U = rw e U

-- a start is at most the horizon, a set at most that of all conditions
answer_outcome : (p : Plan) → WellFormed p → (ps : Schedule) (a : Activity) (o : Outcome) → Right p.header ps a o → OutcomeUnpacked (full (outcome_values o)) (packed (full (outcome_values o)))
unfolding outcome_values
answer_outcome p F ps a (Placed s) R = placed_outcome s (omega (arith, (R.placed s refl).valid.start, F.header.horizon))
answer_outcome p F ps a (Refused m) R = refused_outcome m (omega (arith, (R.refused m refl).small))

outcome_of_lem : (s : List ℕ) (x : Reading) → reading s ≡ x → (k : ℕ) → OutcomeUnpacked (outcome_call s k) (packed (outcome_call s k))
outcome_of_lem s (refused q) e k =
    let small = refusal_small s q e in
    outcome_as (outcome_call s k) (refusal q.number q.line) (unfold outcome_call outcome_of in (rw e)) (refusal_outcome _ _ small.0 (omega (arith, small)) (omega (arith, small)))
outcome_of_lem s (accepted p) e k =
    let D : Demand3 s p = demand3 s p e in
    either_way (leb (length p.activities) k)
    (λ h. outcome_as (outcome_call s k) (refusal 11 0) (unfold outcome_call outcome_of in (rw (e, h))) (refusal_outcome 11 0 (omega arith) (omega arith) (omega arith)))
    (λ h. let l = leb-false _ _ h in outcome_as _ _ (D.called k l) (answer_outcome p (accepted_formed s p e).0 _ _ (D.answers k) (D.right.right k l)))

module _ {A : Type 0} (most : ℕ) (small : most < 4294967296) (call : ℕ → Filled A) where
  pub count_of : AnswersAs most call → (room : ℕ) → CountUnpacked (call room) (packed (call room).terms)
  count_of (refuses k n h e) room = count_as _ (refusing k n) (e room) (refusal_count k n h.0 (omega (arith, h.1)) (omega (arith, h.3)))
  count_of (fills xs h e) room =
      either_way (ltb room (length xs))
      (λ l. count_as _ (refusing 10 0) (e room ∙ too_long room xs (ltb-true _ _ l)) (refusal_count 10 0 (omega arith) (omega arith) (omega arith)))
      (λ l. count_as _ _ (e room ∙ fitting room xs (ltb-false _ _ l)) (full_count xs (omega arith)))

  -- with room for as many elements as it can have, an answer is never refused with 10
  enough_room : AnswersAs most call → (room : ℕ) → most ≤ room → (call room).terms.number ≢ 10
  enough_room (refuses k n h e) room l f = h.2 (ap (λ g. g.terms.number) (sym (e room)) ∙ f)
  enough_room (fills xs h e) room l f = let z : ◌≡◌ {A = ℕ} 0 10 = ap (λ g. g.terms.number) (sym (e room ∙ fitting room xs (omega arith))) ∙ f in omega arith

pub unpacking : (s : List ℕ) → Unpacking s
unpacking s =
    record {
      outcome = λ k r e. subst (OutcomeUnpacked (outcome_call s k)) (sym e) (outcome_of_lem s (reading s) refl k);
      report = λ lent after r F. subst (CountUnpacked (report_call s (length lent))) (sym F.answer) (count_of report_most (omega arith) _ (report_as s) (length lent));
      starts = λ k m lent after r F. subst (CountUnpacked (starts_call s k m (length lent))) (sym F.answer) (count_of runs_most (omega arith) _ (starts_as s k m) (length lent));
      report_room = enough_room report_most (omega arith) _ (report_as s);
      starts_room = λ k m. enough_room runs_most (omega arith) _ (starts_as s k m);
    }
