-- Document 01's terms tell any two answers apart; what a lent slice holds after a call.
-- Assumes nothing.
use Prim.Native.Nat.{ℕ, ◌+◌, ◌-◌, ◌<◌, ◌≤◌}
use mathlib.Core.Path.{◌≡◌, refl, sym, ◌∙◌, ap, subst}
use mathlib.Core.List.{List, [], ◌∷◌, ◌++◌}
use native.Mathlib.Omega.{arith}
use lib.ListN.{length, get_or, drop, length-append, length-drop, get_or-append}
use lib.Seq.{get_or-append-add, get_or-drop}
use Rattle.rules.specs.Calls.{Terms, refusal, full, outcome_values, outcome_terms, count_terms, slice_after}
use Rattle.rules.specs.declared.Outcome.{Outcome}
use Rattle.rules.specs.declared.Outcome.TheVariants.{Placed, Refused}
use Rattle.rules.specs.declared.Fault.{Fault}
use Rattle.rules.specs.declared.Fault.TheVariants.{TooLong, NotFormed, Malformed, OutOfRange, TooMany, Repeated, Misplaced, NotRising, OutOfReach, NoRoom, NoPlace, NoSet, OutOfWindow}
use Rattle.rules.specs.declared.Refusal.{Refusal as RefusalStruct}
use Rattle.rules.specs.Refusals.{number_of}
use Rattle.std.specs.Prelude.{Result, Ok, Err, cond, eqb}

-- ---- answers with the same terms are the same
-- a full result has values, and a refusal none
told_apart : {X : Type 0} (v : ℕ) (vs : List ℕ) (k n : ℕ) → full (v ∷ vs) ≡ refusal k n → X
told_apart v vs k n e = let f : v ∷ vs ≡ [] = ap (λ t. t.values) e in let z : ◌≡◌ {A = ℕ} 0 1 = cc in absurd (omega arith)

-- the fault of a number
fault_of : ℕ → Fault
fault_of n =
    cond (eqb n 1) TooLong (cond (eqb n 2) NotFormed (cond (eqb n 3) Malformed (cond (eqb n 4) OutOfRange (cond (eqb n 5) TooMany (cond (eqb n 6) Repeated (cond (eqb n 7) Misplaced (cond (eqb n 8) NotRising (cond (eqb n 9) OutOfReach (cond (eqb n 10) NoRoom (cond (eqb n 11) NoPlace (cond (eqb n 12) NoSet OutOfWindow)))))))))))

fault_back : (f : Fault) → fault_of (number_of f) ≡ f
unfolding fault_of
fault_back = elim [ TooLong ↦ refl | NotFormed ↦ refl | Malformed ↦ refl | OutOfRange ↦ refl | TooMany ↦ refl | Repeated ↦ refl | Misplaced ↦ refl | NotRising ↦ refl | OutOfReach ↦ refl | NoRoom ↦ refl | NoPlace ↦ refl | NoSet ↦ refl | OutOfWindow ↦ refl ]

-- faults of one number are the same
pub same_fault : (f g : Fault) → number_of f ≡ number_of g → f ≡ g
same_fault f g e = sym (fault_back f) ∙ ap fault_of e ∙ fault_back g

-- refusals of one number and line are the same
pub same_refusal : (q r : RefusalStruct) → refusal (number_of q.fault) q.line ≡ refusal (number_of r.fault) r.line → q ≡ r
same_refusal q r e = let f = same_fault q.fault r.fault (ap (λ (t : Terms). t.number) e) in λ i. record { fault = f i; line = (e i).line }

answer_no : {X : Type 0} (o : Outcome) (r : RefusalStruct) → full (outcome_values o) ≡ refusal (number_of r.fault) r.line → X
unfolding outcome_values
answer_no (Placed s) r e = told_apart 1 (s ∷ []) _ _ e
answer_no (Refused m) r e = told_apart 0 (m ∷ []) _ _ e

same_outcome : (o p : Outcome) → outcome_values o ≡ outcome_values p → o ≡ p
unfolding outcome_values
same_outcome (Placed s) (Placed r) e = cc
same_outcome (Placed s) (Refused m) e = cc
same_outcome (Refused m) (Placed s) e = cc
same_outcome (Refused m) (Refused l) e = cc

pub outcome_terms_differ : (a b : Result Outcome RefusalStruct) → outcome_terms a ≡ outcome_terms b → a ≡ b
unfolding outcome_terms
outcome_terms_differ (Ok o) (Ok p) e = ap Ok (same_outcome o p (ap (λ t. t.values) e))
outcome_terms_differ (Ok o) (Err r) e = answer_no o r e
outcome_terms_differ (Err r) (Ok o) e = answer_no o r (sym e)
outcome_terms_differ (Err q) (Err r) e = ap Err (same_refusal q r e)

pub count_terms_differ : (a b : Result ℕ RefusalStruct) → count_terms a ≡ count_terms b → a ≡ b
unfolding count_terms
count_terms_differ (Ok m) (Ok n) e = let f : m ∷ [] ≡ n ∷ [] = ap (λ t. t.values) e in cc
count_terms_differ (Ok m) (Err r) e = told_apart m [] _ _ e
count_terms_differ (Err r) (Ok m) e = told_apart m [] _ _ (sym e)
count_terms_differ (Err q) (Err r) e = ap Err (same_refusal q r e)

-- ---- a lent slice after a call
module _ {A : Type 0} where
  pub after_nothing : (lent : List A) → slice_after [] lent ≡ lent
  unfolding slice_after
  after_nothing lent = refl

  pub after_length : (written lent : List A) → length written ≤ length lent → length (slice_after written lent) ≡ length lent
  unfolding slice_after
  after_length written lent h = simp (length-append, length-drop) (omega arith)

  -- what is written stands in front
  pub after_front : (written lent : List A) (i : ℕ) (d : A) → i < length written → get_or (slice_after written lent) i d ≡ get_or written i d
  unfolding slice_after
  after_front written lent i d h = get_or-append written _ d i h

  -- "Bytes and records behind the answer remain"
  pub after_behind : (written lent : List A) (i : ℕ) (d : A) → length written ≤ i → get_or (slice_after written lent) i d ≡ get_or lent i d
  unfolding slice_after
  after_behind written lent i d h =
      let e : length written + (i - length written) ≡ i = omega arith in
      subst (λ (j : ℕ). get_or (written ++ drop (length written) lent) j d ≡ get_or lent j d) e
      (get_or-append-add written _ (i - length written) d ∙ get_or-drop (length written) lent (i - length written) d)
