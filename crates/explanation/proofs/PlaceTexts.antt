-- The text of the places, one place after the other.
-- Assumes nothing.
use Prim.Native.Nat.{ℕ, zero, suc, ◌+◌, ◌-◌, ◌^◌, ◌≤◌}
use mathlib.Core.Path.{◌≡◌, refl, sym, ◌∙◌}
use mathlib.Core.List.{List, ◌++◌}
use native.Mathlib.Numerals.{add-one}
use lib.ListN.{length, take}
use Rattle.rules.specs.Plan.{Activity, Plan}
use Rattle.rules.specs.Conditions.{condition_count, all_conditions}
use Rattle.rules.specs.Ordered.{ordered}
use Rattle.rules.specs.Runs.{runs_from}
use Rattle.rules.specs.Outcomes.{starts, activity_at, placed, outcome}
use Rattle.rules.proofs.Answers.{replied}
use Rattle.rules.specs.Calls.{runs}
use Rattle.rules.specs.declared.Interval.{Interval}
use Rattle.rules.specs.declared.Outcome.{Outcome}
use Rattle.rules.specs.declared.Outcome.TheVariants.{Placed, Refused}
use Rattle.rules.proofs.Ordered.{same_activity, same_outcome, same_count, same_runs}
use Rattle.plan.specs.View.{plan_view}
use Rattle.plan.specs.declared.Plan.{Plan as PlanStruct}
use Rattle.placing.specs.Places.{TableAt}
use Rattle.placing.proofs.ByPlace.{runs_are}
use Rattle.schedule.specs.Search.{meets_in}
use Rattle.schedule.proofs.Tabled.{first_runs}
use Rattle.plan.proofs.Accepted.{AcceptedAs}
use Rattle.rules.specs.Refusals.{Refusal}
use Rattle.rules.specs.Reading.{refused, reading}
use Rattle.refusal.specs.Refused.{refused_text}
use Rattle.explanation.specs.Explained.{explained_as, explained}
use Rattle.explanation.specs.Places.{letter_text, letter_texts, outcome_text, place_text, place_texts, accepted_text}
use Rattle.explanation.specs.Tabled.{Small, runs_in}

-- the same runs make the same text
module _ (r q : ℕ → List Interval) (h : (m : ℕ) → r m ≡ q m) where
  letter_alike : (m c : ℕ) → letter_text r m c ≡ letter_text q m c
  unfolding letter_text
  letter_alike m c = rw (h (m - 2 ^ c), h (all_conditions - 2 ^ c))

  letters_alike : (m n : ℕ) → letter_texts r m n ≡ letter_texts q m n
  unfolding letter_texts
  letters_alike m zero = refl
  letters_alike m (suc n) = rw (letters_alike m n, letter_alike m n)

  pub outcome_alike : (a : Activity) (o : Outcome) → outcome_text r a o ≡ outcome_text q a o
  unfolding outcome_text
  outcome_alike a (Placed s) = rw (h all_conditions)
  outcome_alike a (Refused m) = rw (letters_alike m condition_count)

-- the outcome's text by the table of the place
pub outcome_is : (p : PlanStruct) (k : ℕ) (table : List ℕ) → TableAt p k table → (count : ℕ) → count ≡ starts (plan_view p).header (activity_at (plan_view p) k) → (a : Activity) (o : Outcome) → outcome_text (λ m. runs_from (meets_in table m) 0 count) a o ≡ outcome_text (runs (plan_view p) k) a o
outcome_is p k table T count e a o = outcome_alike (λ m. runs_from (meets_in table m) 0 count) (runs (plan_view p) k) (λ m. runs_are p k table T m count e) a o

-- and by its first entries, as a list of their own
pub first_outcome_is : (p : PlanStruct) (k : ℕ) (table : List ℕ) → TableAt p k table → (count : ℕ) → count ≡ starts (plan_view p).header (activity_at (plan_view p) k) → count ≤ length table → (a : Activity) (o : Outcome) → outcome_text (runs_in (take count table)) a o ≡ outcome_text (runs (plan_view p) k) a o
first_outcome_is p k table T count e long a o =
    outcome_alike (runs_in (take count table)) (λ m. runs_from (meets_in table m) 0 count) (first_runs count table long) a o ∙ outcome_is p k table T count e a o

-- the letters of a refusal are among the conditions
pub small_is : (p : Plan) (k : ℕ) (o : Outcome) → o ≡ outcome p k → Small o
unfolding outcome
small_is p k (Placed s) e = tt
small_is p k (Refused m) e = ((replied p.header (placed p k) (activity_at p k)).refused m (sym e)).small

-- one place more
pub places_more : (p : Plan) (k : ℕ) → place_texts p (k + 1) ≡ place_texts p k ++ place_text p k
unfolding place_texts
places_more p k = rw add-one

-- a plan in the scheduling order has the same text
module _ (p : Plan) where
  place_ordered : (k : ℕ) → place_text (ordered p) k ≡ place_text p k
  unfolding place_text
  place_ordered k = rw (same_activity p k, same_outcome p k, outcome_alike (runs (ordered p) k) (runs p k) (same_runs p k) (activity_at p k) (outcome p k))

  places_ordered : (k : ℕ) → place_texts (ordered p) k ≡ place_texts p k
  unfolding place_texts
  places_ordered zero = refl
  places_ordered (suc k) = rw (places_ordered k, place_ordered k)

  pub accepted_ordered : accepted_text (ordered p) ≡ accepted_text p
  unfolding accepted_text
  accepted_ordered = rw (same_count p, places_ordered (length p.activities))

-- the text of accepted bytes is that of their plan
pub explained_accepted : (s : List ℕ) (p : PlanStruct) → AcceptedAs s (plan_view p) → explained s ≡ accepted_text (plan_view p)
unfolding explained explained_as
explained_accepted s p A = rw (A.read, A.view) (sym (accepted_ordered A.plan))

pub explained_refused : (s : List ℕ) (q : Refusal) → reading s ≡ refused q → explained s ≡ refused_text s q
unfolding explained explained_as
explained_refused s q e = rw e refl
