-- A plan whose activities stand in the scheduling order has the same outcomes, report and runs.
-- Assumes nothing.
use Prim.Native.Nat.{ℕ, zero, suc, ◌<◌, ◌≤◌}
use mathlib.Core.Path.{◌≡◌, refl, ◌∙◌, ap}
use mathlib.Core.List.{List, [], ◌∷◌, ◌++◌}
use native.Mathlib.Omega.{arith}
use lib.ListN.{length, get_or}
use borrow.Author.Tests.{le-leb}
use Rattle.rules.specs.Plan.{Activity, Plan}
use Rattle.rules.specs.Order.{insert_by_priority, order}
use Rattle.rules.specs.Ordered.{ordered}
use Rattle.rules.specs.OrderRight.{nth_activity}
use Rattle.rules.specs.Outcomes.{no_activity, activity_at, placed, outcome, finished}
use Rattle.rules.specs.MeetsB.{projection}
use Rattle.rules.specs.Report.{outcome_lines, end_line, report}
use Rattle.rules.specs.Calls.{runs}
use Rattle.rules.proofs.Order.{order_right, order_length}

-- activities whose priorities rise
abbrev Rising : List Activity → Type 0
Rising ys = (j k : ℕ) → j < k → k < length ys → (nth_activity ys j).priority ≤ (nth_activity ys k).priority

in_place : (a : Activity) (bs : List Activity) → Rising (a ∷ bs) → insert_by_priority a bs ≡ a ∷ bs
unfolding insert_by_priority
in_place a [] r = refl
in_place a (b ∷ bs) r = rw (le-leb _ _ (r 0 1 (omega arith) (omega arith)))

-- they are in order
rising_order : (ys : List Activity) → Rising ys → order ys ≡ ys
unfolding order
rising_order [] r = refl
rising_order (a ∷ ys) r =
    ap (insert_by_priority a) (rising_order ys (λ j k l h. r (suc j) (suc k) (omega arith) (omega arith))) ∙ in_place a ys r

pub order_again : (xs : List Activity) → order (order xs) ≡ order xs
order_again xs = rising_order (order xs) (order_right xs).rising

module _ (p : Plan) where
  pub same_activity : (k : ℕ) → activity_at (ordered p) k ≡ activity_at p k
  unfolding activity_at
  same_activity k = ap (λ (ys : List Activity). get_or ys k no_activity) (order_again p.activities)

  same_placed : (k : ℕ) → placed (ordered p) k ≡ placed p k
  unfolding placed
  same_placed zero = refl
  same_placed (suc k) = rw (same_activity k, same_placed k)

  pub same_outcome : (k : ℕ) → outcome (ordered p) k ≡ outcome p k
  unfolding outcome
  same_outcome k = rw (same_activity k, same_placed k)

  pub same_count : length (ordered p).activities ≡ length p.activities
  same_count = order_length p.activities

  pub same_finished : finished (ordered p) ≡ finished p
  unfolding finished
  same_finished = same_placed _ ∙ ap (placed p) same_count

  same_lines : (k : ℕ) → outcome_lines (ordered p) k ≡ outcome_lines p k
  unfolding outcome_lines
  same_lines zero = refl
  same_lines (suc k) = rw (same_lines k, same_activity k, same_outcome k)

  pub same_report : report (ordered p) ≡ report p
  unfolding report
  same_report = rw (same_count, same_finished) (ap (λ (w : List ℕ). w ++ end_line (length p.activities) (finished p) (projection p.header (finished p))) (same_lines (length p.activities)))

  pub same_runs : (k m : ℕ) → runs (ordered p) k m ≡ runs p k m
  unfolding runs
  same_runs k m = rw (same_activity k, same_placed k)
