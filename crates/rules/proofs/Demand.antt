-- Demand 3 holds of every accepted file.
-- Assumes nothing.
use Prim.Native.Nat.{ℕ, zero, suc, ◌≤◌, ◌<◌}
use mathlib.Core.Path.{◌≡◌, refl, sym, ◌∙◌, ap, subst}
use mathlib.Core.List.{List, [], ◌++◌}
use native.Mathlib.Omega.{arith}
use native.Mathlib.Nat.{add-zero, not-suc-le-zero}
use lib.ListN.{length, get_or}
use borrow.Author.Tests.{lt-leb, le-ltb}
use Rattle.rules.specs.Plan.{Header, Activity, Plan, Schedule, end as ends}
use Rattle.rules.specs.Lines.{lines}
use Rattle.rules.specs.MeetsB.{projection}
use Rattle.rules.specs.Outcomes.{reply, added, activity_at, placed, outcome, finished}
use Rattle.rules.specs.Report.{outcome_line, outcome_lines, end_line, report, answer_to, output}
use Rattle.rules.specs.Calls.{outcome_of, outcome_call, report_of, report_call, runs, starts_of, starts_call}
use Rattle.rules.specs.WellFormed.{WellFormed, Reachable}
use Rattle.rules.specs.Demand.{Right, nth, placed_by, lines_by, report_by, RunsBy, DemandThree}
use Rattle.rules.specs.declared.Outcome.{Outcome}
use Rattle.rules.specs.declared.Outcome.TheVariants.{Placed, Refused}
use Rattle.rules.proofs.Answers.{replied}
use Rattle.rules.specs.Kept.{Kept}
use Rattle.rules.proofs.Kept.{none_kept, more_kept}
use Rattle.rules.proofs.Limits.{limits}
use Rattle.rules.proofs.Projecting.{projected_right}
use Rattle.rules.proofs.Runs.{runs_right}
use Rattle.rules.proofs.SameRuns.{call_few}
use Rattle.rules.proofs.PlaceFacts.{place_formed}
use Rattle.rules.proofs.ReportLines.{line_of_place, lines_behind, lines_count, end_line_lem}
use Rattle.rules.proofs.Accepted.{accepted_formed}

-- no limit is broken at any place

added_kept : (h : Header) (ps : Schedule) (a : Activity) (o : Outcome) → Right h ps a o → Kept h ps → Kept h (added o a ps)
unfolding added
added_kept h ps a (Placed s) R K = more_kept h ps a s (R.placed s refl).valid K
added_kept h ps a (Refused m) R K = K

placed_kept : (p : Plan) → WellFormed p → Reachable p → (k : ℕ) → Kept p.header (placed p k)
unfolding placed
placed_kept p F R zero = none_kept p.header F.header R
placed_kept p F R (suc k) =
    added_kept p.header (placed p k) (activity_at p k) (reply p.header (placed p k) (activity_at p k)) (replied p.header (placed p k) (activity_at p k)) (placed_kept p F R k)

-- those placed end by the horizon
added_in_time : (h : Header) (ps : Schedule) (a : Activity) (o : Outcome) → Right h ps a o → ((i : ℕ) → i < length ps → ends (nth ps i) ≤ h.horizon) → (i : ℕ) → i < length (added o a ps) → ends (nth (added o a ps) i) ≤ h.horizon
unfolding added
added_in_time h ps a (Placed s) R T zero l = (R.placed s refl).valid.start
added_in_time h ps a (Placed s) R T (suc i) l = T i (omega arith)
added_in_time h ps a (Refused m) R T i l = T i l

placed_in_time : (p : Plan) (k i : ℕ) → i < length (placed p k) → ends (nth (placed p k) i) ≤ p.header.horizon
unfolding placed
placed_in_time p zero i l = absurd (not-suc-le-zero l)
placed_in_time p (suc k) i l =
    added_in_time p.header (placed p k) (activity_at p k) (reply p.header (placed p k) (activity_at p k)) (replied p.header (placed p k) (activity_at p k)) (placed_in_time p k) i l

-- those placed are those that the outcomes place
by_outcomes : (p : Plan) (k : ℕ) → placed p k ≡ placed_by p (outcome p) k
unfolding placed outcome
by_outcomes p zero = refl
by_outcomes p (suc k) = ap (added (reply p.header (placed p k) (activity_at p k)) (activity_at p k)) (by_outcomes p k)

pub lines_by_lem : (p : Plan) (k : ℕ) → outcome_lines p k ≡ lines_by p (outcome p) k
unfolding outcome_lines
lines_by_lem p zero = refl
lines_by_lem p (suc k) = ap (λ (l : List ℕ). l ++ outcome_line (activity_at p k) (outcome p k)) (lines_by_lem p k)

-- so the report is the one that the outcomes give
report_by_lem : (p : Plan) → report p ≡ report_by p (outcome p)
unfolding report finished
report_by_lem p = let n : ℕ = length p.activities in rw (lines_by_lem p n, by_outcomes p n)

-- its lines
module _ (p : Plan) where
  abbrev n : ℕ
  n = length p.activities

  abbrev end : List ℕ
  end = end_line n (finished p) (projection p.header (finished p))

  line_count_lem : length (lines (report p)) ≡ suc n
  unfolding report
  line_count_lem = lines_count p n end ∙ omega (arith, ap length (end_line_lem n (finished p) (projection p.header (finished p))))

  place_line : (k : ℕ) → k < n → get_or (lines (report p)) k [] ≡ outcome_line (activity_at p k) (outcome p k)
  unfolding report
  place_line k h = line_of_place p n k end h

  last_line : get_or (lines (report p)) n [] ≡ end
  unfolding report
  last_line =
      ap (λ i. get_or (lines (outcome_lines p n ++ end)) i []) (sym (add-zero n)) ∙ lines_behind p n 0 end ∙ ap (λ ls. get_or ls 0 []) (end_line_lem n (finished p) (projection p.header (finished p)))

-- the runs of a place are those beside what the outcomes place
runs_by : (p : Plan) (k m : ℕ) → RunsBy p (outcome p) k m (runs p k m)
unfolding runs
runs_by p k m = rw (← by_outcomes p k) (runs_right _ _)

pub demand3 : DemandThree
unfolding finished outcome projection
demand3 s p e =
    let F : WellFormed p × Reachable p = accepted_formed s p e in
    record {
      answers = outcome p;
      right =
          record {
            few = F.0.few;
            right = λ k h. subst (λ ps. Right p.header ps (activity_at p k) (outcome p k)) (by_outcomes p k) (replied p.header (placed p k) (activity_at p k));
            line_count = rw (← report_by_lem p) (line_count_lem p);
            line = λ k h. rw (← report_by_lem p) (place_line p k h);
            last = (projection p.header (placed_by p (outcome p) (length p.activities)), projected_right _ _, rw (← report_by_lem p, ← by_outcomes p (length p.activities)) (last_line p));
            whole = rw (← by_outcomes p (length p.activities)) (limits _ _ (placed_kept p F.0 F.1 (length p.activities)) (placed_in_time p (length p.activities)));
          };
      called = λ k h. unfold outcome_call outcome_of in (rw (e, lt-leb _ _ h));
      report = λ room. unfold report_call report_of in (rw (e, ← report_by_lem p));
      printed = unfold output answer_to in (rw (e, ← report_by_lem p));
      runs = λ k m h l. (runs p k m, runs_by p k m, call_few p k m F.0.header.horizon.1 (place_formed p F.0 k h).duration.0, λ room. unfold starts_call starts_of in (rw (e, lt-leb _ _ h, le-ltb _ _ l)));
    }
