-- How large the answers are: a refusal's number and line, a start, a set of conditions, the runs, the report.
use Prim.Native.Nat.{ℕ, zero, suc, ◌<◌, ◌≤◌}
use mathlib.Core.Path.{◌≡◌, refl}
use mathlib.Core.Logic.{◌≢◌}
use mathlib.Core.List.{List}
use native.Mathlib.Omega.{arith}
use lib.Dec.{leb, ltb}
use lib.ListN.{length, length-append}
use borrow.Author.Tests.{leb-false}
use Rattle.rules.specs.Plan.{Activity, Plan, Schedule}
use Rattle.rules.specs.Conditions.{all_conditions}
use Rattle.rules.specs.MeetsB.{projection}
use Rattle.rules.specs.Outcomes.{added, activity_at}
use Rattle.rules.specs.Reading.{Reading, accepted, refused, reading}
use Rattle.rules.specs.WellFormed.{WellFormed}
use Rattle.rules.specs.Faults.{FileFault, empty, plan_line, plan_field, activity, no_earlier, not_reachable, Fault, too_long, in_file}
use Rattle.rules.specs.Report.{end_line}
use Rattle.rules.specs.Calls.{Filled, refusing, filling, report_of, report_call, runs, starts_of, starts_call}
use Rattle.rules.specs.Demand.{placed_by, finished_by, report_by, RightAnswers, Demand3}
use Rattle.rules.specs.declared.Outcome.{Outcome}
use Rattle.rules.specs.declared.Outcome.TheVariants.{Placed, Refused}
use Rattle.rules.specs.Refusals.{Refusal}
use Rattle.rules.proofs.Accepted.{refused_fault, accepted_formed}
use Rattle.rules.proofs.Demand.{demand3}
use Rattle.rules.proofs.PlaceFacts.{place_formed}
use Rattle.rules.proofs.Refusing.{file_number, reading_number}
use Rattle.rules.proofs.ReportSize.{lines_length, end_length}
use Rattle.rules.proofs.SameRuns.{call_few}
use Rattle.rules.proofs.Says.{either_way}
use Rattle.station.specs.Unpacking.{report_most, runs_most}

-- ---- a refusal of the bytes: its line is at most that of the 65th activity
file_line : (s : List ℕ) (k n : ℕ) → FileFault s k n → n ≤ 66
file_line s k n (empty e) = omega arith
file_line s k n (plan_line f) = omega arith
file_line s k n (plan_field g f) = omega arith
file_line s k n (activity h xs B l f) = omega (arith, B.few)
file_line s k n (no_earlier p i j id B e l m q N M F) = omega (arith, B.few)
file_line s k n (not_reachable p W e l) = omega arith

fault_line : (s : List ℕ) (k n : ℕ) → Fault s k n → n ≤ 66
fault_line s k n (too_long h) = omega arith
fault_line s k n (in_file h f) = file_line s k n f

pub refusal_small : (s : List ℕ) (q : Refusal) → reading s ≡ refused q → (1 ≤ q.number) × (q.number ≤ 13) × (q.number ≢ 10) × (q.line ≤ 66)
refusal_small s q e =
    let k = file_number q.number (reading_number s q e) in
    (k.0, k.1, k.2, fault_line s q.number q.line (refused_fault s q.number q.line e))

-- ---- the runs of an accepted plan
runs_few : (s : List ℕ) (p : Plan) → reading s ≡ accepted p → (k m : ℕ) → k < length p.activities → length (runs p k m) ≤ runs_most
runs_few s p e k m h = let F = (accepted_formed s p e).0 in call_few p k m F.header.horizon.1 (place_formed p F k h).duration.0

-- ---- the report
added_few : (a : Activity) (ps : Schedule) (o : Outcome) → length (added o a ps) ≤ suc (length ps)
unfolding added
added_few a ps (Placed s) = omega arith
added_few a ps (Refused m) = omega arith

placed_few : (p : Plan) (answers : ℕ → Outcome) (k : ℕ) → length (placed_by p answers k) ≤ k
placed_few p answers zero = omega arith
placed_few p answers (suc k) = omega (arith, added_few (activity_at p k) (placed_by p answers k) (answers k), placed_few p answers k)

module _ (p : Plan) (F : WellFormed p) (answers : ℕ → Outcome) (R : RightAnswers p answers) where
  report_end : length (end_line (length p.activities) (finished_by p answers) (projection p.header (finished_by p answers))) ≤ 48
  report_end =
      let n = length p.activities in
      let ps = placed_by p answers n in
      let few = placed_few p answers n in
      end_length p.header F.header ps R.whole.charge R.whole.volume n (omega (arith, F.few)) (omega (arith, few, F.few))

  report_length : length (report_by p answers) ≤ report_most
  report_length = let n = length p.activities in simp length-append (omega (arith, lines_length p F.header (place_formed p F) answers (placed_by p answers) R.right n (omega arith), report_end, F.few))

-- ---- a call into a slice of `room` elements refuses, or fills it with `most` elements at most
pub data AnswersAs {A : Type 0} (most : ℕ) (call : ℕ → Filled A) : Type 0 where
  refuses : (k n : ℕ) → (1 ≤ k) × (k ≤ 13) × (k ≢ 10) × (n ≤ 66) → ((room : ℕ) → call room ≡ refusing k n) → AnswersAs most call
  fills : (xs : List A) → length xs ≤ most → ((room : ℕ) → call room ≡ filling room xs) → AnswersAs most call

report_of_lem : (s : List ℕ) (x : Reading) → reading s ≡ x → AnswersAs report_most (report_call s)
unfolding report_call report_of
report_of_lem s (refused q) e = refuses q.number q.line (refusal_small s q e) (λ room. rw e)
report_of_lem s (accepted p) e = let D : Demand3 s p = demand3 s p e in fills _ (report_length p (accepted_formed s p e).0 D.answers D.right) D.report

pub report_as : (s : List ℕ) → AnswersAs report_most (report_call s)
report_as s = report_of_lem s (reading s) refl

starts_of_lem : (s : List ℕ) (x : Reading) → reading s ≡ x → (k m : ℕ) → AnswersAs runs_most (starts_call s k m)
unfolding starts_call starts_of
starts_of_lem s (refused q) e k m = refuses q.number q.line (refusal_small s q e) (λ room. rw e)
starts_of_lem s (accepted p) e k m =
    either_way (leb (length p.activities) k)
    (λ h. refuses 11 0 (omega arith, omega arith, λ h. omega arith, omega arith) (λ room. rw (e, h)))
    (λ h. either_way (ltb all_conditions m)
    (λ l. refuses 12 0 (omega arith, omega arith, λ h. omega arith, omega arith) (λ room. rw (e, h, l)))
    (λ l. fills (runs p k m) (runs_few s p e k m (leb-false _ _ h)) (λ room. rw (e, h, l))))

pub starts_as : (s : List ℕ) (k m : ℕ) → AnswersAs runs_most (starts_call s k m)
starts_as s k m = starts_of_lem s (reading s) refl k m
