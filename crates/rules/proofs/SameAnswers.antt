-- One answer is right: Right determines it at a place, and RightAnswers at every place of a plan.
-- Assumes nothing.
use Prim.Native.Nat.{ℕ, zero, suc, ◌<◌, ◌≤◌}
use mathlib.Core.Path.{◌≡◌, refl, sym, ◌∙◌, ap, subst}
use native.Mathlib.Omega.{arith}
use native.Mathlib.Nat.{not-suc-le-zero}
use lib.ListN.{length}
use Rattle.rules.specs.Plan.{Header, Activity, Plan, Schedule}
use Rattle.rules.specs.Conditions.{condition_count, has}
use Rattle.rules.specs.Outcomes.{activity_at}
use Rattle.rules.specs.Demand.{RefusedWith, PlacedAt, Right, placed_by, lines_by, RightAnswers}
use Rattle.rules.specs.Determined.{SameAnswers}
use Rattle.rules.specs.declared.Outcome.{Outcome}
use Rattle.rules.specs.declared.Outcome.TheVariants.{Placed, Refused}
use Rattle.rules.proofs.Tests.{last_or}
use Rattle.rules.proofs.Sets.{by_letters}
use Rattle.rules.proofs.Local.{bool_ext}

module _ (h : Header) (before : Schedule) (a : Activity) where
  -- letter by letter, in turn: where the earlier letters are the same, so is the next
  same_letters : (m l : ℕ) → RefusedWith h before a m → RefusedWith h before a l → (n : ℕ) → n ≤ condition_count → (c : ℕ) → c < n → has m c ≡ has l c
  same_letters m l R S zero k c g = absurd (not-suc-le-zero g)
  same_letters m l R S (suc b) k c g =
      let earlier : (c : ℕ) → c < b → has m c ≡ has l c = same_letters m l R S b (omega arith) in
      last_or (λ c. has m c ≡ has l c) b c g
      (bool_ext (has m b) (has l b)
      (λ e. let w = (R.turn b k).0 e in (S.turn b k).1 (w.0, w.1, λ c i o f. w.2 c i o (λ j. earlier c j ∙ f j)))
      (λ e. let w = (S.turn b k).0 e in (R.turn b k).1 (w.0, w.1, λ c i o f. w.2 c i o (λ j. sym (earlier c j) ∙ f j))))
      (earlier c)

  same_refusal : (m l : ℕ) → RefusedWith h before a m → RefusedWith h before a l → m ≡ l
  same_refusal m l R S = by_letters condition_count m l (omega (arith, R.small)) (omega (arith, S.small)) (same_letters m l R S condition_count (omega arith))

  -- each of two nearest starts is as near as the other, and as early
  same_start : (s r : ℕ) → PlacedAt h before a s → PlacedAt h before a r → s ≡ r
  same_start s r P Q =
      let near = P.nearest r Q.valid in
      let near-too = Q.nearest s P.valid in
      omega (arith, P.earlier r Q.valid (omega arith), Q.earlier s P.valid (omega arith))

  pub same_answer : (o other : Outcome) → Right h before a o → Right h before a other → o ≡ other
  same_answer (Placed s) (Placed r) R S = ap Placed (same_start s r (R.placed s refl) (S.placed r refl))
  same_answer (Placed s) (Refused l) R S = absurd (S.exactly.0 (l, refl) s (R.placed s refl).valid)
  same_answer (Refused m) (Placed r) R S = absurd (R.exactly.0 (m, refl) r (S.placed r refl).valid)
  same_answer (Refused m) (Refused l) R S = ap Refused (same_refusal m l (R.refused m refl) (S.refused l refl))

-- answers that are right at every place of a plan
module _ (p : Plan) (answers others : ℕ → Outcome) (A : RightAnswers p answers) (B : RightAnswers p others) where
  abbrev n : ℕ
  n = length p.activities

  answer_at : (k : ℕ) → k < n → placed_by p answers k ≡ placed_by p others k → answers k ≡ others k
  answer_at k h e = same_answer p.header (placed_by p others k) (activity_at p k) (answers k) (others k) (subst (λ ps. Right p.header ps (activity_at p k) (answers k)) e (A.right k h)) (B.right k h)

  same_schedule : (k : ℕ) → k ≤ n → placed_by p answers k ≡ placed_by p others k
  same_schedule zero h = refl
  same_schedule (suc k) h =
      let e = same_schedule k (omega arith) in
      rw (answer_at k h e, e)

  same_answers_at : (k : ℕ) → k < n → answers k ≡ others k
  same_answers_at k h = answer_at k h (same_schedule k (omega arith))

  same_lines : (k : ℕ) → k ≤ n → lines_by p answers k ≡ lines_by p others k
  same_lines zero h = refl
  same_lines (suc k) h = rw (same_answers_at k h, same_lines k (omega arith))

  pub same_answers : SameAnswers p answers others
  same_answers =
      record {
        answer = same_answers_at;
        schedule = same_schedule;
        report = rw (same_lines n (omega arith), same_schedule n (omega arith));
      }
