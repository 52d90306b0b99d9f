-- What reading says of every file: an accepted one is the text of its plan, which is well formed and can reach its handover charge; a refused one has the fault that its number and line name.
-- Assumes nothing.
use Prim.Native.Nat.{ℕ, suc, ◌+◌, ◌≤◌}
use mathlib.Core.Path.{◌≡◌, refl, sym, ◌∙◌, ap, subst}
use mathlib.Core.List.{List, []}
use mathlib.Core.Option.{Option, none, some}
use native.Mathlib.Omega.{arith}
use lib.Dec.{ltb}
use lib.ListN.{length, get_or}
use borrow.Author.Tests.{ltb-true, ltb-false}
use Rattle.rules.specs.Tests.{any_of}
use Rattle.rules.specs.Plan.{Activity, Plan}
use Rattle.rules.specs.Lines.{lines}
use Rattle.rules.specs.Order.{order}
use Rattle.rules.specs.Outcomes.{no_activity, activity_at}
use Rattle.rules.specs.Reading.{Reading, accepted, no, has_id, misplaced, line_number, out_of_reach, judged, after_lines, reading}
use Rattle.rules.specs.Print.{plan_text}
use Rattle.rules.specs.WellFormed.{WellFormed, Reachable}
use Rattle.rules.specs.Faults.{FileFault, no_earlier, not_reachable, Fault, too_long, in_file}
use Rattle.rules.specs.Determined.{TextOf}
use Rattle.rules.proofs.Signed.{lt_z_true, lt_z_false}
use Rattle.rules.proofs.Says.{by_test}
use Rattle.rules.proofs.ListAt.{mem_at, at_mem}
use Rattle.rules.proofs.PlaceFacts.{NamedAfter, Unnamed, AfterTold, after_told, order_mem, line_number_lem}
use Rattle.rules.proofs.Order.{order_length}
use Rattle.rules.proofs.ReadFacts.{each_formed, Tells, told, refusing, PlanRead, lines_tell}
use Rattle.rules.proofs.Projecting.{reach_is}

module _ (s : List ℕ) (p : Plan) (R : PlanRead s p) where
  well_formed : NamedAfter [] (order p.activities) (length (order p.activities)) → WellFormed p
  unfolding activity_at has_id any_of
  well_formed t =
      record {
        header = R.begins.header;
        few = R.begins.few;
        each = each_formed R.begins;
        ids = R.begins.ids;
        after = λ k id h m. t k id (rw (order_length p.activities) h) m refl;
      }

  misplaced_fault : (a : Activity) → Unnamed [] (order p.activities) a → FileFault s 7 (line_number a.id 2 p.activities)
  unfolding activity_at has_id any_of
  misplaced_fault a t =
      let r = mem_at no_activity (order_mem p.activities (at_mem no_activity (order p.activities) t.place t.inside)) in
      let same : (get_or p.activities r.0 no_activity).id ≡ a.id = ap (λ (b : Activity). b.id) (r.2 ∙ t.here) in
      let line : line_number a.id 2 p.activities ≡ 2 + r.0 = line_number_lem a.id 2 r.0 p.activities r.1 same (λ j h q. R.begins.ids j r.0 h r.1 (q ∙ sym same)) in
      let two : 2 + r.0 ≡ suc (suc r.0) = omega arith in
      rw (line, two)
      (no_earlier p r.0 t.place t.id R.begins R.text r.1 (rw (order_length p.activities) at t.inside) r.2 (λ k id h m. t.named k id h m refl) t.names t.not_before)

  judged_tells : (o : Option Activity) → AfterTold [] (order p.activities) o → Tells (TextOf s) (FileFault s) (judged p o)
  unfolding judged
  judged_tells (some a) t = refusing (misplaced_fault a t)
  judged_tells none t =
      by_test (Tells (TextOf s) (FileFault s)) (out_of_reach p.header)
      (λ e. refusing (not_reachable p (well_formed t) R.text (lt_z_true (sym (reach_is p.header) ∙ e))))
      (λ e. told (well_formed t, lt_z_false (sym (reach_is p.header) ∙ e), R.text))

file_tells : (s : List ℕ) {r : Reading} → Tells (PlanRead s) (FileFault s) r → Tells (TextOf s) (FileFault s) (after_lines r)
unfolding after_lines
file_tells s (told {p} R) = judged_tells s p R (misplaced [] (order p.activities)) (after_told [] (order p.activities))
file_tells s (refusing f) = refusing f

short_tells : {s : List ℕ} {r : Reading} → length s ≤ 60000 → Tells (TextOf s) (FileFault s) r → Tells (TextOf s) (Fault s) r
short_tells n (told R) = told R
short_tells n (refusing f) = refusing (in_file n f)

reading_tells : (s : List ℕ) → Tells (TextOf s) (Fault s) (reading s)
unfolding reading
reading_tells s =
    by_test (Tells (TextOf s) (Fault s)) (ltb 60000 (length s))
    (λ e. refusing (too_long (ltb-true 60000 (length s) e)))
    (λ e. short_tells (ltb-false 60000 (length s) e) (file_tells s (lines_tell s (lines s) refl)))

text_of : {s : List ℕ} {p : Plan} → Tells (TextOf s) (Fault s) (accepted p) → TextOf s p
text_of (told t) = t

fault_of : {s : List ℕ} {k n : ℕ} → Tells (TextOf s) (Fault s) (no k n) → Fault s k n
fault_of (refusing f) = f

-- what is wrong in a refused file, and that what is checked before it is right
pub refused_fault : (s : List ℕ) (k n : ℕ) → reading s ≡ no k n → Fault s k n
refused_fault s k n e = fault_of (subst (Tells (TextOf s) (Fault s)) e (reading_tells s))

-- an accepted file is the text of its plan
pub accepted_text_lem : (s : List ℕ) (p : Plan) → reading s ≡ accepted p → TextOf s p
accepted_text_lem s p e = text_of (subst (Tells (TextOf s) (Fault s)) e (reading_tells s))

-- what reading guarantees of an accepted plan
pub accepted_formed : (s : List ℕ) (p : Plan) → reading s ≡ accepted p → WellFormed p × Reachable p
accepted_formed s p e = let t = accepted_text_lem s p e in (t.0, t.1)

-- print an accepted plan and its bytes come back
pub accepted_printed : (s : List ℕ) (p : Plan) → reading s ≡ accepted p → plan_text p ≡ s
accepted_printed s p e = (accepted_text_lem s p e).2
