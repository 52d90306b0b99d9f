-- A file with a fault is refused with it: constructor by constructor of Fault.
-- Assumes nothing.
use Prim.Native.Nat.{ℕ, suc, ◌+◌, ◌<◌, ◌≤◌}
use mathlib.Core.Path.{◌≡◌, refl, sym, ◌∙◌, ap}
use mathlib.Core.Logic.{◌≢◌}
use mathlib.Core.Bool.{true, false}
use mathlib.Core.List.{List, [], ◌∷◌, ◌++◌, map, Memᴰ}
use mathlib.Core.Option.{some}
use native.Mathlib.Omega.{arith}
use lib.Dec.{eqb}
use lib.ListN.{length, get_or, drop}
use lib.Seq.{drop-cons}
use borrow.Author.Tests.{lt-ltb, le-ltb, le-leb, lt-leb, eq-eqb}
use Rattle.rules.specs.Bytes.{bytes}
use Rattle.rules.specs.Tests.{any_of}
use Rattle.rules.specs.Plan.{Header, Activity, Plan}
use Rattle.rules.specs.Lines.{lines, ended, fields}
use Rattle.rules.specs.Order.{order}
use Rattle.rules.specs.Outcomes.{no_activity, activity_at}
use Rattle.rules.specs.Reading.{no, formed, on_line, has_id, activity_lines, plan_lines, misplaced, line_number, judged, after_lines, reading}
use Rattle.rules.specs.Print.{header_text, activity_text, plan_text}
use Rattle.rules.specs.WellFormed.{HeaderFormed}
use Rattle.rules.specs.Forms.{LineFormed, LineFault, no_lf, wrong_count, wrong_word, FieldsFault, plan_forms}
use Rattle.rules.specs.Faults.{line_at, Begins, ActivityFault, act_line, line_65, act_field, same_id, FileFault, empty, plan_line, plan_field, activity, Named, no_earlier, not_reachable, Fault, too_long, in_file}
use Rattle.rules.proofs.Tests.{is_false}
use Rattle.rules.proofs.Signed.{lt_lt_z}
use Rattle.rules.proofs.Join.{eq_same}
use Rattle.rules.proofs.ListAt.{any_at, begins_map}
use Rattle.rules.proofs.LineBack.{activity_back}
use Rattle.rules.proofs.Order.{order_length}
use Rattle.rules.proofs.PlaceFacts.{after_told, first_told, line_number_lem}
use Rattle.rules.proofs.PlanBack.{lines_back, printed_back, left_to_judge}
use Rattle.rules.proofs.ReadFacts.{formed_facts, each_formed}
use Rattle.rules.proofs.FieldFaults.{header_fault, activity_fault}
use Rattle.rules.proofs.Projecting.{reach_is}

-- check 2 passes a line that is formed, and no other
line_formed : (word : List ℕ) (count : ℕ) (l : List ℕ) → LineFormed word count l → formed word count l ≡ true
unfolding formed ended
line_formed word count l L = rw (eq-eqb _ 10 L.ends, eq-eqb _ count L.field_count, eq_same _ word L.first_word)

line_fault : (word : List ℕ) (count : ℕ) (l : List ℕ) → LineFault word count l → formed word count l ≡ false
line_fault word count l f = is_false (formed word count l) (λ e. wrong f (formed_facts word count l e))
  where
    wrong : LineFault word count l → LineFormed word count l → ⊥
    wrong (no_lf n) L = n L.ends
    wrong (wrong_count n) L = n L.field_count
    wrong (wrong_word n) L = n L.first_word

-- the first line
first_line : (ls : List (List ℕ)) → LineFault (bytes "plan") 12 (get_or ls 0 []) → plan_lines ls ≡ no 2 1
unfolding plan_lines
first_line [] f = refl
first_line (l ∷ rest) f = rw (line_fault (bytes "plan") 12 l f)

first_fields : (ls : List (List ℕ)) {k : ℕ} → LineFormed (bytes "plan") 12 (get_or ls 0 []) → FieldsFault (plan_forms (fields (get_or ls 0 []))) (fields (get_or ls 0 [])) k → plan_lines ls ≡ no k 1
unfolding plan_lines on_line
first_fields [] L f = absurd (omega (arith, L.ends))
first_fields (l ∷ rest) L f = rw (line_formed (bytes "plan") 12 l L, header_fault l L f)

-- an activity line, after those of xs
activity_refused : (h : Header) (xs : List Activity) (n : ℕ) (l : List ℕ) (rest : List (List ℕ)) {k : ℕ} → HeaderFormed h → ActivityFault h xs l k → activity_lines h xs n (l ∷ rest) ≡ no k n
unfolding activity_lines on_line has_id
activity_refused h xs n l rest g (act_line f) = rw (line_fault (bytes "act") 15 l f)
activity_refused h xs n l rest g (line_65 L e) = rw (line_formed (bytes "act") 15 l L, le-leb 64 (length xs) (omega arith))
activity_refused h xs n l rest g (act_field L few f) = rw (line_formed (bytes "act") 15 l L, lt-leb 64 (length xs) few, activity_fault h l L f)
activity_refused h xs n l rest g (same_id few a A e i k q) =
    let b = activity_back h a g A in
    rw (← e, b.form, lt-leb 64 (length xs) few, b.says, any_at no_activity (λ b. eqb b.id a.id) xs i k (eq-eqb _ a.id q))

-- the lines of h and xs, and then the rest
begins_with : (h : Header) (xs : List Activity) (ls : List (List ℕ)) → suc (length xs) ≤ length ls → header_text h ≡ get_or ls 0 [] → ((i : ℕ) → i < length xs → activity_text (get_or xs i no_activity) ≡ get_or ls (suc i) []) → ls ≡ header_text h ∷ (map activity_text xs ++ drop (suc (length xs)) ls)
begins_with h xs [] n e f = absurd (omega arith)
begins_with h xs (l ∷ ls) n e f = rw e (ap (λ (r : List (List ℕ)). l ∷ r) (begins_map [] activity_text no_activity xs ls (omega arith) f))

module _ (s : List ℕ) (h : Header) (xs : List Activity) (E : Begins s h xs) where
  -- where a file begins with their lines, reading comes to the line after them
  read_to : suc (length xs) ≤ length (lines s) → plan_lines (lines s) ≡ activity_lines h xs (suc (suc (length xs))) (drop (suc (length xs)) (lines s))
  read_to n = ap plan_lines (begins_with h xs (lines s) n E.header_line E.activity_line) ∙ lines_back h xs E.header E.few (each_formed E) E.ids (drop (suc (length xs)) (lines s))

  -- so the fault of that line is the file's
  next_refused : {k : ℕ} → suc (length xs) < length (lines s) → ActivityFault h xs (line_at s (suc (suc (length xs)))) k → plan_lines (lines s) ≡ no k (suc (suc (length xs)))
  next_refused n f =
      read_to (omega arith) ∙ rw (drop-cons (lines s) (suc (length xs)) [] n) (activity_refused h xs (suc (suc (length xs))) (line_at s (suc (suc (length xs)))) _ E.header f)

-- 7 is drawn at the first place whose `after` names no activity at an earlier place
first_misplaced : (p : Plan) (k id : ℕ) → k < length p.activities → Named p k → Memᴰ id (activity_at p k).after → ((j : ℕ) → j < k → (activity_at p j).id ≢ id) → misplaced [] (order p.activities) ≡ some (activity_at p k)
unfolding activity_at has_id any_of
first_misplaced p k id h named names other =
    first_told [] (order p.activities) (activity_at p k)
    record { place = k; id = id; inside = rw (order_length p.activities) h; here = refl; named = λ j id l m _. named j id l m; names = names; not_earlier = refl; not_before = other }
    (misplaced [] (order p.activities)) (after_told [] (order p.activities))

file_refused : (s : List ℕ) {k n : ℕ} → FileFault s k n → after_lines (plan_lines (lines s)) ≡ no k n
unfolding lines plan_lines after_lines judged activity_at plan_text
file_refused s (empty e) = rw e
file_refused s (plan_line f) = rw (first_line (lines s) f)
file_refused s (plan_field L f) = rw (first_fields (lines s) L f)
file_refused s (activity h xs E n f) = rw (next_refused s h xs E n f)
file_refused s (no_earlier p i k id E e hi hk q named names other) =
    let line : line_number (activity_at p k).id 2 p.activities ≡ 2 + i = line_number_lem _ 2 i p.activities hi (ap (λ (a : Activity). a.id) q) (λ j l r. E.ids j i l hi (r ∙ sym (ap (λ (a : Activity). a.id) q))) in
    let two : 2 + i ≡ suc (suc i) = omega arith in
    rw (← e, printed_back p.header p.activities E.header E.few (each_formed E) E.ids, first_misplaced p k id hk named names other, line, two)
file_refused s (not_reachable p W e l) = rw (← e, left_to_judge p W, reach_is p.header ∙ lt_lt_z _ _ l)

pub fault_refused : (s : List ℕ) (k n : ℕ) → Fault s k n → reading s ≡ no k n
unfolding reading
fault_refused s k n (too_long l) = rw (lt-ltb 60000 (length s) l)
fault_refused s k n (in_file l f) = rw (le-ltb 60000 (length s) l) (file_refused s f)
