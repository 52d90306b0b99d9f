-- Laws of the whole reading: the checks 1, 7 and 9, and the first line.
-- Assumes nothing.
use Rattle.std.proofs.Common.{arith, ◌≡◌, ◌∙◌, ◌≤◌, ◌<◌, ◌+◌, ◌-◌, ℕ, true, false, List, [], ◌∷◌, map, length, take, drop, Result, Ok, Err, refl, sym, ap}
use Rattle.std.specs.Prelude.{IfOk}
use Rattle.std.proofs.Math.Option.{none, some}
use borrow.Author.Tests.{lt-ltb, le-ltb}
use Rattle.rules.specs.Bytes.{bytes}
use Rattle.rules.specs.Lines.{split_on, lines}
use Rattle.rules.specs.Fields.{value, fault}
use Rattle.rules.specs.Plan.{Header}
use Rattle.rules.specs.HeaderLine.{header_of}
use Rattle.rules.specs.Reading.{accepted, no, formed, on_line, misplaced, line_number, out_of_reach, judged, after_lines, plan_lines, reading}
use Rattle.rules.specs.WellFormed.{HeaderFormed}
use Rattle.rules.specs.Refusals.{number_of, refusal_view, read_as}
use Rattle.rules.specs.declared.Refusal.{Refusal}
use Rattle.rules.specs.declared.Fault.{Fault}
use Rattle.rules.proofs.ReadFacts.{formed_facts}
use Rattle.rules.proofs.LineFacts.{HeaderSaid, header_says}
use Rattle.activity.specs.View.{header_view}
use Rattle.activity.specs.declared.Header.{Header as HeaderStruct}
use Rattle.text.specs.Text.{index_of}
use Rattle.line.specs.Formed.{is_formed}
use Rattle.order.specs.Lines.{order_lines}
use Rattle.order.specs.declared.Line.{Line}
use Rattle.plan.specs.Said.{said_by, LinesIn, plan_of, in_order}
use Rattle.plan.specs.Reading.{reading_view}
use Rattle.plan.specs.Reached.{lines_from, lines_view, first_from}
use Rattle.plan.proofs.Ordering.{view_order}
use Rattle.plan.proofs.Cutting.{line_with, lines_next, lines_last, not_ended, line_fields}
use Rattle.plan.proofs.LineAt.{of_value}
use Rattle.plan.proofs.Lining.{form_with, form_not}

-- what a refusal is as a reading
pub refused_view : (q : Refusal) → reading_view (Err q) ≡ no (number_of q.fault) q.line
unfolding reading_view refusal_view
refused_view q = refl

-- ---- once all lines are read

module _ (h : Header) (s : List ℕ) (lines : List Line) (g : LinesIn h s lines) where
  judged_by : after_lines (accepted (plan_of h s lines)) ≡ judged (plan_of h s lines) (misplaced [] (map (said_by h s) (order_lines lines)))
  unfolding after_lines
  judged_by = rw (view_order h s lines g)

  pub judged_7 : (x : Line) → misplaced [] (map (said_by h s) (order_lines lines)) ≡ some (said_by h s x) → in_order (after_lines (accepted (plan_of h s lines))) ≡ no 7 (line_number (said_by h s x).id 2 (map (said_by h s) lines))
  unfolding in_order judged
  judged_7 x m = rw (judged_by, m)

  module _ (m : misplaced [] (map (said_by h s) (order_lines lines)) ≡ none) where
    pub judged_9 : out_of_reach h ≡ true → in_order (after_lines (accepted (plan_of h s lines))) ≡ no 9 0
    unfolding in_order judged
    judged_9 f = rw (judged_by, m, f)

    pub judged_on : out_of_reach h ≡ false → in_order (after_lines (accepted (plan_of h s lines))) ≡ accepted (plan_of h s (order_lines lines))
    unfolding in_order judged
    judged_on f = rw (judged_by, m, f, view_order h s lines g)

-- ---- the file and its first line

-- 1 comes first
pub read_1 : (s : List ℕ) → 60000 < length s → in_order (reading s) ≡ no 1 0
unfolding reading in_order
read_1 s h = rw (lt-ltb _ _ h)

module _ (s : List ℕ) (h : length s ≤ 60000) where
  pub read_on : in_order (reading s) ≡ in_order (after_lines (plan_lines (lines s)))
  unfolding reading
  read_on = rw (le-ltb _ _ h)

  read_no : (k n : ℕ) → plan_lines (lines s) ≡ no k n → in_order (reading s) ≡ no k n
  unfolding in_order after_lines
  read_no k n e = read_on ∙ rw e

  short : (line : List ℕ) (rest : List (List ℕ)) → lines s ≡ line ∷ rest → formed (bytes "plan") 12 line ≡ false → in_order (reading s) ≡ no 2 1
  unfolding plan_lines
  short line rest e f = read_no 2 1 (rw (e, f))

  empty : s ≡ [] → in_order (reading s) ≡ no 2 1
  unfolding plan_lines lines
  empty e = read_no 2 1 (rw e)

  module _ (end : ℕ) (e : end ≡ index_of 10 s) where
    lf : end ≡ 0 + index_of 10 (drop 0 s)
    lf = omega arith

    -- it lacks its LF
    pub first_ends : length s ≤ end → in_order (reading s) ≡ no 2 1
    first_ends k = go s refl
      where
        go : (w : List ℕ) → s ≡ w → in_order (reading s) ≡ no 2 1
        go [] q = empty q
        go (x ∷ w) q =
            let i : 0 < length s = rw q (omega arith) in
            short s [] (lines_last s 0 end lf i k) (form_not (bytes "plan") 12 s (not_ended s 0 end lf i k))

    module _ (i : end < length s) where
      here : lines s ≡ line_with (take end s) ∷ lines (drop (end + 1) s)
      here = let z : end - 0 ≡ end = omega arith in rw z at (lines_next s 0 end lf i)

      form_here : formed (bytes "plan") 12 (line_with (take end s)) ≡ is_formed (bytes "plan") 12 (take end s)
      form_here = form_with (bytes "plan") 12 (take end s)

      pub first_2 : is_formed (bytes "plan") 12 (take end s) ≡ false → in_order (reading s) ≡ no 2 1
      first_2 f = short _ _ here (form_here ∙ f)

      module _ (f : is_formed (bytes "plan") 12 (take end s) ≡ true) where
        first_fault : (k : ℕ) → header_of (split_on 9 (take end s)) ≡ fault k → in_order (reading s) ≡ no k 1
        unfolding plan_lines on_line
        first_fault k g = read_no k 1 (rw (here, form_here ∙ f, line_fields (take end s), g))

        first_on : (a : Header) → header_of (split_on 9 (take end s)) ≡ value a → in_order (reading s) ≡ in_order (after_lines (lines_from a s [] (end + 1)))
        unfolding plan_lines on_line lines_from
        first_on a g = read_on ∙ rw (here, form_here ∙ f, line_fields (take end s), g)

        pub first_read : (r : Result HeaderStruct Fault) → read_as header_view r ≡ header_of (split_on 9 (take end s)) → in_order (reading s) ≡ first_from s end r
        unfolding first_from read_as
        first_read (Ok h) g = first_on (header_view h) (sym g)
        first_read (Err x) g = first_fault (number_of x) (sym g)

-- the numbers of a first line that was read are in their bounds
pub first_formed : (w : List ℕ) → is_formed (bytes "plan") 12 w ≡ true → (r : Result HeaderStruct Fault) → read_as header_view r ≡ header_of (split_on 9 w) → IfOk r (λ h. HeaderFormed (header_view h))
unfolding read_as
first_formed w f (Ok h) e =
    let l = formed_facts (bytes "plan") 12 (line_with w) (form_with (bytes "plan") 12 w ∙ f) in
    let r : HeaderSaid (line_with w) (header_view h) = of_value (header_says (line_with w) l) (rw (line_fields w) (sym e)) in
    r.formed
first_formed w f (Err x) e = tt

-- ---- what is next, once the first line is read

pub first_refused : (s : List ℕ) (end : ℕ) (q : Refusal) → q.line ≡ 1 → first_from s end (Err q.fault) ≡ reading_view (Err q)
unfolding first_from
first_refused s end q e = rw (← e) (sym (refused_view q))

pub first_lines : (s : List ℕ) (end : ℕ) (h : HeaderStruct) (r : Result (List Line) Refusal) → lines_from (header_view h) s [] (end + 1) ≡ lines_view (header_view h) s r → first_from s end (Ok h) ≡ in_order (after_lines (lines_view (header_view h) s r))
unfolding first_from
first_lines s end h r e = ap (λ q. in_order (after_lines q)) e

pub lines_refused : (h : Header) (s : List ℕ) (q : Refusal) → in_order (after_lines (lines_view h s (Err q))) ≡ reading_view (Err q)
unfolding in_order after_lines lines_view reading_view
lines_refused h s q = refl

pub lines_read : (h : Header) (s : List ℕ) (lines : List Line) → lines_view h s (Ok lines) ≡ accepted (plan_of h s lines)
unfolding lines_view
lines_read h s lines = refl
