-- Laws of the activity lines: what one more line makes of them.
-- Assumes nothing.
use Rattle.std.proofs.Common.{arith, ◌≡◌, ◌∙◌, ◌≤◌, ◌<◌, ◌+◌, ℕ, suc, true, false, List, [], ◌∷◌, ◌++◌, map, length, drop, Ok, Err, refl, ap}
use Rattle.std.proofs.lemmas.List.{length-map, map-append, length-append}
use Rattle.std.specs.List.{list_any}
use borrow.Author.Tests.{le-leb, lt-leb}
use Rattle.rules.specs.Bytes.{bytes}
use Rattle.rules.specs.Lines.{split_on, ended, fields, lines}
use Rattle.rules.specs.Fields.{value, fault}
use Rattle.rules.specs.Plan.{Header, Activity}
use Rattle.rules.specs.ActivityLine.{activity_of}
use Rattle.rules.specs.Reading.{no, formed, on_line, has_id, activity_lines}
use Rattle.rules.proofs.ReadFacts.{formed_facts}
use Rattle.rules.proofs.LineFacts.{ActivitySaid, activity_says}
use Rattle.rules.specs.Refusals.{refusal_view}
use Rattle.rules.specs.declared.Refusal.{Refusal}
use Rattle.activity.specs.View.{activity_view}
use Rattle.activity.specs.declared.Activity.{Activity as ActivityStruct}
use Rattle.text.specs.Text.{index_of}
use Rattle.line.specs.Formed.{is_formed}
use Rattle.plan.specs.LineAt.{line_at}
use Rattle.plan.specs.Said.{said_by, LinesIn}
use Rattle.plan.specs.Reached.{lines_from, line_from, lines_view}
use Rattle.plan.proofs.Ids.{says_id, has_ids}
use Rattle.plan.proofs.Cutting.{line_with, lines_end, lines_next, lines_last, not_ended, line_ended, line_fields}
use Rattle.plan.proofs.LineAt.{line_to, of_value}
use Rattle.order.specs.declared.Line.{Line}

-- a line's form, by its fields
pub form_is : (word : List ℕ) (count : ℕ) (line l : List ℕ) → ended line ≡ true → fields line ≡ split_on 9 l → formed word count line ≡ is_formed word count l
unfolding formed is_formed
form_is word count line l e f = rw (e, f)

-- by what stands before its LF
pub form_with : (word : List ℕ) (count : ℕ) (w : List ℕ) → formed word count (line_with w) ≡ is_formed word count w
form_with word count w = form_is word count (line_with w) w (line_ended w) (line_fields w)

-- a line that lacks its LF
pub form_not : (word : List ℕ) (count : ℕ) (line : List ℕ) → ended line ≡ false → formed word count line ≡ false
unfolding formed
form_not word count line e = rw e

-- the numbers of an activity that a formed line says are of 16 bits
pub narrow : (h : Header) (w : List ℕ) (v : ActivityStruct) → is_formed (bytes "act") 15 w ≡ true → activity_of h (split_on 9 w) ≡ value (activity_view v) → (v.id ≤ 65535) × (v.priority ≤ 65535)
unfolding activity_view
narrow h w v f e =
    let l = formed_facts (bytes "act") 15 (line_with w) (form_with (bytes "act") 15 w ∙ f) in
    let r : ActivitySaid h (line_with w) (activity_view v) = of_value (activity_says h (line_with w) l) (rw (line_fields w) e) in
    (r.formed.id, r.formed.priority)

-- one more line
module _ (h : Header) (earlier : List Activity) (n : ℕ) (line : List ℕ) (rest : List (List ℕ)) where
  pub line_2 : formed (bytes "act") 15 line ≡ false → activity_lines h earlier n (line ∷ rest) ≡ no 2 n
  unfolding activity_lines
  line_2 e = rw e

  module _ (e : formed (bytes "act") 15 line ≡ true) where
    pub line_5 : 64 ≤ length earlier → activity_lines h earlier n (line ∷ rest) ≡ no 5 n
    unfolding activity_lines
    line_5 k = rw (e, le-leb _ _ k)

    module _ (k : length earlier < 64) where
      pub line_fault : (x : ℕ) → activity_of h (fields line) ≡ fault x → activity_lines h earlier n (line ∷ rest) ≡ no x n
      unfolding activity_lines on_line
      line_fault x f = rw (e, lt-leb _ _ k, f)

      module _ (a : Activity) (f : activity_of h (fields line) ≡ value a) where
        pub line_6 : has_id a.id earlier ≡ true → activity_lines h earlier n (line ∷ rest) ≡ no 6 n
        unfolding activity_lines on_line
        line_6 g = rw (e, lt-leb _ _ k, f, g)

        pub line_on : has_id a.id earlier ≡ false → activity_lines h earlier n (line ∷ rest) ≡ activity_lines h (earlier ++ (a ∷ [])) (suc n) rest
        unfolding activity_lines on_line
        line_on g = rw (e, lt-leb _ _ k, f, g)

-- behind the lines read, byte `at` of s is next, and the next LF or the end of s is at byte `end`
module _ (h : Header) (s : List ℕ) (read : List Line) (at end : ℕ) (e : end ≡ at + index_of 10 (drop at s)) where
  pub next_ends : at < length s → length s ≤ end → lines_from h s read at ≡ no 2 (length read + 2)
  unfolding lines_from
  next_ends i k = rw (lines_last s at end e i k) (line_2 h _ _ (drop at s) [] (form_not (bytes "act") 15 (drop at s) (not_ended s at end e i k)))

  module _ (i : end < length s) where
    here : lines_from h s read at ≡ activity_lines h (map (said_by h s) read) (length read + 2) (line_with (line_at s at) ∷ lines (drop (end + 1) s))
    unfolding lines_from
    here = rw (lines_next s at end e i, line_to s at end e)

    form_here : formed (bytes "act") 15 (line_with (line_at s at)) ≡ is_formed (bytes "act") 15 (line_at s at)
    form_here = form_with (bytes "act") 15 (line_at s at)

    few_here : length (map (said_by h s) read) ≡ length read
    few_here = length-map read (said_by h s)

    pub next_2 : is_formed (bytes "act") 15 (line_at s at) ≡ false → lines_from h s read at ≡ no 2 (length read + 2)
    next_2 f = here ∙ line_2 h _ _ _ _ (form_here ∙ f)

    module _ (f : is_formed (bytes "act") 15 (line_at s at) ≡ true) where
      pub next_5 : 64 ≤ length read → lines_from h s read at ≡ no 5 (length read + 2)
      next_5 k = here ∙ line_5 h _ _ _ _ (form_here ∙ f) (rw few_here k)

      module _ (k : length read < 64) where
        pub next_fault : (x : ℕ) → activity_of h (split_on 9 (line_at s at)) ≡ fault x → lines_from h s read at ≡ no x (length read + 2)
        next_fault x g = here ∙ line_fault h _ _ _ _ (form_here ∙ f) (rw few_here k) x (rw (line_fields (line_at s at)) g)

        module _ (a : Activity) (g : activity_of h (split_on 9 (line_at s at)) ≡ value a) (q : LinesIn h s read) where
          pub next_6 : list_any (says_id a.id) read ≡ true → lines_from h s read at ≡ no 6 (length read + 2)
          next_6 r = here ∙ line_6 h _ _ _ _ (form_here ∙ f) (rw few_here k) a (rw (line_fields (line_at s at)) g) (has_ids h s read q a.id ∙ r)

          pub next_on : (l : Line) → said_by h s l ≡ a → list_any (says_id a.id) read ≡ false → lines_from h s read at ≡ lines_from h s (read ++ l ∷ []) (end + 1)
          unfolding lines_from
          next_on l v r =
              let n : suc (length read + 2) ≡ length (read ++ l ∷ []) + 2 = omega (arith, length-append read (l ∷ [])) in
              let m : map (said_by h s) (read ++ l ∷ []) ≡ map (said_by h s) read ++ (a ∷ []) = map-append (said_by h s) read (l ∷ []) ∙ ap (λ x. map (said_by h s) read ++ (x ∷ [])) v in
              here ∙ line_on h _ _ _ _ (form_here ∙ f) (rw few_here k) a (rw (line_fields (line_at s at)) g) (has_ids h s read q a.id ∙ r) ∙ rw (n, m)

-- no line is left
pub all_read : (h : Header) (s : List ℕ) (read : List Line) (at : ℕ) → length s ≤ at → lines_from h s read at ≡ lines_view h s (Ok read)
unfolding lines_from lines_view activity_lines
all_read h s read at k = rw (lines_end s at k)

-- the next line is refused
pub line_refused : (h : Header) (s : List ℕ) (read : List Line) (at : ℕ) (q : Refusal) → q.line ≡ length read + 2 → line_from h s read at (Err q.fault) ≡ lines_view h s (Err q)
unfolding line_from lines_view refusal_view
line_refused h s read at q e = rw e

-- the next line is read
pub line_more : (h : Header) (s : List ℕ) (read : List Line) (at : ℕ) (l : Line) → line_from h s read at (Ok l) ≡ lines_from h s (read ++ l ∷ []) at
unfolding line_from
line_more h s read at l = refl
