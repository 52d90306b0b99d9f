-- What reading the lines tells: of an accepted file its plan, line by line, and of a refused one what is wrong (refusals 2 to 6, 8).
-- Assumes nothing.
use Prim.Native.Nat.{ℕ, suc, ◌<◌, ◌≤◌}
use mathlib.Core.Path.{◌≡◌, refl, sym, ◌∙◌, ap, subst}
use mathlib.Core.Logic.{◌≢◌}
use mathlib.Core.Bool.{true, false, ◌&&◌}
use mathlib.Core.List.{List, [], ◌∷◌, ◌++◌, Memᴰ}
use native.Mathlib.Nat.{lt_trans, not-suc-le-zero}
use native.Mathlib.Omega.{arith}
use lib.Dec.{leb, eqb}
use lib.ListN.{length, get_or, drop, length-drop, get_or-append}
use borrow.Author.Tests.{leb-true, leb-false, eqb-true, eqb-false}
use Rattle.rules.specs.Bytes.{bytes, same}
use Rattle.rules.specs.Plan.{Header, Activity, Plan}
use Rattle.rules.specs.Lines.{lines, ended, fields, field}
use Rattle.rules.specs.Fields.{Read}
use Rattle.rules.specs.Outcomes.{no_activity}
use Rattle.rules.specs.Reading.{Reading, accepted, refused, formed, on_line, has_id, activity_lines, plan_lines}
use Rattle.rules.specs.Print.{header_text, activity_text, activities_text, plan_text}
use Rattle.rules.specs.WellFormed.{ActivityFormed}
use Rattle.rules.specs.Forms.{last_byte, LineFormed, LineFault, no_lf, wrong_count, wrong_word}
use Rattle.rules.specs.Faults.{line_at, Begins, ActivityFault, act_line, line_65, act_field, same_id, FileFault, empty, plan_line, plan_field, activity}
use Rattle.rules.specs.Refusals.{Refusal}
use Rattle.rules.proofs.Tests.{and_left, and_right, both_ways}
use Rattle.rules.proofs.Says.{by_test, by_check, one_fails, Says, said, faulted}
use Rattle.rules.proofs.Join.{same_eq, eq_same, joined, joined_lines}
use Rattle.rules.proofs.LineFacts.{HeaderSaid, header_says, ActivitySaid, activity_says}
use Rattle.rules.proofs.ListAt.{rest_at, length_more, each_more, mem_at, any_found, any_none}

-- a reading tells P of its plan, or F of its refusal
pub data Tells (P : Plan → Type 0) (F : ℕ → ℕ → Type 0) : Reading → Type 0 where
  told : {p : Plan} → P p → Tells P F (accepted p)
  refusing : {r : Refusal} → F r.number r.line → Tells P F (refused r)

-- what a line's fields say, then what comes after
on_line_lem : {A : Type 0} {P : A → Type 0} {G : ℕ → Type 0} {Q : Plan → Type 0} {F : ℕ → ℕ → Type 0} (n : ℕ) {m : Read A} {next : A → Reading} → Says P G m → ((k : ℕ) → G k → F k n) → ((a : A) → P a → Tells Q F (next a)) → Tells Q F (on_line n m next)
unfolding on_line
on_line_lem n (said p) bad good = good _ p
on_line_lem n (faulted g) bad good = refusing (bad _ g)

pub formed_facts : (word : List ℕ) (count : ℕ) (l : List ℕ) → formed word count l ≡ true → LineFormed word count l
unfolding formed ended
formed_facts word count l e =
    let front : (eqb (last_byte l) 10 && eqb (length (fields l)) count) ≡ true = and_left _ _ e in
    record {
      ends = eqb-true _ 10 (and_left _ _ front);
      field_count = eqb-true _ count (and_right (eqb (last_byte l) 10) _ front);
      first_word = same_eq _ word (and_right (eqb (last_byte l) 10 && eqb (length (fields l)) count) _ e);
    }

formed_fault : (word : List ℕ) (count : ℕ) (l : List ℕ) → formed word count l ≡ false → LineFault word count l
unfolding formed ended
formed_fault word count l e =
    one_fails (eqb (last_byte l) 10 && eqb (length (fields l)) count) (same (field (fields l) 0) word) e
    (λ f. one_fails (eqb (last_byte l) 10) (eqb (length (fields l)) count) f
    (λ g. no_lf (eqb-false _ 10 g))
    (λ g. wrong_count (eqb-false _ count g)))
    (λ f. wrong_word (λ q. both_ways (eq_same _ word q) f))

-- each of the activities that a file begins with is right
pub each_formed : {s : List ℕ} {h : Header} {xs : List Activity} → Begins s h xs → (a : Activity) → Memᴰ a xs → ActivityFormed h a
each_formed {h = h} E a m = let r = mem_at no_activity m in subst (ActivityFormed h) r.2 (E.each r.0 r.1)

-- the file is the text of a plan in whose lines nothing is wrong
pub record PlanRead (s : List ℕ) (p : Plan) : Type 0 where
  pub begins : Begins s p.header p.activities
  pub text : plan_text p ≡ s

-- what reading the lines tells
abbrev pub LinesTell : List ℕ → Reading → Type 0
LinesTell s = Tells (PlanRead s) (FileFault s)

-- the lines of activities that are written as their lines
activities_joined : (xs : List Activity) (ls : List (List ℕ)) → length ls ≡ length xs → ((i : ℕ) → i < length xs → activity_text (get_or xs i no_activity) ≡ get_or ls i []) → activities_text xs ≡ joined ls
unfolding activities_text
activities_joined [] [] n f = refl
activities_joined [] (l ∷ ls) n f = absurd (omega arith)
activities_joined (x ∷ xs) [] n f = absurd (omega arith)
activities_joined (x ∷ xs) (l ∷ ls) n f = rw (f 0 (omega arith), activities_joined xs ls (omega arith) (λ i k. f (suc i) (omega arith)))

file_joined : (h : Header) (xs : List Activity) (ls : List (List ℕ)) → length ls ≡ suc (length xs) → header_text h ≡ get_or ls 0 [] → ((i : ℕ) → i < length xs → activity_text (get_or xs i no_activity) ≡ get_or ls (suc i) []) → header_text h ++ activities_text xs ≡ joined ls
file_joined h xs [] n e f = absurd (omega arith)
file_joined h xs (l ∷ ls) n e f = rw (e, activities_joined xs ls (omega arith) f)

-- the header's line alone
header_begins : (s : List ℕ) (h : Header) → HeaderSaid (line_at s 1) h → Begins s h []
header_begins s h H =
    record {
      header = H.formed;
      header_line = H.text;
      few = omega arith;
      each = λ i k. absurd (not-suc-le-zero k);
      activity_line = λ i k. absurd (not-suc-le-zero k);
      ids = λ i j h k. absurd (not-suc-le-zero k);
    }

module _ (s : List ℕ) (h : Header) where
  -- one activity more
  begins_more : (xs : List Activity) (a : Activity) → Begins s h xs → length xs < 64 → ActivitySaid h (line_at s (suc (suc (length xs)))) a → has_id a.id xs ≡ false → Begins s h (xs ++ (a ∷ []))
  unfolding has_id
  begins_more xs a E n A e =
      record {
        header = E.header;
        header_line = E.header_line;
        few = rw (length_more xs a) n;
        each = each_more no_activity (λ i b. ActivityFormed h b) xs a E.each A.formed;
        activity_line = each_more no_activity (λ i b. activity_text b ≡ line_at s (suc (suc i))) xs a E.activity_line A.text;
        ids = λ i j k l. each_more no_activity (λ j b. (i : ℕ) → i < j → (get_or (xs ++ (a ∷ [])) i no_activity).id ≢ b.id) xs a
            (λ j l i k. rw (get_or-append xs (a ∷ []) no_activity i (lt_trans k l)) (E.ids i j k l))
            (λ i k. rw (get_or-append xs (a ∷ []) no_activity i k) (eqb-false _ _ (any_none no_activity (λ b. eqb b.id a.id) xs e i k))) j l i k;
      }

  -- an id that an earlier line has
  id_again : (xs : List Activity) (a : Activity) (l : List ℕ) → length xs < 64 → ActivitySaid h l a → has_id a.id xs ≡ true → ActivityFault h xs l 6
  unfolding has_id
  id_again xs a l n A e =
      let r = any_found no_activity (λ b. eqb b.id a.id) xs e in
      same_id n a A.formed A.text r.0 r.1 (eqb-true _ _ r.2)

  -- the line after those of xs
  line_tells : (xs : List Activity) (rest : List (List ℕ)) → Begins s h xs → suc (length xs) < length (lines s)
      → ((a : Activity) → Begins s h (xs ++ (a ∷ [])) → LinesTell s (activity_lines h (xs ++ (a ∷ [])) (suc (suc (suc (length xs)))) rest))
      → LinesTell s (activity_lines h xs (suc (suc (length xs))) (line_at s (suc (suc (length xs))) ∷ rest))
  unfolding activity_lines
  line_tells xs rest E there next =
      by_check (LinesTell s) (formed (bytes "act") 15 l)
      (λ e. refusing (here (act_line (formed_fault (bytes "act") 15 l e))))
      (λ e. let L : LineFormed (bytes "act") 15 l = formed_facts (bytes "act") 15 l e in
      by_test (LinesTell s) (leb 64 (length xs))
      (λ f. refusing (here (line_65 L (full (leb-true 64 (length xs) f)))))
      (λ f. on_line_lem (suc (suc (length xs))) (activity_says h l L)
      (λ k g. here (act_field L (leb-false 64 (length xs) f) g))
      (λ a A. by_test (LinesTell s) (has_id a.id xs)
      (λ g. refusing (here (id_again xs a l (leb-false 64 (length xs) f) A g)))
      (λ g. next a (begins_more xs a E (leb-false 64 (length xs) f) A g)))))
    where
      l : List ℕ
      l = line_at s (suc (suc (length xs)))

      here : {k : ℕ} → ActivityFault h xs (line_at s (suc (suc (length xs)))) k → FileFault s k (suc (suc (length xs)))
      here f = activity h xs E there f

      full : 64 ≤ length xs → length xs ≡ 64
      full k = omega (arith, E.few)

  activities_tell : (xs : List Activity) (rest : List (List ℕ)) → Begins s h xs → suc (length xs) ≤ length (lines s) → drop (suc (length xs)) (lines s) ≡ rest → LinesTell s (activity_lines h xs (suc (suc (length xs))) rest)
  unfolding activity_lines plan_text
  activities_tell xs [] E there d =
      told record { begins = E; text = file_joined h xs (lines s) (omega (arith, sym (length-drop (suc (length xs)) (lines s)) ∙ ap length d)) E.header_line E.activity_line ∙ joined_lines s }
  activities_tell xs (l ∷ rest) E there d =
      let r = rest_at [] (suc (length xs)) (lines s) d in
      subst (λ (l : List ℕ). LinesTell s (activity_lines h xs (suc (suc (length xs))) (l ∷ rest))) r.1
      (line_tells xs rest E r.0 (λ a E. rw (length_more xs a) at (activities_tell (xs ++ (a ∷ [])) rest E (rw (length_more xs a) r.0) (rw (length_more xs a) r.2))))

pub lines_tell : (s : List ℕ) (ls : List (List ℕ)) → lines s ≡ ls → LinesTell s (plan_lines ls)
unfolding plan_lines
lines_tell s [] e = refusing (empty (sym (joined_lines s) ∙ ap joined e))
lines_tell s (l ∷ rest) e = subst (λ (l : List ℕ). LinesTell s (plan_lines (l ∷ rest))) (ap (λ (ls : List (List ℕ)). get_or ls 0 []) e) first_tells
  where
    first_tells : LinesTell s (plan_lines (line_at s 1 ∷ rest))
    first_tells =
        by_check (LinesTell s) (formed (bytes "plan") 12 (line_at s 1))
        (λ f. refusing (plan_line (formed_fault (bytes "plan") 12 (line_at s 1) f)))
        (λ f. let L : LineFormed (bytes "plan") 12 (line_at s 1) = formed_facts (bytes "plan") 12 (line_at s 1) f in
        on_line_lem 1 (header_says (line_at s 1) L)
        (λ k g. plan_field L g)
        (λ h H. activities_tell s h [] rest (header_begins s h H) (rw e (omega arith)) (ap (drop 1) e)))
