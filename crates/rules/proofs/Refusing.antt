-- The bytes of a plan file draw no refusal but 1 to 9 and 13.
-- Assumes nothing.
use Prim.Native.Nat.{ℕ, suc, ◌≤◌}
use mathlib.Core.Path.{◌≡◌, refl, sym, ap}
use mathlib.Core.Logic.{◌≢◌}
use mathlib.Core.Bool.{Bool, true, false, cond, not, ◌&&◌, ◌||◌}
use mathlib.Core.List.{List, [], ◌∷◌, ◌++◌, map}
use mathlib.Core.Option.{Option, none, some}
use native.Mathlib.Omega.{arith}
use lib.Dec.{leb, ltb, eqb}
use lib.ListN.{length}
use borrow.Author.Tests.{leb-true, eqb-true}
use Rattle.rules.specs.Bytes.{bytes, same}
use Rattle.rules.specs.Tests.{every}
use Rattle.rules.specs.Number.{is_number, value_of}
use Rattle.rules.specs.Plan.{Header, Activity, Plan}
use Rattle.rules.specs.Lines.{split_on, fields, lines}
use Rattle.rules.specs.Order.{order}
use Rattle.rules.specs.Fields.{Read, value, fault, ◌>>=◌, within, number_field, Kind, rising, items, list_field}
use Rattle.rules.specs.HeaderLine.{header_of}
use Rattle.rules.specs.ActivityLine.{activity_of}
use Rattle.rules.specs.Reading.{Reading, accepted, refused, no, formed, on_line, has_id, activity_lines, plan_lines, misplaced, out_of_reach, judged, after_lines, reading}
use Rattle.rules.specs.Refusals.{Refusal}
use Rattle.rules.proofs.Tests.{and_left, and_right}
use Rattle.rules.proofs.Says.{one_holds}

-- the numbers of a file's refusals: "10 to 12 are of the call" (01); 13 (02, [2])
abbrev pub of_file : ℕ → Bool
of_file k = leb 1 k && (leb k 9 || eqb k 13)

pub file_number : (k : ℕ) → of_file k ≡ true → (1 ≤ k) × (k ≤ 13) × (k ≢ 10)
file_number k e =
    let some : 1 ≤ k = leb-true 1 k (and_left _ _ e) in
    one_holds (leb k 9) (eqb k 13) (and_right (leb 1 k) _ e)
    (λ l. let few : k ≤ 9 = leb-true k 9 l in (some, omega arith, λ h. omega arith))
    (λ l. let is : k ≡ 13 = eqb-true k 13 l in (some, omega arith, λ h. omega arith))

-- ---- a field's faults are of these
record FieldFault {A : Type 0} (x : Read A) : Type 0 where
  number : (k : ℕ) → x ≡ fault k → of_file k ≡ true

no_fault : {A : Type 0} (a : A) → FieldFault (value a)
no_fault a = record { number = λ k e. let z : ◌≡◌ {A = ℕ} 0 1 = cc in absurd (omega arith) }

one_fault : {A : Type 0} (j : ℕ) → of_file j ≡ true → FieldFault {A = A} (fault j)
one_fault j h = record { number = λ k e. let q : j ≡ k = cc in rw (← q) h }

fault_cond : {A : Type 0} (t : Bool) (x y : Read A) → FieldFault x → FieldFault y → FieldFault (cond t x y)
fault_cond true x y F G = F
fault_cond false x y F G = G

fault_next : {A B : Type 0} (x : Read A) (next : A → Read B) → FieldFault x → ((a : A) → FieldFault (next a)) → FieldFault (x >>= next)
unfolding ◌>>=◌
fault_next (value a) next F G = G a
fault_next (fault k) next F G = one_fault k (F.number k refl)

number_fault : (lo hi : ℕ) (s : List ℕ) → FieldFault (number_field lo hi s)
unfolding number_field
number_fault lo hi s =
    fault_cond (not (is_number s)) _ _ (one_fault 3 refl)
    (fault_cond (not (within lo hi (value_of s))) _ _ (one_fault 4 refl)
    (no_fault _))

list_fault : {A : Type 0} (k : Kind A) (s : List ℕ) → FieldFault (list_field k s)
unfolding list_field items
list_fault k s =
    let parts = split_on 44 s in
    let xs = map k.item_of parts in
    fault_cond (same s (bytes "-")) _ _ (no_fault _)
    (fault_cond (not (every k.is_item parts)) _ _ (one_fault 3 refl)
    (fault_cond (not (every k.in_range xs)) _ _ (one_fault 4 refl)
    (fault_cond (not (rising k.low k.high 0 xs && leb (length parts) k.most)) _ _ (one_fault 8 refl)
    (fault_cond (not (every k.in_window xs)) _ _ (one_fault 13 refl)
    (no_fault _)))))

header_fault : (fs : List (List ℕ)) → FieldFault (header_of fs)
unfolding header_of
header_fault fs = search (fault_next, number_fault, no_fault) depth 20

activity_fault : (h : Header) (fs : List (List ℕ)) → FieldFault (activity_of h fs)
unfolding activity_of
activity_fault h fs = search (fault_next, number_fault, list_fault, no_fault) depth 20

-- ---- so are a plan file's refusals
record FileRefusal (x : Reading) : Type 0 where
  number : (r : Refusal) → x ≡ refused r → of_file r.number ≡ true

file_accepted : (p : Plan) → FileRefusal (accepted p)
file_accepted p = record { number = λ r e. let z : ◌≡◌ {A = ℕ} 0 1 = cc in absurd (omega arith) }

file_no : (k n : ℕ) → of_file k ≡ true → FileRefusal (no k n)
file_no k n h = record { number = λ r e. let q : record { number = k; line = n } ≡ r = cc in rw (sym (ap (λ x. x.number) q)) h }

file_cond : (t : Bool) (x y : Reading) → FileRefusal x → FileRefusal y → FileRefusal (cond t x y)
file_cond true x y F G = F
file_cond false x y F G = G

file_line : {A : Type 0} (n : ℕ) (x : Read A) (next : A → Reading) → FieldFault x → ((a : A) → FileRefusal (next a)) → FileRefusal (on_line n x next)
unfolding on_line
file_line n (value a) next F G = G a
file_line n (fault k) next F G = file_no k n (F.number k refl)

file_activities : (h : Header) (earlier : List Activity) (n : ℕ) (ls : List (List ℕ)) → FileRefusal (activity_lines h earlier n ls)
unfolding activity_lines
file_activities h earlier n [] = file_accepted _
file_activities h earlier n (l ∷ rest) =
    file_cond (not (formed (bytes "act") 15 l)) _ _ (file_no 2 n refl)
    (file_cond (leb 64 (length earlier)) _ _ (file_no 5 n refl)
    (file_line n (activity_of h (fields l)) _ (activity_fault h (fields l)) (λ a.
    file_cond (has_id a.id earlier) _ _ (file_no 6 n refl)
    (file_activities h (earlier ++ (a ∷ [])) (suc n) rest))))

file_lines : (ls : List (List ℕ)) → FileRefusal (plan_lines ls)
unfolding plan_lines
file_lines [] = file_no 2 1 refl
file_lines (l ∷ rest) =
    file_cond (not (formed (bytes "plan") 12 l)) _ _ (file_no 2 1 refl)
    (file_line 1 (header_of (fields l)) _ (header_fault (fields l)) (λ h. file_activities h [] 2 rest))

file_judged : (p : Plan) (o : Option Activity) → FileRefusal (judged p o)
unfolding judged
file_judged p (some a) = file_no 7 _ refl
file_judged p none = file_cond (out_of_reach p.header) _ _ (file_no 9 0 refl) (file_accepted p)

file_after : (x : Reading) → FileRefusal x → FileRefusal (after_lines x)
unfolding after_lines
file_after (accepted p) F = file_judged p (misplaced [] (order p.activities))
file_after (refused r) F = F

pub reading_number : (s : List ℕ) (r : Refusal) → reading s ≡ refused r → of_file r.number ≡ true
unfolding reading
reading_number s = (file_cond (ltb 60000 (length s)) _ _ (file_no 1 0 refl) (file_after (plan_lines (lines s)) (file_lines (lines s)))).number
