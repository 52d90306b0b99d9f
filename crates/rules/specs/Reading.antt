-- Reading a plan file, with the refusals 1 to 9 and 13 in their order (01, When the planner says no; 13: 02, [2]).
use Rattle.std.specs.Prelude.{ℕ, suc, Bool, cond, not, ◌&&◌, List, [], ◌∷◌, ◌++◌, leb, ltb, eqb, pos, length}
use Rattle.std.proofs.Math.Option.{Option, none, some}
use Rattle.std.specs.Int.Signed.{lt_z}
use Rattle.rules.specs.Bytes.{bytes, same}
use Rattle.rules.specs.Tests.{every, any_of}
use Rattle.rules.specs.Plan.{Header, Activity, Plan, most_activities}
use Rattle.rules.specs.Lines.{lines, ended, fields, field}
use Rattle.rules.specs.Fields.{Read, value, fault}
use Rattle.rules.specs.HeaderLine.{header_of}
use Rattle.rules.specs.ActivityLine.{activity_of}
use Rattle.rules.specs.Order.{order}
use Rattle.rules.specs.MeetsB.{projection}
use Rattle.rules.specs.Refusals.{Refusal}

-- what is read: a plan, or one refusal
pub data Reading : Type 0 where
  accepted : Plan → Reading
  refused : Refusal → Reading

-- refused with a number and a line
abbrev pub no : ℕ → ℕ → Reading
no k n = refused (record { number = k; line = n })

-- what check 2 asks of a line: its LF, its number of fields, its first word
unfoldable pub formed : List ℕ → ℕ → List ℕ → Bool
formed word count l = ended l && eqb (length (fields l)) count && same (field (fields l) 0) word

-- go on with what line n's fields say, or refuse its fault
unfoldable pub on_line : {A : Type 0} → ℕ → Read A → (A → Reading) → Reading
on_line n (value a) next = next a
on_line n (fault k) next = no k n

unfoldable pub has_id : ℕ → List Activity → Bool
has_id id earlier = any_of (λ a. eqb a.id id) earlier

-- the activity lines from line n on, after the activities of earlier lines: 2, 5, the fields, 6
unfoldable pub activity_lines : Header → List Activity → ℕ → List (List ℕ) → Reading
activity_lines h earlier n [] = accepted (record { header = h; activities = earlier })
activity_lines h earlier n (l ∷ rest) =
    cond (not (formed (bytes "act") 15 l)) (no 2 n)
    (cond (leb most_activities (length earlier)) (no 5 n)
    (on_line n (activity_of h (fields l)) (λ a.
    cond (has_id a.id earlier) (no 6 n)
    (activity_lines h (earlier ++ (a ∷ [])) (suc n) rest))))

-- all lines, counted from 1
unfoldable pub plan_lines : List (List ℕ) → Reading
plan_lines [] = no 2 1
plan_lines (l ∷ rest) =
    cond (not (formed (bytes "plan") 12 l)) (no 2 1)
    (on_line 1 (header_of (fields l)) (λ h.
    activity_lines h [] 2 rest))

-- the first, by place, whose `after` names no activity at an earlier place
unfoldable pub misplaced : List Activity → List Activity → Option Activity
misplaced earlier [] = none
misplaced earlier (a ∷ rest) = cond (every (λ id. has_id id earlier) a.after) (misplaced (a ∷ earlier) rest) (some a)

-- the line of the activity of this id, where the activities stand from line n on
unfoldable pub line_number : ℕ → ℕ → List Activity → ℕ
line_number id n [] = 0
line_number id n (a ∷ rest) = cond (eqb a.id id) n (line_number id (suc n) rest)

-- 9: c(T) with nothing placed is under the handover charge
unfoldable pub out_of_reach : Header → Bool
out_of_reach h = lt_z (projection h []).last (pos h.handover)

-- 7, with the line of the misplaced activity; then 9
unfoldable pub judged : Plan → Option Activity → Reading
judged p (some a) = no 7 (line_number a.id 2 p.activities)
judged p none = cond (out_of_reach p.header) (no 9 0) (accepted p)

unfoldable pub after_lines : Reading → Reading
after_lines (accepted p) = judged p (misplaced [] (order p.activities))
after_lines (refused r) = refused r

-- what the plan file s says, or its one refusal: "1 comes first"; "A plan is accepted when its bytes alone draw no refusal"
unfoldable pub reading : List ℕ → Reading
reading s = cond (ltb 60000 (length s)) (no 1 0) (after_lines (plan_lines (lines s)))
