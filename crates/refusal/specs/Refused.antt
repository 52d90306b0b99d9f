-- The text of a refused file: its number in words, and its line and field as they are read.
use Rattle.std.specs.Prelude.{ℕ, zero, suc, ◌+◌, cond, List, [], ◌∷◌, eqb, length}
use Rattle.rules.specs.Bytes.{bytes}
use Rattle.rules.specs.Number.{decimal}
use Rattle.rules.specs.Lines.{fields, field}
use Rattle.rules.specs.Fields.{number_field}
use Rattle.rules.specs.Faults.{line_at}
use Rattle.rules.specs.Refusals.{Refusal}
use Rattle.wording.specs.Words.{refusal_words, line_words, field_words}
use Rattle.wording.specs.Shown.{shown}
use Rattle.wording.specs.FirstWrong.{read_number, plan_fields, act_fields, first_wrong}
use Rattle.wording.specs.Writing.{together}

-- the horizon that the first line says
unfoldable pub horizon_of : List ℕ → ℕ
horizon_of s = read_number (number_field 1 4096 (field (fields (line_at s 1)) 1))

-- the field of line n, the bytes l, that draws 3, 4, 8 or 13 in a plan of this horizon
unfoldable pub wrong_field : ℕ → ℕ → List ℕ → ℕ
wrong_field horizon n l =
    cond (eqb n 1) (first_wrong 1 (plan_fields (fields l))) (first_wrong 1 (act_fields horizon (fields l)))

-- the field that a refusal is about, or 0: 6 is about the id, 7 about after
unfoldable pub field_of : ℕ → ℕ → ℕ → List ℕ → ℕ
field_of horizon number n l =
    cond (eqb number 2) 0
    (cond (eqb number 5) 0
    (cond (eqb number 6) 1
    (cond (eqb number 7) 6
    (wrong_field horizon n l))))

-- line n, the bytes l, as it is read
unfoldable pub line_text : ℕ → List ℕ → List ℕ
line_text n l =
    together (
    bytes "line "
    ∷ decimal n
    ∷ bytes ": "
    ∷ shown l
    ∷ bytes "\nfields: "
    ∷ decimal (length (fields l))
    ∷ bytes "\n"
    ∷ [])

-- its field i, and what it must be; where i is 0, what the line must be. Fields are counted from 1 for people: i is written as i + 1
unfoldable pub field_text : ℕ → List ℕ → ℕ → List ℕ
field_text n l zero = together (bytes "must be: " ∷ line_words n ∷ bytes "\n" ∷ [])
field_text n l (suc i) =
    together (
    bytes "field "
    ∷ decimal (suc i + 1)
    ∷ bytes ": "
    ∷ shown (field (fields l) (suc i))
    ∷ bytes "\nmust be: "
    ∷ field_words n (suc i)
    ∷ bytes "\n"
    ∷ [])

-- the line that a refusal is about; 1 and 9 are about none
unfoldable pub refused_line : List ℕ → ℕ → ℕ → List ℕ
refused_line s number n =
    let l = line_at s n in
    cond (eqb n 0) [] (together (line_text n l ∷ field_text n l (field_of (horizon_of s) number n l) ∷ []))

-- the number and line of a refusal, and the number in words
unfoldable pub refusal_line : ℕ → ℕ → List ℕ
refusal_line number n =
    together (bytes "refused " ∷ decimal number ∷ bytes " at line " ∷ decimal n ∷ bytes ": " ∷ refusal_words number ∷ bytes "\n" ∷ [])

unfoldable pub refused_text : List ℕ → Refusal → List ℕ
refused_text s r = together (refusal_line r.number r.line ∷ refused_line s r.number r.line ∷ [])
