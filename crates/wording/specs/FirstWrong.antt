-- Which field of a line is the first that is wrong, by what documents 01 and 02 ask of it.
use Rattle.std.specs.Prelude.{ℕ, suc, Bool, true, false, cond, List, [], ◌∷◌, eqb, Option, Some, None}
use Rattle.rules.specs.Lines.{field}
use Rattle.rules.specs.Fields.{Read, value, fault, number_field, list_field, numbers, window_kind, setting_kind}

-- whether a field is read as a value
unfoldable pub is_read : {A : Type 0} → Read A → Bool
is_read (value x) = true
is_read (fault k) = false

-- the number that is read, or 0
unfoldable pub read_number : Read ℕ → ℕ
read_number (value x) = x
read_number (fault k) = 0

-- the fields behind the first word of a plan's first line, left to right: whether each is right
unfoldable pub plan_fields : List (List ℕ) → List Bool
plan_fields fs =
    let capacity = read_number (number_field 1 1000000000 (field fs 3)) in
    let floor = read_number (number_field 0 capacity (field fs 4)) in
    is_read (number_field 1 4096 (field fs 1))
    ∷ is_read (number_field 0 1439 (field fs 2))
    ∷ is_read (number_field 1 1000000000 (field fs 3))
    ∷ is_read (number_field 0 capacity (field fs 4))
    ∷ is_read (number_field floor capacity (field fs 5))
    ∷ is_read (number_field 0 1000000 (field fs 6))
    ∷ is_read (number_field 0 capacity (field fs 7))
    ∷ is_read (number_field 0 64 (field fs 8))
    ∷ is_read (number_field 0 1000000 (field fs 9))
    ∷ is_read (number_field 0 1000000000 (field fs 10))
    ∷ is_read (number_field 0 1000000 (field fs 11))
    ∷ []

-- those of an activity's line, in a plan of this horizon
unfoldable pub act_fields : ℕ → List (List ℕ) → List Bool
act_fields horizon fs =
    is_read (number_field 0 65535 (field fs 1))
    ∷ is_read (number_field 0 65535 (field fs 2))
    ∷ is_read (number_field 1 horizon (field fs 3))
    ∷ is_read (number_field 0 4095 (field fs 4))
    ∷ is_read (list_field window_kind (field fs 5))
    ∷ is_read (list_field (numbers 65535 8) (field fs 6))
    ∷ is_read (list_field (numbers 31 32) (field fs 7))
    ∷ is_read (list_field setting_kind (field fs 8))
    ∷ is_read (list_field setting_kind (field fs 9))
    ∷ is_read (number_field 0 64 (field fs 10))
    ∷ is_read (number_field 0 1000000 (field fs 11))
    ∷ is_read (number_field 0 1000000 (field fs 12))
    ∷ is_read (number_field 0 1000000000 (field fs 13))
    ∷ is_read (number_field 0 1 (field fs 14))
    ∷ []

-- the number of the first field that is wrong, where the first of these has number i; 0 where none is
unfoldable pub first_wrong : ℕ → List Bool → ℕ
first_wrong i [] = 0
first_wrong i (right ∷ rest) = cond right (first_wrong (suc i) rest) i

-- a field by its number, which is none where that is 0
abbrev pub field_in : ℕ → Option ℕ
field_in k = cond (eqb k 0) None (Some k)
