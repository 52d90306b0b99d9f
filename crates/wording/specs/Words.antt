-- What a refusal's number, a condition and a line's field are, in words.
use Rattle.std.specs.Prelude.{ℕ, cond, List, [], ◌∷◌, eqb, get_or}
use Rattle.rules.specs.Bytes.{bytes}

-- the refusal of number k, from 1; 10 to 12 are of a call and have no words
unfoldable pub refusal_words : ℕ → List ℕ
refusal_words k =
    get_or (
    []
    ∷ bytes "the file has more than 60000 bytes"
    ∷ bytes "the first word or the number of fields is wrong, or the line does not end in LF"
    ∷ bytes "a number or an item of a list is not written as it must be, or the field is empty"
    ∷ bytes "a number is out of its range"
    ∷ bytes "this is the 65th activity line, and a plan has at most 64"
    ∷ bytes "an earlier line has the same id"
    ∷ bytes "after names an id that no activity at an earlier place has"
    ∷ bytes "the list does not rise, a window ends before it begins, or there are too many items"
    ∷ bytes "with nothing placed, the charge at the horizon is under the handover charge"
    ∷ []
    ∷ []
    ∷ []
    ∷ bytes "a preferred tick lies outside its window"
    ∷ []) k []

-- what condition number c asks
unfoldable pub condition_words : ℕ → List ℕ
condition_words c =
    get_or (
    bytes "the start is in one of its windows"
    ∷ bytes "each activity in after is placed and ends by the start"
    ∷ bytes "no placed activity that shares a unit holds one of its ticks"
    ∷ bytes "every need, its own and those of the placed, is met in each tick that its activity holds"
    ∷ bytes "in every tick the engines sum to at most those of the plan"
    ∷ bytes "in every tick the peaks sum to at most the peak limit"
    ∷ bytes "the charge keeps the floor, and the handover charge at the horizon"
    ∷ bytes "the volumes sum to at most the volume limit"
    ∷ bytes "the warm-up begins at tick 0 or later"
    ∷ []) c []

-- what the first line must be, and every other
unfoldable pub plan_line_words : List ℕ
plan_line_words = bytes "12 fields parted by one tab each, the first of them plan, and LF at the end"

unfoldable pub act_line_words : List ℕ
act_line_words = bytes "15 fields parted by one tab each, the first of them act, and LF at the end"

-- what field number k of the first line must be
unfoldable pub plan_field_words : ℕ → List ℕ
plan_field_words k =
    get_or (
    bytes "plan"
    ∷ bytes "horizon, 1 to 4096"
    ∷ bytes "minute of day at tick 0, 0 to 1439"
    ∷ bytes "capacity, 1 to 1000000000"
    ∷ bytes "floor, 0 to the capacity"
    ∷ bytes "first charge, the floor to the capacity"
    ∷ bytes "charging rate, 0 to 1000000"
    ∷ bytes "handover charge, 0 to the capacity"
    ∷ bytes "engines, 0 to 64"
    ∷ bytes "peak limit, 0 to 1000000"
    ∷ bytes "volume limit, 0 to 1000000000"
    ∷ bytes "heater draw, 0 to 1000000"
    ∷ []) k []

-- what field number k of an activity's line must be
unfoldable pub act_field_words : ℕ → List ℕ
act_field_words k =
    get_or (
    bytes "act"
    ∷ bytes "id, 0 to 65535"
    ∷ bytes "priority, 0 to 65535"
    ∷ bytes "duration, 1 to the horizon"
    ∷ bytes "preferred tick, 0 to 4095"
    ∷ bytes "windows, - or up to 4 of the form a:p:b, 0 to 4095, each a at most its b and above the b before, each p from its a to its b"
    ∷ bytes "after, - or up to 8 ids, 0 to 65535, rising"
    ∷ bytes "units, - or up to 32 numbers, 0 to 31, rising"
    ∷ bytes "needs, - or up to 4 of the form v=k, v 0 to 7 and rising, k 0 to 255"
    ∷ bytes "sets, - or up to 4 of the form v=k, v 0 to 7 and rising, k 0 to 255"
    ∷ bytes "engines, 0 to 64"
    ∷ bytes "peak, 0 to 1000000"
    ∷ bytes "draw, 0 to 1000000"
    ∷ bytes "volume, 0 to 1000000000"
    ∷ bytes "warm, 0 or 1"
    ∷ []) k []

-- what line n must be
unfoldable pub line_words : ℕ → List ℕ
line_words n = cond (eqb n 1) plan_line_words act_line_words

-- what field i of line n must be
unfoldable pub field_words : ℕ → ℕ → List ℕ
field_words n i = cond (eqb n 1) (plan_field_words i) (act_field_words i)
