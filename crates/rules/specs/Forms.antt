-- What a line and its fields must be, and what is wrong in a refused one, in plain facts (01, The plan file; When the planner says no: 2, 3, 4, 8; 02, [2]: 13).
use Rattle.std.specs.Prelude.{ℕ, suc, ◌-◌, ◌<◌, ◌≤◌, ◌≡◌, ◌≢◌, true, false, length, get_or}
use mathlib.Core.List.{List, [], ◌∷◌, map, Memᴰ}
use Rattle.rules.specs.Bytes.{bytes}
use Rattle.rules.specs.Number.{is_number, value_of}
use Rattle.rules.specs.Lines.{split_on, fields, field}
use Rattle.rules.specs.Fields.{Kind, numbers, window_kind, setting_kind}
use Rattle.rules.specs.WellFormed.{Rises}

-- the byte at the end of the line
abbrev pub last_byte : List ℕ → ℕ
last_byte l = get_or l (length l - 1) 0

-- what check 2 asks of a line: its LF, its number of fields, its first word
pub record LineFormed (word : List ℕ) (count : ℕ) (l : List ℕ) : Type 0 where
  pub ends : last_byte l ≡ 10
  pub field_count : length (fields l) ≡ count
  pub first_word : field (fields l) 0 ≡ word

-- 2: "first word or field count wrong, or no LF"
pub data LineFault (word : List ℕ) (count : ℕ) (l : List ℕ) : Type 0 where
  no_lf : last_byte l ≢ 10 → LineFault word count l
  wrong_count : length (fields l) ≢ count → LineFault word count l
  wrong_word : field (fields l) 0 ≢ word → LineFault word count l

-- the field s is a number from lo to hi
pub record NumberFormed (lo hi : ℕ) (s : List ℕ) : Type 0 where
  pub written : is_number s ≡ true
  pub low : lo ≤ value_of s
  pub high : value_of s ≤ hi

-- it is not: 3, "malformed number"; 4, "number out of range"
pub data NumberFault (lo hi : ℕ) (s : List ℕ) : ℕ → Type 0 where
  no_number : is_number s ≡ false → NumberFault lo hi s 3
  below : is_number s ≡ true → value_of s < lo → NumberFault lo hi s 4
  above : is_number s ≡ true → hi < value_of s → NumberFault lo hi s 4

-- a list field s, and the parts between its commas
module _ {A : Type 0} (k : Kind A) (s : List ℕ) where
  -- each part is an item
  abbrev pub Written : Type 0
  Written = (w : List ℕ) → Memᴰ w (split_on 44 s) → k.is_item w ≡ true

  -- each item is in its range
  abbrev pub Ranged : Type 0
  Ranged = (w : List ℕ) → Memᴰ w (split_on 44 s) → k.in_range (k.item_of w) ≡ true

  -- the items rise
  abbrev pub Rising : Type 0
  Rising = Rises k.low k.high 0 (map k.item_of (split_on 44 s))

  -- they are not too many
  abbrev pub Few : Type 0
  Few = length (split_on 44 s) ≤ k.most

  -- each preferred tick is in its window
  abbrev pub InWindows : Type 0
  InWindows = (w : List ℕ) → Memᴰ w (split_on 44 s) → k.in_window (k.item_of w) ≡ true

  -- the field is a list of this kind
  pub data ItemsFormed : Type 0 where
    no_items : s ≡ bytes "-" → ItemsFormed
    all_items : Written → Ranged → Rising → Few → InWindows → ItemsFormed

  -- it is not: 3, "malformed item"; 4, "number out of range"; 8, "list not rising, a > b, or too many items"; "each 3, 4, 8 over its whole field"; 13, "outside its window .. judged with the list faults, after 8"
  pub data ItemsFault : ℕ → Type 0 where
    no_item : s ≢ bytes "-" → (w : List ℕ) → Memᴰ w (split_on 44 s) → k.is_item w ≡ false → ItemsFault 3
    out_of_range : s ≢ bytes "-" → Written → (w : List ℕ) → Memᴰ w (split_on 44 s) → k.in_range (k.item_of w) ≡ false → ItemsFault 4
    no_rise : s ≢ bytes "-" → Written → Ranged → (Rising → ⊥) → ItemsFault 8
    too_many : s ≢ bytes "-" → Written → Ranged → k.most < length (split_on 44 s) → ItemsFault 8
    out_of_window : s ≢ bytes "-" → Written → Ranged → Rising → Few → (w : List ℕ) → Memᴰ w (split_on 44 s) → k.in_window (k.item_of w) ≡ false → ItemsFault 13

-- what a field must be: a number from lo to hi; numbers to hi, up to `most`; windows; needs or sets
pub data Form : Type 0 where
  number : ℕ → ℕ → Form
  number_list : ℕ → ℕ → Form
  window_list : Form
  setting_list : Form

abbrev pub FieldFormed : Form → List ℕ → Type 0
FieldFormed (number lo hi) s = NumberFormed lo hi s
FieldFormed (number_list hi most) s = ItemsFormed (numbers hi most) s
FieldFormed window_list s = ItemsFormed window_kind s
FieldFormed setting_list s = ItemsFormed setting_kind s

-- refused with number k
abbrev pub FieldFault : Form → List ℕ → ℕ → Type 0
FieldFault (number lo hi) s k = NumberFault lo hi s k
FieldFault (number_list hi most) s k = ItemsFault (numbers hi most) s k
FieldFault window_list s k = ItemsFault window_kind s k
FieldFault setting_list s k = ItemsFault setting_kind s k

-- what field i + 1 must be, where the fields after the first word must be of these forms
abbrev pub form_at : List Form → ℕ → Form
form_at forms i = get_or forms i window_list

-- fields "left to right": field i + 1 is refused with number k, and those before it are right
pub record FieldsFault (forms : List Form) (fs : List (List ℕ)) (k : ℕ) : Type 0 where
  pub i : ℕ
  pub inside : i < length forms
  pub before : (j : ℕ) → j < i → FieldFormed (form_at forms j) (field fs (suc j))
  pub wrong : FieldFault (form_at forms i) (field fs (suc i)) k

-- "horizon T 1 to 4,096; minute of day at tick 0, 0 to 1,439; capacity 1 to 1,000,000,000; floor 0 to capacity; first charge, floor to capacity; .."
abbrev pub plan_forms : List (List ℕ) → List Form
plan_forms fs =
    number 1 4096
    ∷ number 0 1439
    ∷ number 1 1000000000
    ∷ number 0 (value_of (field fs 3))
    ∷ number (value_of (field fs 4)) (value_of (field fs 3))
    ∷ number 0 1000000
    ∷ number 0 (value_of (field fs 3))
    ∷ number 0 64
    ∷ number 0 1000000
    ∷ number 0 1000000000
    ∷ number 0 1000000
    ∷ []

-- "id 0 to 65,535; priority 0 to 65,535; duration 1 to T; preferred tick 0 to 4,095; windows, up to 4; after, up to 8 ids; units, up to 32 numbers 0 to 31; .."
abbrev pub act_forms : ℕ → List Form
act_forms T =
    number 0 65535
    ∷ number 0 65535
    ∷ number 1 T
    ∷ number 0 4095
    ∷ window_list
    ∷ number_list 65535 8
    ∷ number_list 31 32
    ∷ setting_list
    ∷ setting_list
    ∷ number 0 64
    ∷ number 0 1000000
    ∷ number 0 1000000
    ∷ number 0 1000000000
    ∷ number 0 1
    ∷ []
