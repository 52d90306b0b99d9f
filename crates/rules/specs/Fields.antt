-- A field's value or its refusal, "each 3, 4, 8 over its whole field" (01, When the planner says no), then 13, "judged with the list faults, after 8" (02, [2]).
use Rattle.std.specs.Prelude.{ℕ, suc, Bool, true, cond, not, ◌&&◌, List, [], ◌∷◌, map, leb, eqb, length}
use Rattle.rules.specs.Bytes.{bytes, same}
use Rattle.rules.specs.Tests.{every}
use Rattle.rules.specs.Number.{is_number, value_of}
use Rattle.rules.specs.Lines.{split_on, field}
use Rattle.rules.specs.Plan.{Window, Setting}

-- what is read: a value, or the number of a refusal
pub data Read (A : Type 0) : Type 0 where
  value : A → Read A
  fault : ℕ → Read A

infixl 10 ◌>>=◌
-- go on with the value; the first fault is the answer
unfoldable pub ◌>>=◌ : {A B : Type 0} → Read A → (A → Read B) → Read B
value a >>= next = next a
fault k >>= next = fault k

unfoldable pub within : ℕ → ℕ → ℕ → Bool
within lo hi x = leb lo x && leb x hi

-- a number from lo to hi: 3 where it is malformed, 4 where it is out of range
unfoldable pub number_field : ℕ → ℕ → List ℕ → Read ℕ
number_field lo hi s =
    cond (not (is_number s)) (fault 3)
    (cond (not (within lo hi (value_of s))) (fault 4)
    (value (value_of s)))

-- a kind of list: what its items are, their range, the two ends by which they rise, how many there may be, and whether an item's preferred tick, if it has one, is in its window
pub record Kind (A : Type 0) : Type 0 where
  pub is_item : List ℕ → Bool
  pub item_of : List ℕ → A
  pub in_range : A → Bool
  pub low : A → ℕ
  pub high : A → ℕ
  pub most : ℕ
  pub in_window : A → Bool

-- each item's low end is at most its high end, and above the high end of the item before; the first is `least` or more
unfoldable pub rising : {A : Type 0} → (A → ℕ) → (A → ℕ) → ℕ → List A → Bool
rising low high least [] = true
rising low high least (x ∷ xs) = leb least (low x) && leb (low x) (high x) && rising low high (suc (high x)) xs

-- the items: 3 where one is malformed, 4 where one is out of range, 8 where they don't rise or are too many, 13 where a preferred tick is outside its window
unfoldable pub items : {A : Type 0} → Kind A → List (List ℕ) → Read (List A)
items k parts =
    cond (not (every k.is_item parts)) (fault 3)
    (cond (not (every k.in_range (map k.item_of parts))) (fault 4)
    (cond (not (rising k.low k.high 0 (map k.item_of parts) && leb (length parts) k.most)) (fault 8)
    (cond (not (every k.in_window (map k.item_of parts))) (fault 13)
    (value (map k.item_of parts)))))

-- "A list is `-` when empty, else items parted by commas"; an empty field is one empty item, and so 3
unfoldable pub list_field : {A : Type 0} → Kind A → List ℕ → Read (List A)
list_field k s = cond (same s (bytes "-")) (value []) (items k (split_on 44 s))

-- numbers from 0 to hi that rise strictly
abbrev pub numbers : ℕ → ℕ → Kind ℕ
numbers hi most = record { is_item = is_number; item_of = value_of; in_range = within 0 hi; low = λ x. x; high = λ x. x; most = most; in_window = λ x. true }

-- n numbers with the byte b between them
unfoldable pub are_numbers : ℕ → ℕ → List ℕ → Bool
are_numbers n b s = eqb (length (split_on b s)) n && every is_number (split_on b s)

-- number i of these, from 0
unfoldable pub part_of : ℕ → ℕ → List ℕ → ℕ
part_of b i s = value_of (field (split_on b s) i)

-- "windows, up to 4, .. with bounds 0 to 4,095"; "a window has a ≤ b, and each window begins after the last one's b"; "A window is now `a:p:b`, with p from a to b; the two-number form is 3"; "A p over 4,095 is 4; any other outside its window is refused as 13" (02, [2])
abbrev pub window_kind : Kind Window
window_kind =
    record {
      is_item = are_numbers 3 58;
      item_of = λ s. record { from = part_of 58 0 s; preferred = part_of 58 1 s; to = part_of 58 2 s };
      in_range = λ w. within 0 4095 w.from && within 0 4095 w.preferred && within 0 4095 w.to;
      low = λ w. w.from;
      high = λ w. w.to;
      most = 4;
      in_window = λ w. within w.from w.to w.preferred;
    }

-- "needs, up to 4, each `v=k`, variable 0 to 7 and value 0 to 255; sets, up to 4, the same form"; the variables "rise strictly"
abbrev pub setting_kind : Kind Setting
setting_kind =
    record {
      is_item = are_numbers 2 61;
      item_of = λ s. record { variable = part_of 61 0 s; value = part_of 61 1 s };
      in_range = λ x. within 0 7 x.variable && within 0 255 x.value;
      low = λ x. x.variable;
      high = λ x. x.variable;
      most = 4;
      in_window = λ x. true;
    }
