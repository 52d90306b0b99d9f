-- What the functions on text answer, in terms of the rules' definitions.
use Rattle.std.specs.Prelude.{ℕ, suc, ◌+◌, Bool, true, cond, ◌&&◌, List, [], ◌∷◌, ◌++◌, map, eqb, length, take, drop, Option, Some, None}
use Rattle.rules.specs.Number.{is_number, value_of}
use Rattle.rules.specs.Lines.{split_on}
use Rattle.rules.specs.Fields.{Kind, within, are_numbers, part_of}
use Rattle.items.specs.declared.Item.{Item}
use Rattle.text.specs.declared.list.Form.{Form}
use Rattle.text.specs.declared.list.Shape.{Shape}
use Rattle.text.specs.declared.list.Shape.TheVariants.{One, Two, Three}

-- the number that all of s is
unfoldable pub number_of : List ℕ → Option ℕ
number_of s = cond (is_number s) (Some (value_of s)) None

-- the index of the first b in s, or the length of s where there is none
unfoldable pub index_of : ℕ → List ℕ → ℕ
index_of b [] = 0
index_of b (x ∷ s) = cond (eqb x b) 0 (suc (index_of b s))

-- l with w written over it from index at on
unfoldable pub put : List ℕ → ℕ → List ℕ → List ℕ
put l at w = take at l ++ (w ++ drop (at + length w) l)

-- an item of these three numbers
abbrev pub item : ℕ → ℕ → ℕ → Item
item a b c = record { first = a; second = b; third = c }

-- one number, or two or three with the byte mark between each two
unfoldable pub is_item : Shape → List ℕ → Bool
is_item One s = is_number s
is_item (Two mark) s = are_numbers 2 mark s
is_item (Three mark) s = are_numbers 3 mark s

-- it as an item; one of fewer than three has its last number as those that it lacks
unfoldable pub item_of : Shape → List ℕ → Item
item_of One s = item (value_of s) (value_of s) (value_of s)
item_of (Two mark) s = item (part_of mark 0 s) (part_of mark 1 s) (part_of mark 1 s)
item_of (Three mark) s = item (part_of mark 0 s) (part_of mark 1 s) (part_of mark 2 s)

-- the n numbers with the byte mark between each two that all of s is
unfoldable pub numbers_of : ℕ → ℕ → List ℕ → Option (List ℕ)
numbers_of n mark s = cond (are_numbers n mark s) (Some (map value_of (split_on mark s))) None

-- the three numbers of the item that all of s is
unfoldable pub item_is : Shape → List ℕ → Option (ℕ × ℕ × ℕ)
item_is shape s = let i = item_of shape s in cond (is_item shape s) (Some (i.first, i.second, i.third)) None

-- the second number is from the first to the third
abbrev pub second_inside : Item → Bool
second_inside i = within i.first i.third i.second

-- the rules' kind of list that a form is
abbrev pub kind_of : Form → Kind Item
kind_of f =
    record {
      is_item = is_item f.shape;
      item_of = item_of f.shape;
      in_range = λ x. within 0 f.most_first x.first && within 0 f.most_others x.second && within 0 f.most_others x.third;
      low = λ x. x.first;
      high = λ x. cond f.spans x.third x.first;
      most = f.most;
      in_window = λ x. cond f.spans (second_inside x) true;
    }
