-- Laws of numbers with a byte between each two, and of what read_item says.
-- Assumes nothing.
use mathlib.Core.Path.{◌≡◌, refl, sym, ap}
use mathlib.Core.Bool.{Bool, true, false, cond, ◌&&◌, and-false}
use mathlib.Core.List.{List, [], ◌∷◌, ◌++◌, map, append-nil}
use Prim.Native.Nat.{ℕ, suc, ◌+◌, ◌-◌, ◌<◌}
use native.Mathlib.Numerals.{add-one}
use native.Mathlib.Omega.{arith}
use lib.Dec.{eqb, eqb-suc-suc}
use lib.ListN.{length, get_or, get_or-map, take, set}
use lib.Seq.{take-suc-set, append_snoc}
use borrow.Author.Tests.{eq-eqb, ne_eqb}
use Rattle.std.specs.Prelude.{Option, Some, None}
use Rattle.rules.specs.Number.{is_number, value_from, value_of}
use Rattle.rules.specs.Tests.{every}
use Rattle.rules.specs.Lines.{split_on}
use Rattle.rules.specs.Fields.{are_numbers, part_of}
use Rattle.text.specs.Text.{number_of, numbers_of, is_item, item_of, item, item_is}
use Rattle.text.specs.declared.list.Shape.{Shape}
use Rattle.text.proofs.Digits.{number_bad, number_good}

-- the numbers `before`, and behind them the n that all of these parts are
unfoldable pub numbers_from : ℕ → List ℕ → List (List ℕ) → Option (List ℕ)
numbers_from n before ps = cond (eqb (length ps) n && every is_number ps) (Some (before ++ map value_of ps)) None

-- before any is read
pub from_first : (n mark : ℕ) (s : List ℕ) → numbers_of n mark s ≡ numbers_from n [] (split_on mark s)
unfolding numbers_of numbers_from are_numbers
from_first n mark s = refl

-- a number is wanted, and there is no part
pub from_none : (n : ℕ) (before : List ℕ) → 0 < n → numbers_from n before [] ≡ None
unfolding numbers_from
from_none n before h = rw (ne_eqb 0 n (omega arith)) refl

-- there is a part more than numbers wanted
pub from_more : (n : ℕ) (before p : List ℕ) (ps : List (List ℕ)) → n ≡ 0 → numbers_from n before (p ∷ ps) ≡ None
unfolding numbers_from
from_more n before p ps e = rw (ne_eqb (suc (length ps)) n (omega arith)) refl

-- all are read
pub from_all : (n : ℕ) (before : List ℕ) → n ≡ 0 → numbers_from n before [] ≡ Some before
unfolding numbers_from every
from_all n before e = rw (eq-eqb 0 n (omega arith)) (ap Some (append-nil before))

-- the next part is no number
pub from_other : (n : ℕ) (before p : List ℕ) (ps : List (List ℕ)) → number_of p ≡ None → numbers_from n before (p ∷ ps) ≡ None
unfolding numbers_from every
from_other n before p ps e = simp (number_bad p e, and-false)

-- the next part is number i of k
pub from_number : (k i v : ℕ) (xs p : List ℕ) (ps : List (List ℕ)) → i < length xs → i < k → number_of p ≡ Some v → numbers_from (k - i) (take i xs) (p ∷ ps) ≡ numbers_from (k - (i + 1)) (take (i + 1) (set xs i v)) ps
unfolding numbers_from every
from_number k i v xs p ps h l e =
    let g = number_good p v e in
    let n : k - i ≡ suc (k - (i + 1)) = omega arith in
    rw (n, add-one, take-suc-set xs i v h) (simp (g.0, g.1, eqb-suc-suc, append_snoc))

-- what read_numbers says of a text

pub numbers_bad : (n mark : ℕ) (s : List ℕ) → numbers_of n mark s ≡ None → are_numbers n mark s ≡ false
unfolding numbers_of
numbers_bad n mark s e = go (are_numbers n mark s) e
  where
    go : (t : Bool) → cond t (Some (map value_of (split_on mark s))) None ≡ None → t ≡ false
    go true h = cc
    go false h = refl

pub numbers_good : (n mark : ℕ) (s xs : List ℕ) → numbers_of n mark s ≡ Some xs → (are_numbers n mark s ≡ true) × ((i : ℕ) → part_of mark i s ≡ get_or xs i 0)
unfolding numbers_of part_of value_of value_from
numbers_good n mark s xs e = go (are_numbers n mark s) e
  where
    go : (t : Bool) → cond t (Some (map value_of (split_on mark s))) None ≡ Some xs → (t ≡ true) × ((i : ℕ) → value_of (get_or (split_on mark s) i []) ≡ get_or xs i 0)
    go true h = let m : map value_of (split_on mark s) ≡ xs = cc in (refl, λ i. rw (← m) (sym (get_or-map value_of (split_on mark s) i [])))
    go false h = cc

-- what read_item says of a part
pub item_bad : (m : Shape) (p : List ℕ) → item_is m p ≡ None → is_item m p ≡ false
unfolding item_is
item_bad m p e = go (is_item m p) e
  where
    go : (t : Bool) → cond {A = Option (ℕ × ℕ × ℕ)} t (Some ((item_of m p).first, (item_of m p).second, (item_of m p).third)) None ≡ None → t ≡ false
    go true h = cc
    go false h = refl

pub item_good : (m : Shape) (p : List ℕ) (a b c : ℕ) → item_is m p ≡ Some (a, b, c) → (is_item m p ≡ true) × (item_of m p ≡ item a b c)
unfolding item_is
item_good m p a b c e = go (is_item m p) e
  where
    go : (t : Bool) → cond {A = Option (ℕ × ℕ × ℕ)} t (Some ((item_of m p).first, (item_of m p).second, (item_of m p).third)) None ≡ Some (a, b, c) → (t ≡ true) × (item_of m p ≡ item a b c)
    go true h =
        let z : ◌≡◌ {A = ℕ × ℕ × ℕ} ((item_of m p).first, (item_of m p).second, (item_of m p).third) (a, b, c) = cc in
        (refl, λ i. item (z i).0 (z i).1 (z i).2)
    go false h = cc
