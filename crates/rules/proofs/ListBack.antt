-- A number and a list of items of any kind read back as they were written.
-- Assumes nothing.
use mathlib.Core.Path.{◌≡◌, refl, ap}
use mathlib.Core.Bool.{true, false, not}
use mathlib.Core.List.{List, [], ◌∷◌, ◌++◌, map, Memᴰ}
use Prim.Native.Nat.{ℕ, suc, ◌^◌, ◌≤◌, ◌<◌}
use native.Mathlib.Omega.{arith}
use lib.Dec.{eqb}
use lib.ListN.{length, length-map}
use borrow.Author.Tests.{le-leb, ne_eqb, not-true}
use Rattle.rules.specs.Bytes.{bytes, same}
use Rattle.rules.specs.Tests.{every}
use Rattle.rules.specs.Number.{decimal}
use Rattle.rules.specs.Lines.{behind, parted}
use Rattle.rules.specs.Fields.{value, within, number_field, Kind, rising, items, list_field}
use Rattle.rules.specs.Print.{list_text}
use Rattle.rules.specs.WellFormed.{Rises, ListFormed}
use Rattle.rules.proofs.Tests.{and_left, and_both}
use Rattle.rules.proofs.Every.{every_all, every_map}
use Rattle.rules.proofs.Decimal.{decimal_value, decimal_number}
use Rattle.rules.proofs.Parted.{free, split_parted, parted_free}

-- a number in its range reads back
pub number_back : (lo hi x : ℕ) → lo ≤ x → x ≤ hi → x < 10 ^ 10 → number_field lo hi (decimal x) ≡ value x
unfolding number_field within
number_back lo hi x l h s = rw (decimal_number x s, decimal_value x (omega arith), le-leb lo x l, le-leb x hi h)

-- ---- a list of any items

-- how items of this kind are written: each in its range is in its window, is an item that reads back as itself, has a byte, and none below the digits
pub record Writes {A : Type 0} (k : Kind A) (InRange : A → Type 0) (write : A → List ℕ) : Type 0 where
  pub range : (x : A) → InRange x → k.in_range x ≡ true
  pub window : (x : A) → InRange x → k.in_window x ≡ true
  pub item : (x : A) → InRange x → k.is_item (write x) ≡ true
  pub back : (x : A) → InRange x → k.item_of (write x) ≡ x
  pub some : (x : A) → InRange x → 1 ≤ length (write x)
  pub high : (x : A) → InRange x → (c : ℕ) → c < 48 → free c (write x) ≡ true

-- the test says what the facts say
pub rises_test : {A : Type 0} (low high : A → ℕ) (least : ℕ) (xs : List A) → Rises low high least xs → rising low high least xs ≡ true
unfolding rising
rises_test low high least [] r = refl
rises_test low high least (x ∷ xs) r =
    and_both (and_both (le-leb least (low x) r.0) (le-leb (low x) (high x) r.1)) (rises_test low high (suc (high x)) xs r.2)

-- of items that rise, none is below the least
pub rises_least : {A : Type 0} (low high : A → ℕ) (least : ℕ) (xs : List A) {x : A} → Rises low high least xs → Memᴰ x xs → least ≤ low x
rises_least low high least [] r m = elim m [ ]
rises_least low high least (y ∷ xs) r (Memᴰ.head q) = rw q r.0
rises_least low high least (y ∷ xs) r (Memᴰ.tail m) = let l = rises_least low high (suc (high y)) xs r.2 m in omega (arith, r.0, r.1, l)

-- a text with a byte, and no `-` in it, is not `-`
not_dash : (w v : List ℕ) → 1 ≤ length w → free 45 w ≡ true → same (w ++ v) (bytes "-") ≡ false
unfolding same every
not_dash [] v h e = absurd (omega arith)
not_dash (x ∷ w) v h e = rw (not-true (eqb x 45) (and_left (not (eqb x 45)) _ e))

module _ {A : Type 0} (k : Kind A) (InRange : A → Type 0) (write : A → List ℕ) (w : Writes k InRange write) where
  -- the items come back
  map_back : (xs : List A) → ((x : A) → Memᴰ x xs → InRange x) → map k.item_of (map write xs) ≡ xs
  map_back [] r = refl
  map_back (x ∷ xs) r = rw (w.back x (r x (Memᴰ.head refl)), map_back xs (λ y m. r y (Memᴰ.tail m)))

  -- and pass every test of the list
  items_back : (xs : List A) → ListFormed InRange k.low k.high k.most xs → items k (map write xs) ≡ value xs
  unfolding items
  items_back xs f =
      rw (
        every_map k.is_item write xs (λ x m. w.item x (f.in_range x m)),
        map_back xs f.in_range,
        every_all k.in_range xs (λ x m. w.range x (f.in_range x m)),
        rises_test k.low k.high 0 xs f.rises,
        length-map xs write,
        le-leb (length xs) k.most f.few,
        every_all k.in_window xs (λ x m. w.window x (f.in_range x m)),
      )

  -- no item holds a byte below the digits
  write_free : (c : ℕ) → c < 48 → (xs : List A) → ((x : A) → Memᴰ x xs → InRange x) → every (free c) (map write xs) ≡ true
  write_free c h xs r = every_map (free c) write xs (λ x m. w.high x (r x m) c h)

  -- a list reads back, the empty one as `-`
  pub list_back : (xs : List A) → ListFormed InRange k.low k.high k.most xs → list_field k (list_text write xs) ≡ value xs
  unfolding list_field list_text parted same
  list_back [] f = refl
  list_back (x ∷ xs) f =
      let r = f.in_range x (Memᴰ.head refl) in
      rw (not_dash (write x) (behind 44 (map write xs)) (w.some x r) (w.high x r 45 (omega arith)), split_parted 44 (write x) (map write xs) (write_free 44 (omega arith) (x ∷ xs) f.in_range))
      (items_back (x ∷ xs) f)

  -- a byte below the comma is in no written list
  pub list_free : (c : ℕ) → c < 44 → (xs : List A) → ListFormed InRange k.low k.high k.most xs → free c (list_text write xs) ≡ true
  unfolding list_text every
  list_free c h [] f = and_both (ap not (ne_eqb 45 c (omega arith))) refl
  list_free c h (x ∷ xs) f = parted_free c 44 (map write (x ∷ xs)) (ne_eqb 44 c (omega arith)) (write_free c (omega arith) (x ∷ xs) f.in_range)
