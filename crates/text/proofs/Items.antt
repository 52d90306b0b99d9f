-- Laws of a list's items at a cursor, for a list of any kind; and of the items of a form.
-- Assumes nothing.
use mathlib.Core.Path.{◌≡◌, refl}
use mathlib.Core.Bool.{Bool, true, false, cond, not, and-false}
use mathlib.Core.List.{List, [], ◌∷◌, ◌++◌, append-nil}
use Prim.Native.Nat.{ℕ, suc, max, ◌+◌, ◌≤◌, ◌<◌}
use native.Mathlib.Nat.{zero-add, add-zero}
use native.Mathlib.Numerals.{add-one}
use native.Mathlib.Omega.{arith}
use lib.ListN.{length, length-append}
use lib.Seq.{append_snoc}
use Rattle.std.proofs.lemmas.Bool.Decides.{nat_tests}
use borrow.Author.Tests.{le-leb, lt-leb}
use Rattle.std.specs.Prelude.{Option, Some, None}
use Rattle.std.specs.List.{list_all}
use Rattle.std.specs.Option.{option_or}
use Rattle.rules.specs.Tests.{every}
use Rattle.rules.specs.Fields.{Read, value, fault, Kind, within, rising, items}
use Rattle.rules.specs.declared.Fault.{Fault}
use Rattle.rules.specs.declared.Fault.TheVariants.{OutOfRange, NotRising}
use Rattle.rules.proofs.Library.{every_is}
use Rattle.items.specs.declared.Item.{Item}
use Rattle.text.specs.Text.{item, second_inside, kind_of}
use Rattle.text.specs.Cursor.{found, items_from}
use Rattle.text.specs.declared.list.Form.{Form}

-- ---- items of any kind

either : {A : Type 0} (t : Bool) (x : A) → cond t x x ≡ x
either true x = refl
either false x = refl

-- the first of the faults that stand behind 4
found_again : {A : Type 0} (f : Option Fault) (x : Read A) → found (option_or f (Some NotRising)) x ≡ found f (fault 8)
unfolding found
found_again None x = refl
found_again (Some f) x = refl

module _ {A : Type 0} (k : Kind A) where
  pub from_start : (parts : List (List ℕ)) → items k parts ≡ items_from k None 0 [] parts
  unfolding items items_from found
  from_start parts = simp zero-add

  -- what all items say, once there is no fault 3, 4 or 8
  abbrev pub judged : List A → Read (List A)
  judged b = cond (not (every k.in_window b)) (fault 13) (value b)

  module _ (f : Option Fault) (l : ℕ) (b : List A) where
    pub from_end : length b ≤ k.most → items_from k f l b [] ≡ found f (judged b)
    unfolding items_from every rising
    from_end h = simp (add-zero, le-leb _ _ h, append-nil)

    module _ (p : List ℕ) (ps : List (List ℕ)) where
      pub from_bad : k.is_item p ≡ false → items_from k f l b (p ∷ ps) ≡ fault 3
      unfolding items_from every
      from_bad e = simp e

      module _ (e : k.is_item p ≡ true) where
        pub from_outside : k.in_range (k.item_of p) ≡ false → items_from k f l b (p ∷ ps) ≡ items_from k (Some OutOfRange) l b ps
        unfolding items_from every found
        from_outside h = simp (e, h, either)

        module _ (i : k.in_range (k.item_of p) ≡ true) where
          pub from_back : k.low (k.item_of p) < l → items_from k f l b (p ∷ ps) ≡ items_from k (option_or f (Some NotRising)) l b ps
          unfolding items_from every rising
          from_back h = simp (e, i, lt-leb _ _ h, found_again)

          pub from_turned : k.high (k.item_of p) < k.low (k.item_of p) → items_from k f l b (p ∷ ps) ≡ items_from k (option_or f (Some NotRising)) l b ps
          unfolding items_from every rising
          from_turned h = simp (e, i, lt-leb _ _ h, and-false, found_again)

          pub from_full : k.most ≤ length b → items_from k f l b (p ∷ ps) ≡ items_from k (option_or f (Some NotRising)) l b ps
          unfolding items_from every rising
          from_full h =
              let full : k.most < length b + suc (length ps) = omega arith in
              simp (e, i, lt-leb _ _ full, and-false, found_again)

          pub from_good : l ≤ k.low (k.item_of p) → k.low (k.item_of p) ≤ k.high (k.item_of p) → items_from k f l b (p ∷ ps) ≡ items_from k f (k.high (k.item_of p) + 1) (b ++ (k.item_of p ∷ [])) ps
          unfolding items_from every rising
          from_good h m =
              let one : length (b ++ (k.item_of p ∷ [])) + length ps ≡ length b + suc (length ps) = simp length-append (omega arith) in
              simp (add-one, e, i, one, le-leb _ _ h, le-leb _ _ m, append_snoc)

-- ---- items of a form

module _ (f : Form) (a b c : ℕ) where
  -- the numbers of an item are in the form's range
  pub inside : a ≤ f.most_first → max b c ≤ f.most_others → (kind_of f).in_range (item a b c) ≡ true
  unfolding within
  inside h k =
      let z : (x : ℕ) → 0 ≤ x = λ x. omega arith in
      let kb : b ≤ f.most_others = omega arith in
      let kc : c ≤ f.most_others = omega arith in
      simp (le-leb _ _ (z a), le-leb _ _ (z b), le-leb _ _ (z c), le-leb _ _ h, le-leb _ _ kb, le-leb _ _ kc)

  pub outside_first : f.most_first < a → (kind_of f).in_range (item a b c) ≡ false
  unfolding within
  outside_first h = simp (lt-leb _ _ h, and-false)

  pub outside_others : f.most_others < max b c → (kind_of f).in_range (item a b c) ≡ false
  unfolding within
  outside_others h = grind (arith, nat_tests)

-- which items are in their windows, where they have any
module _ (f : Form) where
  pub spanning : (xs : List Item) → f.spans ≡ true → every (kind_of f).in_window xs ≡ list_all second_inside xs
  spanning xs e = rw e (every_is second_inside xs)

  pub not_spanning : (xs : List Item) → f.spans ≡ false → every (kind_of f).in_window xs ≡ true
  unfolding every
  not_spanning [] e = refl
  not_spanning (x ∷ xs) e = rw e (not_spanning xs e)
