-- What an accepted field says, and what is wrong in a refused one: numbers, and lists of any kind.
-- Assumes nothing.
use Prim.Native.Nat.{ℕ, suc, ◌≤◌}
use mathlib.Core.Path.{◌≡◌, refl, sym, ◌∙◌, ap}
use mathlib.Core.Logic.{◌≢◌}
use mathlib.Core.Bool.{Bool, true, false, ◌&&◌}
use mathlib.Core.List.Memᴰ
use mathlib.Core.List.{List, [], ◌∷◌, map, Memᴰ}
use native.Mathlib.Omega.{arith}
use lib.Dec.{leb}
use lib.ListN.{length, length-map}
use borrow.Author.Tests.{leb-true, leb-false}
use Rattle.rules.specs.Bytes.{bytes, same}
use Rattle.rules.specs.Tests.{every}
use Rattle.rules.specs.Number.{is_number, value_of}
use Rattle.rules.specs.Lines.{split_on, parted}
use Rattle.rules.specs.Fields.{within, number_field, Kind, rising, items, list_field}
use Rattle.rules.specs.Print.{list_text}
use Rattle.rules.specs.WellFormed.{Rises, ListFormed}
use Rattle.rules.specs.Forms.{NumberFormed, NumberFault, no_number, below, above, Written, Rising, Few, ItemsFormed, no_items, all_items, ItemsFault, no_item, out_of_range, no_rise, too_many, out_of_window}
use Rattle.rules.proofs.Tests.{and_left, and_right, both_ways, every_mem}
use Rattle.rules.proofs.Says.{by_test, one_fails, one_out, every_map, Says, said, check_says}
use Rattle.rules.proofs.ListBack.{rises_test}
use Rattle.rules.proofs.Join.{same_eq, eq_same, some_parts, parted_split}

pub within_low : (lo hi x : ℕ) → within lo hi x ≡ true → lo ≤ x
unfolding within
within_low lo hi x e = leb-true lo x (and_left _ _ e)

pub within_high : (lo hi x : ℕ) → within lo hi x ≡ true → x ≤ hi
unfolding within
within_high lo hi x e = leb-true x hi (and_right (leb lo x) _ e)

not_within : (lo hi : ℕ) (s : List ℕ) → is_number s ≡ true → within lo hi (value_of s) ≡ false → NumberFault lo hi s 4
unfolding within
not_within lo hi s e f =
    one_fails (leb lo (value_of s)) (leb (value_of s) hi) f
    (λ g. below e (leb-false lo (value_of s) g))
    (λ g. above e (leb-false (value_of s) hi g))

pub number_says : (lo hi : ℕ) (s : List ℕ) → Says (λ x. (value_of s ≡ x) × NumberFormed lo hi s) (NumberFault lo hi s) (number_field lo hi s)
unfolding number_field
number_says lo hi s =
    check_says (is_number s) 3 no_number
    (λ e. check_says (within lo hi (value_of s)) 4 (not_within lo hi s e)
    (λ f. said (refl, record { written = e; low = within_low lo hi (value_of s) f; high = within_high lo hi (value_of s) f })))

pub rising_rises : {A : Type 0} (low high : A → ℕ) (least : ℕ) (xs : List A) → rising low high least xs ≡ true → Rises low high least xs
unfolding rising
rising_rises low high least [] e = tt
rising_rises low high least (x ∷ xs) e =
    let front : (leb least (low x) && leb (low x) (high x)) ≡ true = and_left _ _ e in
    (leb-true _ _ (and_left _ _ front), leb-true _ _ (and_right (leb least (low x)) _ front), rising_rises low high (suc (high x)) xs (and_right (leb least (low x) && leb (low x) (high x)) _ e))

-- a kind of list whose items are written as they were read
module _ {A : Type 0} (k : Kind A) (write : A → List ℕ) (InRange : A → Type 0) (written : (w : List ℕ) → k.is_item w ≡ true → write (k.item_of w) ≡ w) (ranged : (x : A) → k.in_range x ≡ true → k.in_window x ≡ true → InRange x) where
  -- the field s is the list xs, and is written as xs is
  abbrev pub ListSaid : List ℕ → List A → Type 0
  ListSaid s xs = ((list_text write xs ≡ s) × ListFormed InRange k.low k.high k.most xs) × ItemsFormed k s

  each_written : (parts : List (List ℕ)) → every k.is_item parts ≡ true → map write (map k.item_of parts) ≡ parts
  unfolding every
  each_written [] e = refl
  each_written (w ∷ ws) e = rw (written w (and_left _ _ e), each_written ws (and_right (k.is_item w) _ e))

  list_written : (parts : List (List ℕ)) → 1 ≤ length parts → every k.is_item parts ≡ true → list_text write (map k.item_of parts) ≡ parted 44 parts
  unfolding list_text
  list_written [] h e = absurd (omega arith)
  list_written (w ∷ ws) h e = ap (parted 44) (each_written (w ∷ ws) e)

  items_say : (s : List ℕ) → s ≢ bytes "-" → Says (ListSaid s) (ItemsFault k s) (items k (split_on 44 s))
  unfolding items
  items_say s d =
      check_says (every k.is_item parts) 3 (λ e. let r = one_out k.is_item parts e in no_item d r.0 r.1 r.2)
      (λ e. check_says (every k.in_range xs) 4
      (λ f. let r = one_out (λ w. k.in_range (k.item_of w)) parts (sym (every_map k.in_range k.item_of parts) ∙ f) in out_of_range d (each_item e) r.0 r.1 r.2)
      (λ f. check_says (rising k.low k.high 0 xs && leb (length parts) k.most) 8
      (λ g. one_fails (rising k.low k.high 0 xs) (leb (length parts) k.most) g
      (λ q. no_rise d (each_item e) (each k.in_range f) (λ r. both_ways (rises_test k.low k.high 0 xs r) q))
      (λ q. too_many d (each_item e) (each k.in_range f) (leb-false (length parts) k.most q)))
      (λ g. check_says (every k.in_window xs) 13
      (λ i. let r = one_out (λ w. k.in_window (k.item_of w)) parts (sym (every_map k.in_window k.item_of parts) ∙ i) in out_of_window d (each_item e) (each k.in_range f) (each_rises g) (are_few g) r.0 r.1 r.2)
      (λ i. said (
        (list_written parts (some_parts 44 s) e ∙ parted_split 44 s, record { few = rw (length-map parts k.item_of) (are_few g); in_range = λ x m. ranged x (every_mem k.in_range xs f m) (every_mem k.in_window xs i m); rises = each_rises g }),
        all_items (each_item e) (each k.in_range f) (each_rises g) (are_few g) (each k.in_window i),
      )))))
    where
      parts : List (List ℕ)
      parts = split_on 44 s

      xs : List A
      xs = map k.item_of (split_on 44 s)

      each_item : every k.is_item (split_on 44 s) ≡ true → Written k s
      each_item e w m = every_mem k.is_item (split_on 44 s) e m

      each : (p : A → Bool) → every p (map k.item_of (split_on 44 s)) ≡ true → (w : List ℕ) → Memᴰ w (split_on 44 s) → p (k.item_of w) ≡ true
      each p f w m = every_mem (λ w. p (k.item_of w)) (split_on 44 s) (sym (every_map p k.item_of (split_on 44 s)) ∙ f) m

      each_rises : rising k.low k.high 0 (map k.item_of (split_on 44 s)) && leb (length (split_on 44 s)) k.most ≡ true → Rising k s
      each_rises g = rising_rises k.low k.high 0 (map k.item_of (split_on 44 s)) (and_left _ _ g)

      are_few : rising k.low k.high 0 (map k.item_of (split_on 44 s)) && leb (length (split_on 44 s)) k.most ≡ true → Few k s
      are_few g = leb-true (length (split_on 44 s)) k.most (and_right (rising k.low k.high 0 (map k.item_of (split_on 44 s))) _ g)

  pub list_says : (s : List ℕ) → Says (ListSaid s) (ItemsFault k s) (list_field k s)
  unfolding list_field list_text
  list_says s =
      by_test (Says (ListSaid s) (ItemsFault k s)) (same s (bytes "-"))
      (λ e. said ((sym (same_eq s (bytes "-") e), record { few = omega arith; in_range = λ x m. absurd (Memᴰ.not-nil m); rises = tt }), no_items (same_eq s (bytes "-") e)))
      (λ e. items_say s (λ q. both_ways (eq_same s (bytes "-") q) e))
