-- Lists of one kind read as lists of another: an activity's lists, which the code reads as items.
-- Assumes nothing.
use Prim.Native.Nat.{ℕ, suc}
use mathlib.Core.Path.{◌≡◌, refl, ap, ◌∙◌}
use mathlib.Core.Bool.{Bool, true, false, cond, not, ◌&&◌}
use mathlib.Core.List.{List, [], ◌∷◌, map}
use lib.Dec.{leb}
use lib.ListN.{length}
use Rattle.rules.specs.Bytes.{bytes, same}
use Rattle.rules.specs.Tests.{every}
use Rattle.rules.specs.Lines.{split_on}
use Rattle.rules.specs.Number.{value_of}
use Rattle.rules.specs.Fields.{Read, value, fault, Kind, within, rising, items, list_field, numbers, part_of, window_kind, setting_kind}
use Rattle.text.specs.Text.{is_item, item_of, kind_of}
use Rattle.activity.specs.View.{window_of, setting_of, number_of}
use Rattle.line.specs.Forms.{window_form, number_form, setting_form}

-- each value read goes through f
unfoldable pub mapped : {A B : Type 0} → (A → B) → Read (List A) → Read (List B)
mapped f (value xs) = value (map f xs)
mapped f (fault n) = fault n

pub mapped_value : {A B : Type 0} (f : A → B) (xs : List A) → mapped f (value xs) ≡ value (map f xs)
unfolding mapped
mapped_value f xs = refl

pub mapped_fault : {A B : Type 0} (f : A → B) (n : ℕ) → mapped f (fault n) ≡ fault n
unfolding mapped
mapped_fault f n = refl

-- j is k with f behind it
pub record Same {A B : Type 0} (k : Kind A) (j : Kind B) (f : A → B) : Type 0 where
  pub items_same : (p : List ℕ) → j.is_item p ≡ k.is_item p
  pub item : (p : List ℕ) → j.item_of p ≡ f (k.item_of p)
  pub range : (p : List ℕ) → j.in_range (j.item_of p) ≡ k.in_range (k.item_of p)
  pub lows : (p : List ℕ) → j.low (j.item_of p) ≡ k.low (k.item_of p)
  pub highs : (p : List ℕ) → j.high (j.item_of p) ≡ k.high (k.item_of p)
  pub mosts : j.most ≡ k.most
  pub windows : (p : List ℕ) → j.in_window (j.item_of p) ≡ k.in_window (k.item_of p)

module _ {A B : Type 0} (k : Kind A) (j : Kind B) (f : A → B) (e : Same k j f) where
  same_items : (ps : List (List ℕ)) → every j.is_item ps ≡ every k.is_item ps
  unfolding every
  same_items [] = refl
  same_items (p ∷ ps) = rw (e.items_same p, same_items ps)

  same_range : (ps : List (List ℕ)) → every j.in_range (map j.item_of ps) ≡ every k.in_range (map k.item_of ps)
  unfolding every
  same_range [] = refl
  same_range (p ∷ ps) = rw (e.range p, same_range ps)

  same_rising : (n : ℕ) (ps : List (List ℕ)) → rising j.low j.high n (map j.item_of ps) ≡ rising k.low k.high n (map k.item_of ps)
  unfolding rising
  same_rising n [] = refl
  same_rising n (p ∷ ps) = rw (e.lows p, e.highs p, same_rising (suc (k.high (k.item_of p))) ps)

  same_windows : (ps : List (List ℕ)) → every j.in_window (map j.item_of ps) ≡ every k.in_window (map k.item_of ps)
  unfolding every
  same_windows [] = refl
  same_windows (p ∷ ps) = rw (e.windows p, same_windows ps)

  same_values : (ps : List (List ℕ)) → map j.item_of ps ≡ map f (map k.item_of ps)
  same_values [] = refl
  same_values (p ∷ ps) = rw (e.item p, same_values ps)

  pub same_list : (s : List ℕ) → list_field j s ≡ mapped f (list_field k s)
  unfolding list_field items mapped
  same_list s = rw (same_items ps, same_range ps, same_rising 0 ps, same_windows ps, e.mosts) (go (same s (bytes "-")) (every k.is_item ps) (every k.in_range (map k.item_of ps)) (rising k.low k.high 0 (map k.item_of ps) && leb (length ps) k.most) (every k.in_window (map k.item_of ps)))
    where
      ps : List (List ℕ)
      ps = split_on 44 s

      go : (a b c d e : Bool)
          → cond a (value []) (cond (not b) (fault 3) (cond (not c) (fault 4) (cond (not d) (fault 8) (cond (not e) (fault 13) (value (map j.item_of ps))))))
          ≡ mapped f (cond a (value []) (cond (not b) (fault 3) (cond (not c) (fault 4) (cond (not d) (fault 8) (cond (not e) (fault 13) (value (map k.item_of ps)))))))
      go true b c d e = refl
      go false false c d e = refl
      go false true false d e = refl
      go false true true false e = refl
      go false true true true false = refl
      go false true true true true = ap value (same_values ps)

-- a test made again
twice : (b : Bool) → b ≡ b && b
twice true = refl
twice false = refl

again : (a b : Bool) → a && b ≡ a && b && b
again true b = twice b
again false b = refl

pub windows_are : (s : List ℕ) → list_field window_kind s ≡ mapped window_of (list_field (kind_of window_form) s)
unfolding is_item item_of
windows_are s = same_list (kind_of window_form) window_kind window_of (record { items_same = λ p. refl; item = λ p. refl; range = λ p. refl; lows = λ p. refl; highs = λ p. refl; mosts = refl; windows = λ p. refl }) s

pub settings_are : (s : List ℕ) → list_field setting_kind s ≡ mapped setting_of (list_field (kind_of setting_form) s)
unfolding is_item item_of
settings_are s = same_list (kind_of setting_form) setting_kind setting_of (record { items_same = λ p. refl; item = λ p. refl; range = λ p. again (within 0 7 (part_of 61 0 p)) (within 0 255 (part_of 61 1 p)); lows = λ p. refl; highs = λ p. refl; mosts = refl; windows = λ p. refl }) s

pub numbers_are : (hi most : ℕ) (s : List ℕ) → list_field (numbers hi most) s ≡ mapped number_of (list_field (kind_of (number_form hi most)) s)
unfolding is_item item_of
numbers_are hi most s = same_list (kind_of (number_form hi most)) (numbers hi most) number_of (record { items_same = λ p. refl; item = λ p. refl; range = λ p. twice (within 0 hi (value_of p)) ∙ again (within 0 hi (value_of p)) (within 0 hi (value_of p)); lows = λ p. refl; highs = λ p. refl; mosts = refl; windows = λ p. refl }) s
