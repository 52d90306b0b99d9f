-- Numbers, windows and settings are written as items of their lists.
-- Assumes nothing.
use mathlib.Core.Path.{◌≡◌, refl}
use mathlib.Core.Bool.{true, false}
use mathlib.Core.List.{List, [], ◌∷◌, map}
use Prim.Native.Nat.{ℕ, zero, suc, ◌^◌, ◌≤◌, ◌<◌}
use native.Mathlib.Nat.{not-suc-le-zero}
use native.Mathlib.Omega.{arith}
use lib.ListN.{length, length-append, length-map, get_or}
use borrow.Author.Tests.{le-leb, ne_eqb, eq-eqb}
use Rattle.rules.specs.Tests.{every}
use Rattle.rules.specs.Number.{is_digit, is_number, value_of, decimal}
use Rattle.rules.specs.Lines.{split_on, parted}
use Rattle.rules.specs.Fields.{within, Kind, numbers, are_numbers, part_of, window_kind, setting_kind}
use Rattle.rules.specs.Print.{window_text, setting_text}
use Rattle.rules.specs.WellFormed.{WindowFormed}
use Rattle.rules.proofs.Tests.{and_both}
use Rattle.rules.proofs.Decimal.{decimal_some, decimal_value, decimal_number}
use Rattle.rules.proofs.Parted.{free, low_byte, decimal_free, split_parted, parted_free}
use Rattle.rules.proofs.ListBack.{Writes}

-- the test of a range from 0
in_range_lem : (x hi : ℕ) → x ≤ hi → within 0 hi x ≡ true
unfolding within
in_range_lem x hi h = and_both (le-leb 0 x (omega arith)) (le-leb x hi h)

-- a number is written by its digits
pub writes_number : (hi most : ℕ) → hi < 10 ^ 10 → Writes (numbers hi most) (λ x. x ≤ hi) decimal
writes_number hi most s =
    record {
      range = λ x r. in_range_lem x hi r;
      window = λ x r. refl;
      item = λ x r. decimal_number x (omega arith);
      back = λ x r. decimal_value x (omega arith);
      some = λ x r. decimal_some x (omega arith);
      high = λ x r c h. decimal_free c x (low_byte c h);
    }

-- ---- some numbers with a byte between them

-- each has at most ten digits
abbrev pub Small : List ℕ → Type 0
Small [] = Unit {0}
Small (x ∷ xs) = (x < 10 ^ 10) × Small xs

all_free : (c : ℕ) → is_digit c ≡ false → (xs : List ℕ) → every (free c) (map decimal xs) ≡ true
unfolding every
all_free c h [] = refl
all_free c h (x ∷ xs) = and_both (decimal_free c x h) (all_free c h xs)

all_numbers : (xs : List ℕ) → Small xs → every is_number (map decimal xs) ≡ true
unfolding every
all_numbers [] s = refl
all_numbers (x ∷ xs) s = and_both (decimal_number x s.0) (all_numbers xs s.1)

values_back : (xs : List ℕ) → Small xs → (i : ℕ) → i < length xs → value_of (get_or (map decimal xs) i []) ≡ get_or xs i 0
values_back [] s i h = absurd (not-suc-le-zero h)
values_back (x ∷ xs) s zero h = decimal_value x (omega (arith, s.0))
values_back (x ∷ xs) s (suc i) h = values_back xs s.1 i (omega arith)

module _ (b : ℕ) (d : is_digit b ≡ false) (x : ℕ) (xs : List ℕ) (s : Small (x ∷ xs)) where
  abbrev text : List ℕ
  text = parted b (decimal x ∷ map decimal xs)

  text_split : split_on b text ≡ map decimal (x ∷ xs)
  text_split = split_parted b (decimal x) (map decimal xs) (all_free b d (x ∷ xs))

  text_numbers : are_numbers (suc (length xs)) b text ≡ true
  unfolding are_numbers
  text_numbers = rw (text_split, length-map (x ∷ xs) decimal) (and_both (eq-eqb (suc (length xs)) (suc (length xs)) refl) (all_numbers (x ∷ xs) s))

  text_part : (i : ℕ) → i < suc (length xs) → part_of b i text ≡ get_or (x ∷ xs) i 0
  unfolding part_of
  text_part i h = rw text_split (values_back (x ∷ xs) s i h)

  text_some : 1 ≤ length text
  unfolding parted
  text_some = simp length-append (omega (arith, decimal_some x (omega (arith, s.0))))

  text_high : 48 ≤ b → (c : ℕ) → c < 48 → free c text ≡ true
  text_high l c h = parted_free c b (map decimal (x ∷ xs)) (ne_eqb b c (omega arith)) (all_free c (low_byte c h) (x ∷ xs))

-- one law for `a:p:b` and `v=k`: items whose numbers are `first` and the `others`, n in all
module _ {A : Type 0} (k : Kind A) (InRange : A → Type 0) (first : A → ℕ) (others : A → List ℕ) (n b : ℕ) (d : is_digit b ≡ false) (l : 48 ≤ b) where
  writes_numbers :
      ((x : A) → InRange x → Small (first x ∷ others x))
      → ((x : A) → suc (length (others x)) ≡ n)
      → ((x : A) → InRange x → k.in_range x ≡ true)
      → ((x : A) → InRange x → k.in_window x ≡ true)
      → ((s : List ℕ) → k.is_item s ≡ are_numbers n b s)
      → ((s : List ℕ) (x : A) → ((i : ℕ) → i < n → part_of b i s ≡ get_or (first x ∷ others x) i 0) → k.item_of s ≡ x)
      → Writes k InRange (λ x. parted b (decimal (first x) ∷ map decimal (others x)))
  writes_numbers small count range window item back =
      record {
        range = range;
        window = window;
        item = λ x r. rw (item (text b d (first x) (others x) (small x r)), ← count x) (text_numbers b d (first x) (others x) (small x r));
        back = λ x r. back (text b d (first x) (others x) (small x r)) x (λ i h. text_part b d (first x) (others x) (small x r) i (omega (arith, count x)));
        some = λ x r. text_some b d (first x) (others x) (small x r);
        high = λ x r. text_high b d (first x) (others x) (small x r) l;
      }

pub writes_window : Writes window_kind WindowFormed window_text
unfolding window_text is_digit within
writes_window =
    writes_numbers window_kind WindowFormed (λ w. w.from) (λ w. w.preferred ∷ w.to ∷ []) 3 58 refl (omega arith)
    (λ w r. (omega (arith, r.from), (omega (arith, r.preferred, r.to), (omega (arith, r.to), tt))))
    (λ w. refl)
    (λ w r. and_both (and_both (in_range_lem w.from 4095 r.from) (in_range_lem w.preferred 4095 (omega (arith, r.preferred, r.to)))) (in_range_lem w.to 4095 r.to))
    (λ w r. and_both (le-leb w.from w.preferred r.preferred.0) (le-leb w.preferred w.to r.preferred.1))
    (λ s. refl)
    (λ s w e. rw (e 0 (omega arith), e 1 (omega arith), e 2 (omega arith)) refl)

pub writes_setting : Writes setting_kind (λ x. (x.variable ≤ 7) × (x.value ≤ 255)) setting_text
unfolding setting_text is_digit
writes_setting =
    writes_numbers setting_kind (λ x. (x.variable ≤ 7) × (x.value ≤ 255)) (λ x. x.variable) (λ x. x.value ∷ []) 2 61 refl (omega arith)
    (λ x r. (omega arith, (omega arith, tt)))
    (λ x. refl)
    (λ x r. and_both (in_range_lem x.variable 7 r.0) (in_range_lem x.value 255 r.1))
    (λ x r. refl)
    (λ s. refl)
    (λ s x e. rw (e 0 (omega arith), e 1 (omega arith)) refl)
