-- What the list fields of an activity line say, kind by kind.
-- Assumes nothing.
use Prim.Native.Nat.{ℕ, zero, suc, ◌≤◌}
use mathlib.Core.Path.{◌≡◌, refl, ◌∙◌, ap}
use mathlib.Core.Bool.{true, ◌&&◌}
use mathlib.Core.List.{List, [], ◌∷◌}
use lib.Dec.{eqb}
use lib.ListN.{length, get_or}
use borrow.Author.Tests.{eqb-true}
use Rattle.rules.specs.Tests.{every}
use Rattle.rules.specs.Number.{is_number, value_of, decimal}
use Rattle.rules.specs.Lines.{split_on, parted}
use Rattle.rules.specs.Fields.{within, list_field, numbers, are_numbers, part_of, window_kind, setting_kind}
use Rattle.rules.specs.Print.{list_text, window_text, setting_text}
use Rattle.rules.specs.WellFormed.{NumbersFormed, WindowFormed, WindowsFormed, SettingsFormed}
use Rattle.rules.specs.Forms.{ItemsFormed, ItemsFault}
use Rattle.rules.proofs.Tests.{and_left, and_right}
use Rattle.rules.proofs.Says.{Says}
use Rattle.rules.proofs.NumberText.{number_text}
use Rattle.rules.proofs.Join.{parted_split}
use Rattle.rules.proofs.FieldFacts.{within_low, within_high, list_says}

-- the list of f's first n values
abbrev pub counted : {A : Type 0} → ℕ → (ℕ → A) → List A
counted zero f = []
counted (suc n) f = f zero ∷ counted n (λ i. f (suc i))

-- a list is the list of its entries
counted_all : {A : Type 0} (xs : List A) (d : A) → counted (length xs) (λ i. get_or xs i d) ≡ xs
counted_all [] d = refl
counted_all (x ∷ xs) d = ap (λ (l : List _). x ∷ l) (counted_all xs d)

pub counted_of : {A : Type 0} (n : ℕ) (xs : List A) (d : A) → length xs ≡ n → counted n (λ i. get_or xs i d) ≡ xs
counted_of n xs d e = rw (← e) (counted_all xs d)

-- numbers are written as they were read
counted_numbers : (ps : List (List ℕ)) → every is_number ps ≡ true → counted (length ps) (λ i. decimal (value_of (get_or ps i []))) ≡ ps
unfolding every
counted_numbers [] e = refl
counted_numbers (p ∷ ps) e = rw (number_text p (and_left _ _ e), counted_numbers ps (and_right (is_number p) _ e))

-- so are n of them with the byte b between them
numbers_text : (n b : ℕ) (s : List ℕ) → are_numbers n b s ≡ true → parted b (counted n (λ i. decimal (part_of b i s))) ≡ s
unfolding are_numbers part_of
numbers_text n b s e =
    let count : length (split_on b s) ≡ n = eqb-true _ n (and_left _ _ e) in
    rw (← count) (ap (parted b) (counted_numbers (split_on b s) (and_right (eqb (length (split_on b s)) n) _ e)) ∙ parted_split b s)

pub numbers_say : (hi most : ℕ) (s : List ℕ) → Says (λ xs. ((list_text decimal xs ≡ s) × NumbersFormed hi most xs) × ItemsFormed (numbers hi most) s) (ItemsFault (numbers hi most) s) (list_field (numbers hi most) s)
numbers_say hi most s = list_says (numbers hi most) decimal (λ x. x ≤ hi) number_text (λ x e _. within_high 0 hi x e) s

pub windows_say : (s : List ℕ) → Says (λ xs. ((list_text window_text xs ≡ s) × WindowsFormed xs) × ItemsFormed window_kind s) (ItemsFault window_kind s) (list_field window_kind s)
unfolding window_text
windows_say s =
    list_says window_kind window_text WindowFormed (numbers_text 3 58)
    (λ w e f. record {
      from = within_high 0 4095 w.from (and_left _ _ (and_left _ _ e));
      preferred = (within_low w.from w.to w.preferred f, within_high w.from w.to w.preferred f);
      to = within_high 0 4095 w.to (and_right (within 0 4095 w.from && within 0 4095 w.preferred) _ e);
    })
    s

pub settings_say_lem : (s : List ℕ) → Says (λ xs. ((list_text setting_text xs ≡ s) × SettingsFormed xs) × ItemsFormed setting_kind s) (ItemsFault setting_kind s) (list_field setting_kind s)
unfolding setting_text
settings_say_lem s = list_says setting_kind setting_text (λ x. (x.variable ≤ 7) × (x.value ≤ 255)) (numbers_text 2 61) (λ x e _. (within_high 0 7 x.variable (and_left _ _ e), within_high 0 255 x.value (and_right (within 0 7 x.variable) _ e))) s
