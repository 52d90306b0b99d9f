-- The first field that is wrong by its position; and lists of one kind and of another are read alike.
-- Assumes nothing.
use Rattle.std.proofs.Common.{◌≡◌, ℕ, suc, ◌+◌, Bool, true, false, not, cond, nat_lt, List, [], ◌∷◌, length, refl, sym, ap, ◌∙◌, arith, Some, None}
use Rattle.std.specs.List.{position_or_len}
use Rattle.rules.specs.Fields.{Read, value, fault, list_field, numbers, window_kind, setting_kind}
use Rattle.text.specs.Text.{kind_of}
use Rattle.line.specs.Forms.{window_form, number_form, setting_form}
use Rattle.line.proofs.Lists.{mapped, windows_are, settings_are, numbers_are}
use Rattle.wording.specs.FirstWrong.{is_read, first_wrong, field_in}

wrong_from : (n : ℕ) (xs : List Bool) → first_wrong n xs ≡ cond (nat_lt (position_or_len not xs) (length xs)) (n + position_or_len not xs) 0
unfolding first_wrong
wrong_from n [] = refl
wrong_from n (true ∷ xs) = grind (arith, wrong_from (suc n) xs)
wrong_from n (false ∷ xs) = grind arith

-- counted from 1
pub wrong_at : (xs : List Bool) → field_in (first_wrong 1 xs) ≡ cond (nat_lt (position_or_len not xs) (length xs)) (Some (position_or_len not xs + 1)) None
wrong_at xs = grind (arith, wrong_from 1 xs)

read_mapped : {A B : Type 0} (f : A → B) (x : Read (List A)) → is_read (mapped f x) ≡ is_read x
unfolding mapped is_read
read_mapped f (value xs) = refl
read_mapped f (fault n) = refl

pub windows_read : (s : List ℕ) → is_read (list_field (kind_of window_form) s) ≡ is_read (list_field window_kind s)
windows_read s = sym (ap is_read (windows_are s) ∙ read_mapped _ _)

pub settings_read : (s : List ℕ) → is_read (list_field (kind_of setting_form) s) ≡ is_read (list_field setting_kind s)
settings_read s = sym (ap is_read (settings_are s) ∙ read_mapped _ _)

pub numbers_read : (hi most : ℕ) (s : List ℕ) → is_read (list_field (kind_of (number_form hi most)) s) ≡ is_read (list_field (numbers hi most) s)
numbers_read hi most s = sym (ap is_read (numbers_are hi most s) ∙ read_mapped _ _)
