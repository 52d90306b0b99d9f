-- What settings give a variable, and a row's needs, by an activity's items.
-- Assumes nothing.
use Prim.Native.Nat.{ℕ, suc, ◌<◌, ◌≤◌}
use mathlib.Core.Bool.{Bool, true, false, cond, ◌||◌}
use mathlib.Core.Path.{◌≡◌, refl, sym, ap, ◌∙◌}
use mathlib.Core.List.{List, [], ◌∷◌, map}
use mathlib.Core.Option.{none, some}
use native.Mathlib.Omega.{arith}
use lib.Dec.{eqb, ltb}
use lib.ListN.{length, get_or, drop, drop_of_length-le}
use lib.Seq.{drop-cons}
use borrow.Author.Tests.{eq-eqb, ne_eqb, ltb-true}
use Rattle.std.specs.List.{list_any}
use Rattle.std.proofs.lemmas.List.{get_or-map, length-map}
use Rattle.items.specs.declared.Item.{Item}
use Rattle.rules.specs.Plan.{Setting, Activity}
use Rattle.rules.specs.WellFormed.{SettingsFormed}
use Rattle.rules.specs.MeetsS.{given}
use Rattle.rules.proofs.ListAt.{at_mem}
use Rattle.rules.specs.Tests.{any_of}
use Rattle.activity.specs.View.{setting_of, number_of}
use Rattle.placed.specs.declared.row.Row.{Row}
use Rattle.placed.specs.Tables.{no_need}
use Rattle.placed.specs.Held.{setting_at, SettingsSay, UnitsSay}

abbrev pub no_item : Item
no_item = record { first = 0; second = 0; third = 0 }

-- an item of well-formed settings is in range
pub item_most : (xs : List Item) (i : ℕ) → SettingsFormed (map setting_of xs) → i < length xs → ((get_or xs i no_item).first ≤ 7) × ((get_or xs i no_item).second ≤ 255)
item_most xs i F l =
    let e = get_or-map setting_of xs i no_item (setting_of no_item) l in
    rw e at (F.in_range (get_or (map setting_of xs) i (setting_of no_item)) (at_mem (setting_of no_item) (map setting_of xs) i (omega (arith, length-map xs setting_of))))

-- a need's code, of well-formed needs, is at most 256
pub code_most : (row : Row) (a : Activity) → SettingsSay row a → SettingsFormed a.needs → (j : ℕ) → j < 4 → (get_or row.needs j no_need).code ≤ 256
code_most row a S F j l = rw (S.need_codes j l) (go (ltb j (length a.needs)) refl)
  where
    go : (b : Bool) → ltb j (length a.needs) ≡ b → cond b (suc (setting_at a.needs j).value) 0 ≤ 256
    go true e = omega (arith, (F.in_range (setting_at a.needs j) (at_mem (setting_of no_item) a.needs j (ltb-true _ _ e))).1)
    go false e = omega arith

-- ---- what settings give a variable: the first of its settings
pub given_here : (xs : List Item) (v i : ℕ) → i < length xs → (get_or xs i no_item).first ≡ v → given (map setting_of (drop i xs)) v ≡ some (get_or xs i no_item).second
unfolding given
given_here xs v i l e = rw (drop-cons xs i no_item l) (rw (eq-eqb _ _ e) refl)

pub given_later : (xs : List Item) (v i : ℕ) → i < length xs → ((get_or xs i no_item).first ≡ v → ⊥) → given (map setting_of (drop i xs)) v ≡ given (map setting_of (drop (suc i) xs)) v
unfolding given
given_later xs v i l f = rw (drop-cons xs i no_item l) (rw (ne_eqb _ _ f) refl)

pub given_beyond : (xs : List Item) (v i : ℕ) → length xs ≤ i → given (map setting_of (drop i xs)) v ≡ none
unfolding given
given_beyond xs v i l = rw (drop_of_length-le xs l) refl

-- of settings none of which is of the variable
pub given_none : (xs : List Setting) (v : ℕ) → ((i : ℕ) → i < length xs → (setting_at xs i).variable ≡ v → ⊥) → given xs v ≡ none
unfolding given
given_none [] v f = refl
given_none (x ∷ xs) v f = rw (ne_eqb _ _ (f 0 (omega arith))) (given_none xs v (λ i h. f (suc i) (omega arith)))

-- ---- a unit among an activity's
pub any_number : (p : ℕ → Bool) (xs : List Item) → any_of p (map number_of xs) ≡ list_any (λ x. p x.first) xs
unfolding any_of
any_number p [] = refl
any_number p (x ∷ xs) = ap (λ b. p x.first || b) (any_number p xs)

pub units_say : (flags : List Bool) (xs : List Item) → ((u : ℕ) → u < 32 → get_or flags u false ≡ list_any (λ x. eqb u x.first) xs) → UnitsSay flags (map number_of xs)
units_say flags xs f u k = f u k ∙ sym (any_number (eqb u) xs)
