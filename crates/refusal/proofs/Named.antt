-- The field that is named as wrong is the one at fault.
-- Assumes nothing.
use Prim.Native.Nat.{ℕ, zero, suc, ◌+◌, ◌<◌, ◌≤◌}
use mathlib.Core.Path.{◌≡◌, refl, sym, ap, ◌∙◌}
use mathlib.Core.Bool.{Bool, true, false}
use mathlib.Core.List.{List, [], ◌∷◌, map}
use native.Mathlib.Omega.{arith}
use lib.ListN.{length}
use borrow.Author.Tests.{ne_eqb}
use Rattle.rules.specs.Bytes.{bytes}
use Rattle.rules.specs.Tests.{every}
use Rattle.rules.specs.Plan.{Header, Activity}
use Rattle.rules.specs.Number.{value_of, decimal}
use Rattle.rules.specs.Lines.{fields, field}
use Rattle.rules.specs.Fields.{Read, Kind, number_field, list_field, numbers, window_kind, setting_kind}
use Rattle.rules.specs.Forms.{NumberFormed, NumberFault, no_number, below, above, ItemsFormed, no_items, all_items, ItemsFault, no_item, out_of_range, no_rise, too_many, out_of_window, Form, number, number_list, window_list, setting_list, FieldFormed, FieldFault, form_at, FieldsFault, plan_forms, act_forms}
use Rattle.rules.specs.Print.{header_text}
use Rattle.rules.specs.WellFormed.{HeaderFormed}
use Rattle.rules.specs.Faults.{line_at, Begins}
use Rattle.rules.proofs.Tests.{and_both, both_ways}
use Rattle.rules.proofs.Parted.{free, low_byte, decimal_free, fields_line}
use Rattle.rules.proofs.ListBack.{number_back}
use Rattle.rules.proofs.Says.{Says, said, faulted}
use Rattle.rules.proofs.FieldFacts.{number_says}
use Rattle.rules.proofs.KindFacts.{counted, numbers_say, windows_say, settings_say_lem}
use Rattle.wording.specs.FirstWrong.{is_read, read_number, plan_fields, act_fields, first_wrong}
use Rattle.refusal.specs.Refused.{horizon_of, wrong_field, field_of}
use Rattle.refusal.specs.Named.{Named}

-- a number field is not both right and wrong
number_apart : {lo hi k : ℕ} {s : List ℕ} → NumberFormed lo hi s → NumberFault lo hi s k → ⊥
number_apart f (no_number e) = both_ways f.written e
number_apart f (below e l) = let h = f.low in omega arith
number_apart f (above e l) = let h = f.high in omega arith

-- nor is a list field
items_apart : {A : Type 0} {k : Kind A} {n : ℕ} {s : List ℕ} → ItemsFormed k s → ItemsFault k s n → ⊥
items_apart (no_items e) (no_item d w m f) = d e
items_apart (no_items e) (out_of_range d u w m f) = d e
items_apart (no_items e) (no_rise d u r f) = d e
items_apart (no_items e) (too_many d u r l) = d e
items_apart (no_items e) (out_of_window d u r h l w m f) = d e
items_apart (all_items u r h l i) (no_item d w m f) = both_ways (u w m) f
items_apart (all_items u r h l i) (out_of_range d v w m f) = both_ways (r w m) f
items_apart (all_items u r h l i) (no_rise d v q f) = f h
items_apart (all_items u r h l i) (too_many d v q m) = omega arith
items_apart (all_items u r h l i) (out_of_window d v q g k w m f) = both_ways (i w m) f

-- what is read has a value where there is no fault, and none where there is no value
is_read_lem : {A : Type 0} {P : A → Type 0} {F : ℕ → Type 0} {m : Read A} → Says P F m → ((k : ℕ) → F k → ⊥) → is_read m ≡ true
unfolding is_read
is_read_lem (said p) none = refl
is_read_lem (faulted f) none = absurd (none _ f)

not_read : {A : Type 0} {P : A → Type 0} {F : ℕ → Type 0} {m : Read A} → Says P F m → ((a : A) → P a → ⊥) → is_read m ≡ false
unfolding is_read
not_read (said p) none = absurd (none _ p)
not_read (faulted f) none = refl

-- the number that a right field says
the_number : {Q : Type 0} {F : ℕ → Type 0} {m : Read ℕ} {v : ℕ} → Says (λ x. (v ≡ x) × Q) F m → ((k : ℕ) → F k → ⊥) → read_number m ≡ v
unfolding read_number
the_number (said p) none = sym p.0
the_number (faulted f) none = absurd (none _ f)

number_is : (lo hi : ℕ) (s : List ℕ) → NumberFormed lo hi s → read_number (number_field lo hi s) ≡ value_of s
number_is lo hi s f = the_number (number_says lo hi s) (λ k g. number_apart f g)

-- whether a field of this form is read
is_right : Form → List ℕ → Bool
is_right (number lo hi) s = is_read (number_field lo hi s)
is_right (number_list hi most) s = is_read (list_field (numbers hi most) s)
is_right window_list s = is_read (list_field window_kind s)
is_right setting_list s = is_read (list_field setting_kind s)

right_field : (form : Form) (s : List ℕ) → FieldFormed form s → is_right form s ≡ true
unfolding is_right
right_field (number lo hi) s f = is_read_lem (number_says lo hi s) (λ k g. number_apart f g)
right_field (number_list hi most) s f = is_read_lem (numbers_say hi most s) (λ k g. items_apart f g)
right_field window_list s f = is_read_lem (windows_say s) (λ k g. items_apart f g)
right_field setting_list s f = is_read_lem (settings_say_lem s) (λ k g. items_apart f g)

wrong_field_lem : (form : Form) (s : List ℕ) (k : ℕ) → FieldFault form s k → is_right form s ≡ false
unfolding is_right
wrong_field_lem (number lo hi) s k g = not_read (number_says lo hi s) (λ a p. number_apart p.1 g)
wrong_field_lem (number_list hi most) s k g = not_read (numbers_say hi most s) (λ a p. items_apart p.1 g)
wrong_field_lem window_list s k g = not_read (windows_say s) (λ a p. items_apart p.1 g)
wrong_field_lem setting_list s k g = not_read (settings_say_lem s) (λ a p. items_apart p.1 g)

-- the first of n fields that is wrong
first_wrong_lem : (m n i : ℕ) (right : ℕ → Bool) → i < n → ((j : ℕ) → j < i → right j ≡ true) → right i ≡ false → first_wrong m (counted n right) ≡ m + i
unfolding first_wrong
first_wrong_lem m zero i right h before wrong = absurd (omega arith)
first_wrong_lem m (suc n) zero right h before wrong = rw wrong (omega arith)
first_wrong_lem m (suc n) (suc i) right h before wrong = rw (before 0 (omega arith)) (first_wrong_lem (suc m) n i (λ j. right (suc j)) (omega arith) (λ j l. before (suc j) (omega arith)) wrong ∙ omega arith)

-- of n fields with these forms, where those up to the fault have the same forms as its own
named : {k : ℕ} (n : ℕ) (forms own : List Form) (fs : List (List ℕ)) (f : FieldsFault own fs k) → f.i < n → ((j : ℕ) → j ≤ f.i → form_at forms j ≡ form_at own j) → first_wrong 1 (counted n (λ j. is_right (form_at forms j) (field fs (suc j)))) ≡ suc f.i
named n forms own fs f h e =
    first_wrong_lem 1 n f.i (λ j. is_right (form_at forms j) (field fs (suc j))) h
    (λ j l. rw (e j (omega arith)) (right_field (form_at own j) (field fs (suc j)) (f.before j l)))
    (rw (e f.i (omega arith)) (wrong_field_lem (form_at own f.i) (field fs (suc f.i)) _ f.wrong))
    ∙ omega arith

-- the forms of a first line with this capacity and floor
abbrev forms_of : ℕ → ℕ → List Form
forms_of capacity floor =
    number 1 4096
    ∷ number 0 1439
    ∷ number 1 1000000000
    ∷ number 0 capacity
    ∷ number floor capacity
    ∷ number 0 1000000
    ∷ number 0 capacity
    ∷ number 0 64
    ∷ number 0 1000000
    ∷ number 0 1000000000
    ∷ number 0 1000000
    ∷ []

same_bounds : {a b c d : ℕ} → a ≡ b → c ≡ d → forms_of a c ≡ forms_of b d
same_bounds e f = rw (e, f)

module _ (fs : List (List ℕ)) {k : ℕ} (f : FieldsFault (plan_forms fs) fs k) where
  abbrev capacity : ℕ
  capacity = read_number (number_field 1 1000000000 (field fs 3))

  abbrev floor : ℕ
  floor = read_number (number_field 0 capacity (field fs 4))

  -- they are read where a field behind them is wrong
  capacity_is : 2 < f.i → capacity ≡ value_of (field fs 3)
  capacity_is h = number_is 1 1000000000 (field fs 3) (f.before 2 h)

  floor_is : 3 < f.i → floor ≡ value_of (field fs 4)
  floor_is h = rw (capacity_is (omega arith)) (number_is 0 (value_of (field fs 3)) (field fs 4) (f.before 3 h))

  same_form : (j : ℕ) → j ≤ f.i → form_at (forms_of capacity floor) j ≡ form_at (plan_forms fs) j
  same_form zero h = refl
  same_form (suc zero) h = refl
  same_form (suc (suc zero)) h = refl
  same_form (suc (suc (suc zero))) h = ap (number 0) (capacity_is h)
  same_form (suc (suc (suc (suc j)))) h = ap (λ (l : List Form). form_at l (suc (suc (suc (suc j))))) (same_bounds (capacity_is (omega arith)) (floor_is (omega arith)))

  named_in_plan : first_wrong 1 (plan_fields fs) ≡ suc f.i
  unfolding plan_fields is_right
  named_in_plan = named 11 (forms_of capacity floor) (plan_forms fs) fs f f.inside same_form

named_in_act : (T : ℕ) (fs : List (List ℕ)) {k : ℕ} (f : FieldsFault (act_forms T) fs k) → first_wrong 1 (act_fields T fs) ≡ suc f.i
unfolding act_fields is_right
named_in_act T fs f = named 14 (act_forms T) (act_forms T) fs f f.inside (λ j h. refl)

-- a refusal for a field is about the field that is wrong
module _ (s : List ℕ) (n : ℕ) where
  of_number : {lo hi k : ℕ} {w : List ℕ} → NumberFault lo hi w k → field_of (horizon_of s) k n (line_at s n) ≡ wrong_field (horizon_of s) n (line_at s n)
  unfolding field_of
  of_number (no_number e) = refl
  of_number (below e l) = refl
  of_number (above e l) = refl

  of_list : {A : Type 0} {kind : Kind A} {k : ℕ} {w : List ℕ} → ItemsFault kind w k → field_of (horizon_of s) k n (line_at s n) ≡ wrong_field (horizon_of s) n (line_at s n)
  unfolding field_of
  of_list (no_item d v m e) = refl
  of_list (out_of_range d u v m e) = refl
  of_list (no_rise d u r f) = refl
  of_list (too_many d u r l) = refl
  of_list (out_of_window d u r h l v m e) = refl

  of_field : (form : Form) (w : List ℕ) (k : ℕ) → FieldFault form w k → field_of (horizon_of s) k n (line_at s n) ≡ wrong_field (horizon_of s) n (line_at s n)
  of_field (number lo hi) w k g = of_number g
  of_field (number_list hi most) w k g = of_list g
  of_field window_list w k g = of_list g
  of_field setting_list w k g = of_list g

on_first_lem : (s : List ℕ) {k : ℕ} (f : FieldsFault (plan_forms (fields (line_at s 1))) (fields (line_at s 1)) k) → field_of (horizon_of s) k 1 (line_at s 1) ≡ suc f.i
unfolding wrong_field
on_first_lem s f = of_field s 1 (form_at (plan_forms (fields (line_at s 1))) f.i) _ _ f.wrong ∙ named_in_plan (fields (line_at s 1)) f

-- numbers are written without a tab
no_tab : (xs : List ℕ) → every (free 9) (map decimal xs) ≡ true
unfolding every
no_tab [] = refl
no_tab (x ∷ xs) = and_both (decimal_free 9 x (low_byte 9 (omega arith))) (no_tab xs)

-- the horizon that a right first line says
horizon_back : (h : Header) → HeaderFormed h → read_number (number_field 1 4096 (field (fields (header_text h)) 1)) ≡ h.horizon
unfolding header_text every read_number
horizon_back h g =
    let xs = h.horizon ∷ h.minute ∷ h.capacity ∷ h.floor ∷ h.first ∷ h.rate ∷ h.handover ∷ h.engines ∷ h.peak ∷ h.volume ∷ h.heater ∷ [] in
    rw (fields_line (bytes "plan") (map decimal xs) (no_tab xs), number_back 1 4096 h.horizon g.horizon.0 g.horizon.1 (omega (arith, g.horizon.1)))

on_act : (s : List ℕ) (h : Header) (xs : List Activity) {k : ℕ} → Begins s h xs → (f : FieldsFault (act_forms h.horizon) (fields (line_at s (suc (suc (length xs))))) k) → field_of (horizon_of s) k (suc (suc (length xs))) (line_at s (suc (suc (length xs)))) ≡ suc f.i
unfolding wrong_field horizon_of
on_act s h xs b f =
    let n = suc (suc (length xs)) in
    of_field s n (form_at (act_forms h.horizon) f.i) _ _ f.wrong
    ∙ rw (ne_eqb (suc (suc (length xs))) 1 (λ e. omega arith), ← b.header_line, horizon_back h b.header) (named_in_act h.horizon (fields (line_at s n)) f)

pub the_field_is_named : Named
the_field_is_named =
    record {
      in_plan = λ fs k f. named_in_plan fs f;
      in_act = λ T fs k f. named_in_act T fs f;
      on_first_line = λ s k f. on_first_lem s f;
      on_act_line = λ s h xs k b f. on_act s h xs b f;
    }
