-- A field has one fault, a right field has none, and of fields read left to right the first wrong one decides.
-- Assumes nothing.
use Prim.Native.Nat.{ℕ, suc}
use mathlib.Core.Path.{◌≡◌, refl, ◌∙◌}
use mathlib.Core.Logic.{◌≢◌}
use mathlib.Core.Bool.{Bool, true, false, ◌&&◌}
use mathlib.Core.List.{List, [], map, Memᴰ}
use native.Mathlib.Omega.{arith}
use lib.Dec.{leb}
use lib.ListN.{length}
use borrow.Author.Tests.{le-leb, lt-leb}
use Rattle.rules.specs.Bytes.{bytes, same}
use Rattle.rules.specs.Tests.{every}
use Rattle.rules.specs.Number.{value_of}
use Rattle.rules.specs.Lines.{split_on, fields, field}
use Rattle.rules.specs.Plan.{Header}
use Rattle.rules.specs.Fields.{Read, value, fault, within, number_field, Kind, numbers, window_kind, setting_kind, rising, items, list_field}
use Rattle.rules.specs.HeaderLine.{header_of}
use Rattle.rules.specs.ActivityLine.{activity_of}
use Rattle.rules.specs.Forms.{LineFormed, NumberFormed, NumberFault, no_number, below, above, Written, Ranged, ItemsFormed, no_items, all_items, ItemsFault, no_item, out_of_range, no_rise, too_many, out_of_window, Form, number, number_list, window_list, setting_list, FieldFormed, FieldFault, form_at, FieldsFault, plan_forms, act_forms}
use Rattle.rules.proofs.Tests.{and_left, and_right, both_ways, is_false, every_mem}
use Rattle.rules.proofs.Cases.{by_order}
use Rattle.rules.proofs.Every.{every_all}
use Rattle.rules.proofs.Says.{by_test, every_map, says_fault}
use Rattle.rules.proofs.Join.{same_eq, eq_same}
use Rattle.rules.proofs.ListBack.{rises_test}
use Rattle.rules.proofs.FieldFacts.{rising_rises}
use Rattle.rules.proofs.FieldSteps.{RightTo}
use Rattle.rules.proofs.LineFacts.{header_says, activity_says}

-- what is read is one fault, or a value and none
one_fault : {A : Type 0} {m : Read A} {j k : ℕ} → m ≡ fault j → m ≡ fault k → j ≡ k
one_fault e f = cc

no_fault : {A : Type 0} {m : Read A} {a : A} {k : ℕ} → m ≡ value a → m ≡ fault k → ⊥
no_fault e f = let z : ◌≡◌ {A = ℕ} 0 1 = cc in omega arith

-- a number field
module _ (lo hi : ℕ) (s : List ℕ) where
  number_value : NumberFormed lo hi s → number_field lo hi s ≡ value (value_of s)
  unfolding number_field within
  number_value f = rw (f.written, le-leb lo (value_of s) f.low, le-leb (value_of s) hi f.high)

  number_fault : {k : ℕ} → NumberFault lo hi s k → number_field lo hi s ≡ fault k
  unfolding number_field within
  number_fault (no_number e) = rw e
  number_fault (below e l) = rw (e, lt-leb lo (value_of s) l)
  number_fault (above e l) = rw (e, is_false (leb lo (value_of s) && leb (value_of s) hi) (λ t. both_ways (and_right (leb lo (value_of s)) _ t) (lt-leb (value_of s) hi l)))

-- a list field of any kind
module _ {A : Type 0} (k : Kind A) (s : List ℕ) where
  abbrev parts : List (List ℕ)
  parts = split_on 44 s

  abbrev xs : List A
  xs = map k.item_of parts

  not_dash : s ≢ bytes "-" → same s (bytes "-") ≡ false
  not_dash d = is_false (same s (bytes "-")) (λ e. d (same_eq s (bytes "-") e))

  -- every item passes a test
  each : (p : A → Bool) → ((w : List ℕ) → Memᴰ w parts → p (k.item_of w) ≡ true) → every p xs ≡ true
  each p r = every_map p k.item_of parts ∙ every_all (λ w. p (k.item_of w)) parts r

  -- not every one does
  not_each : (p : A → Bool) (w : List ℕ) → Memᴰ w parts → p (k.item_of w) ≡ false → every p xs ≡ false
  not_each p w m e = every_map p k.item_of parts ∙ is_false (every (λ w. p (k.item_of w)) parts) (λ t. both_ways (every_mem (λ w. p (k.item_of w)) parts t m) e)

  list_value : ItemsFormed k s → (ys : List A) × (list_field k s ≡ value ys)
  unfolding list_field items
  list_value (no_items e) = ([], rw (eq_same s (bytes "-") e))
  list_value (all_items w r u l i) =
      by_test (λ m. (ys : List A) × (m ≡ value ys)) (same s (bytes "-"))
      (λ e. ([], refl))
      (λ e. (xs, rw (every_all k.is_item parts w, each k.in_range r, rises_test k.low k.high 0 xs u, le-leb (length parts) k.most l, each k.in_window i)))

  -- 8, where they don't rise or are too many
  not_orderly : s ≢ bytes "-" → Written k s → Ranged k s → (rising k.low k.high 0 xs && leb (length parts) k.most ≡ true → ⊥) → list_field k s ≡ fault 8
  unfolding list_field items
  not_orderly d u r f = rw (not_dash d, every_all k.is_item parts u, each k.in_range r, is_false (rising k.low k.high 0 xs && leb (length parts) k.most) f)

  list_fault : {n : ℕ} → ItemsFault k s n → list_field k s ≡ fault n
  unfolding list_field items
  list_fault (no_item d w m e) = rw (not_dash d, is_false (every k.is_item parts) (λ t. both_ways (every_mem k.is_item parts t m) e))
  list_fault (out_of_range d u w m e) = rw (not_dash d, every_all k.is_item parts u, not_each k.in_range w m e)
  list_fault (no_rise d u r f) = not_orderly d u r (λ t. f (rising_rises k.low k.high 0 xs (and_left _ _ t)))
  list_fault (too_many d u r l) = not_orderly d u r (λ t. both_ways (and_right (rising k.low k.high 0 xs) _ t) (lt-leb (length parts) k.most l))
  list_fault (out_of_window d u r o l w m e) =
      rw (not_dash d, every_all k.is_item parts u, each k.in_range r, rises_test k.low k.high 0 xs o, le-leb (length parts) k.most l, not_each k.in_window w m e)

  list_right : {n : ℕ} → ItemsFormed k s → ItemsFault k s n → ⊥
  list_right f g = no_fault (list_value f).1 (list_fault g)

  list_one : {m n : ℕ} → ItemsFault k s m → ItemsFault k s n → m ≡ n
  list_one f g = one_fault (list_fault f) (list_fault g)

-- a right field has no fault
field_right : (form : Form) (s : List ℕ) (k : ℕ) → FieldFormed form s → FieldFault form s k → ⊥
field_right (number lo hi) s k f g = no_fault (number_value lo hi s f) (number_fault lo hi s g)
field_right (number_list hi most) s k f g = list_right (numbers hi most) s f g
field_right window_list s k f g = list_right window_kind s f g
field_right setting_list s k f g = list_right setting_kind s f g

-- and a wrong one has one
field_one : (form : Form) (s : List ℕ) {j k : ℕ} → FieldFault form s j → FieldFault form s k → j ≡ k
field_one (number lo hi) s f g = one_fault (number_fault lo hi s f) (number_fault lo hi s g)
field_one (number_list hi most) s f g = list_one (numbers hi most) s f g
field_one window_list s f g = list_one window_kind s f g
field_one setting_list s f g = list_one setting_kind s f g

-- fields left to right, whatever their forms
module _ (forms : List Form) (fs : List (List ℕ)) where
  fields_right_lem : {k : ℕ} → RightTo forms fs (length forms) → FieldsFault forms fs k → ⊥
  fields_right_lem r f = field_right (form_at forms f.i) (field fs (suc f.i)) _ (r.right f.i f.inside) f.wrong

  fields_one : {j k : ℕ} → FieldsFault forms fs j → FieldsFault forms fs k → j ≡ k
  fields_one f g =
      by_order f.i g.i
      (λ l. absurd (field_right (form_at forms f.i) (field fs (suc f.i)) _ (g.before f.i l) f.wrong))
      (λ l. by_order g.i f.i
      (λ m. absurd (field_right (form_at forms g.i) (field fs (suc g.i)) _ (f.before g.i m) g.wrong))
      (λ m. let same : f.i ≡ g.i = omega arith in field_one (form_at forms g.i) (field fs (suc g.i)) (rw same at f.wrong) g.wrong))

-- so the fault of a line's fields is the one that is read
pub header_fault : (l : List ℕ) {k : ℕ} → LineFormed (bytes "plan") 12 l → FieldsFault (plan_forms (fields l)) (fields l) k → header_of (fields l) ≡ fault k
header_fault l L f = says_fault (header_says l L) (λ h H. fields_right_lem _ _ H.fields_right f) (λ j g. fields_one _ _ g f)

pub activity_fault : (h : Header) (l : List ℕ) {k : ℕ} → LineFormed (bytes "act") 15 l → FieldsFault (act_forms h.horizon) (fields l) k → activity_of h (fields l) ≡ fault k
activity_fault h l L f = says_fault (activity_says h l L) (λ a A. fields_right_lem _ _ A.fields_right f) (λ j g. fields_one _ _ g f)
