-- One field after another, left to right: the fields before it are right, and it is right or refused.
-- Assumes nothing.
use Prim.Native.Nat.{ℕ, suc, ◌<◌}
use mathlib.Core.Path.{◌≡◌, sym, subst}
use mathlib.Core.List.{List}
use native.Mathlib.Nat.{not-suc-le-zero}
use lib.ListN.{length}
use Rattle.rules.specs.Number.{value_of}
use Rattle.rules.specs.Lines.{field}
use Rattle.rules.specs.Fields.{Read, ◌>>=◌, number_field}
use Rattle.rules.specs.Forms.{NumberFormed, Form, number, FieldFormed, FieldFault, form_at, FieldsFault}
use Rattle.rules.proofs.Tests.{last_or}
use Rattle.rules.proofs.Says.{Says, then_says}
use Rattle.rules.proofs.FieldFacts.{number_says}

-- the first i fields after the word are right
pub record RightTo (forms : List Form) (fs : List (List ℕ)) (i : ℕ) : Type 0 where
  pub right : (j : ℕ) → j < i → FieldFormed (form_at forms j) (field fs (suc j))

pub none_yet : {forms : List Form} {fs : List (List ℕ)} → RightTo forms fs 0
none_yet = record { right = λ j h. absurd (not-suc-le-zero h) }

module _ {forms : List Form} {fs : List (List ℕ)} {B : Type 0} {Q : B → Type 0} (i : ℕ) (inside : i < length forms) (before : RightTo forms fs i) where
  -- a field's step, then the next ones
  pub field_step : {A : Type 0} {R : A → Type 0} {m : Read A} {next : A → Read B} → Says (λ a. R a × FieldFormed (form_at forms i) (field fs (suc i))) (FieldFault (form_at forms i) (field fs (suc i))) m → ((a : A) → R a → FieldFormed (form_at forms i) (field fs (suc i)) → RightTo forms fs (suc i) → Says Q (FieldsFault forms fs) (next a)) → Says Q (FieldsFault forms fs) (m >>= next)
  field_step says good =
      then_says says
      (λ k wrong. record { i = i; inside = inside; before = before.right; wrong = wrong })
      (λ a p. good a p.0 p.1 (record { right = λ j h. last_or (λ j. FieldFormed (form_at forms j) (field fs (suc j))) i j h p.1 (before.right j) }))

  -- a number's step, then the next ones at its value
  pub number_step : {lo hi : ℕ} (next : ℕ → Read B) → form_at forms i ≡ number lo hi → (NumberFormed lo hi (field fs (suc i)) → RightTo forms fs (suc i) → Says Q (FieldsFault forms fs) (next (value_of (field fs (suc i))))) → Says Q (FieldsFault forms fs) (number_field lo hi (field fs (suc i)) >>= next)
  number_step {lo} {hi} next q good =
      field_step
      (subst (λ (f : Form). Says (λ x. (value_of s ≡ x) × FieldFormed f s) (FieldFault f s) (number_field lo hi s)) (sym q) (number_says lo hi s))
      (λ x e f right. subst (λ (y : ℕ). Says Q (FieldsFault forms fs) (next y)) e (good (subst (λ (f : Form). FieldFormed f s) q f) right))
    where
      s : List ℕ
      s = field fs (suc i)
