-- The text of a field.
-- Assumes nothing.
use Rattle.std.proofs.Common.{◌≡◌, ◌≢◌, ℕ, zero, suc, ◌+◌, ◌-◌, List, [], ◌∷◌, length, take, refl}
use Rattle.rules.specs.Bytes.{bytes}
use Rattle.rules.specs.Number.{decimal}
use Rattle.rules.specs.Lines.{split_on, fields, field}
use Rattle.wording.specs.Shown.{shown}
use Rattle.wording.specs.Writing.{together}
use Rattle.wording.specs.Words.{field_words}
use Rattle.refusal.specs.Refused.{field_text}

pub field_said : (n : ℕ) (l : List ℕ) (i : ℕ) → i ≢ 0
    → field_text n l i ≡ together (bytes "field " ∷ decimal (i + 1) ∷ bytes ": " ∷ shown (field (split_on 9 (take (length l - 1) l)) i) ∷ bytes "\nmust be: " ∷ field_words n i ∷ bytes "\n" ∷ [])
unfolding field_text fields
field_said n l zero h = absurd (h refl)
field_said n l (suc i) h = refl
