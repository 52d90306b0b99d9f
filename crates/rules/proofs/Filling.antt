-- What the report and the starts call write into the slice lent: nothing with a refusal, else as many elements as they answer.
-- Assumes nothing.
use Prim.Native.Nat.{ℕ, ◌≤◌}
use mathlib.Core.Path.{◌≡◌, refl}
use mathlib.Core.Logic.{◌≢◌}
use mathlib.Core.Bool.{Bool, true, false, cond}
use mathlib.Core.List.{List, [], ◌∷◌}
use native.Mathlib.Omega.{arith}
use lib.Dec.{leb, ltb}
use lib.ListN.{length}
use borrow.Author.Tests.{ltb-false}
use Rattle.rules.specs.Conditions.{all_conditions}
use Rattle.rules.specs.Reading.{Reading, accepted, refused, reading}
use Rattle.rules.specs.Report.{report}
use Rattle.rules.specs.Calls.{Filled, full, refusing, filling, report_of, report_call, runs, starts_of, starts_call}
use Rattle.rules.specs.Refusals.{Refusal}
use Rattle.rules.proofs.Refusing.{file_number, reading_number}

-- a slice of `room` elements is rightly filled
pub record FilledRight {A : Type 0} (room : ℕ) (f : Filled A) : Type 0 where
  pub refused : f.terms.number ≢ 0 → f.written ≡ []
  pub counted : f.terms.number ≡ 0 → f.terms ≡ full (length f.written ∷ [])
  pub fits : length f.written ≤ room

right_refusing : {A : Type 0} (room k n : ℕ) → 1 ≤ k → FilledRight {A = A} room (refusing k n)
right_refusing room k n l = record { refused = λ _. refl; counted = λ e. absurd (omega arith); fits = omega arith }

right_cond : {A : Type 0} (room : ℕ) (t : Bool) (f g : Filled A) → FilledRight room f → FilledRight room g → FilledRight room (cond t f g)
right_cond room true f g F G = F
right_cond room false f g F G = G

right_filling : {A : Type 0} (room : ℕ) (xs : List A) → FilledRight room (filling room xs)
unfolding filling
right_filling {A} room xs = go (ltb room (length xs)) refl
  where
    go : (t : Bool) → ltb room (length xs) ≡ t → FilledRight room (cond t (refusing 10 0) (record { terms = full (length xs ∷ []); written = xs }))
    go true e = right_refusing room 10 0 (omega arith)
    go false e = record { refused = λ h. absurd (h refl); counted = λ _. refl; fits = ltb-false _ _ e }

-- ---- over what is read, where a refusal's number is not 0
report_right : (x : Reading) (room : ℕ) → ((r : Refusal) → x ≡ refused r → 1 ≤ r.number) → FilledRight room (report_of x room)
unfolding report_of
report_right (refused r) room h = right_refusing room r.number r.line (h r refl)
report_right (accepted p) room h = right_filling room (report p)

starts_right : (x : Reading) (k m room : ℕ) → ((r : Refusal) → x ≡ refused r → 1 ≤ r.number) → FilledRight room (starts_of x k m room)
unfolding starts_of
starts_right (refused r) k m room h = right_refusing room r.number r.line (h r refl)
starts_right (accepted p) k m room h =
    right_cond room (leb (length p.activities) k) _ _ (right_refusing room 11 0 (omega arith))
    (right_cond room (ltb all_conditions m) _ _ (right_refusing room 12 0 (omega arith)) (right_filling room (runs p k m)))

pub report_call_right : (s : List ℕ) (room : ℕ) → FilledRight room (report_call s room)
unfolding report_call
report_call_right s room = report_right (reading s) room (λ r e. (file_number r.number (reading_number s r e)).0)

pub starts_call_right : (s : List ℕ) (k m room : ℕ) → FilledRight room (starts_call s k m room)
unfolding starts_call
starts_call_right s k m room = starts_right (reading s) k m room (λ r e. (file_number r.number (reading_number s r e)).0)
