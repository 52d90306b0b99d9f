-- What was read of a line, and the same with the line's number in a refusal.
-- Assumes nothing.
use Rattle.std.proofs.Common.{◌≡◌, ℕ, Result, Ok, Err}
use Rattle.std.specs.Result.{MatchResult}
use Rattle.rules.specs.declared.Fault.{Fault}
use Rattle.rules.specs.declared.Refusal.{Refusal}

module _ {A : Type 0} (line : ℕ) where
  abbrev pub Mapped : Result A Fault → Result A Refusal → Type 0
  Mapped r m = MatchResult r (λ x. m ≡ Ok x) (λ f. m ≡ Err (record { fault = f; line = line }))

  pub mapped_ok : (r : Result A Fault) (m : Result A Refusal) (x : A) → Mapped r m → m ≡ Ok x → r ≡ Ok x
  mapped_ok (Ok y) m x h e = cc
  mapped_ok (Err f) m x h e = cc

  pub mapped_err : (r : Result A Fault) (m : Result A Refusal) (q : Refusal) → Mapped r m → m ≡ Err q → (r ≡ Err q.fault) × (q.line ≡ line)
  mapped_err (Ok y) m q h e = cc
  mapped_err (Err f) m q h e = let k : q ≡ record { fault = f; line = line } = cc in (rw k, rw k)
