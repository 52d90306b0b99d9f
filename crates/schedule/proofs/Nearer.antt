-- The search for the nearest start over two tests that agree.
-- Assumes nothing.
use Prim.Native.Nat.{ℕ, zero, suc, ◌<◌}
use mathlib.Core.Path.{◌≡◌, refl}
use mathlib.Core.Bool.{Bool}
use native.Mathlib.Omega.{arith}
use Rattle.rules.specs.Answer.{nearest}

-- tests that agree below n have one nearest start
pub nearest_same : (p q : ℕ → Bool) (distance : ℕ → ℕ) (n : ℕ) → ((s : ℕ) → s < n → p s ≡ q s) → nearest p distance n ≡ nearest q distance n
unfolding nearest
nearest_same p q distance zero h = refl
nearest_same p q distance (suc n) h = rw (h n (omega arith), nearest_same p q distance n (λ s l. h s (omega arith)))
