-- The starts from which each tick of a candidate has its load within the limit.
use Rattle.std.specs.Prelude.{ℕ, zero, suc, ◌+◌, Bool, cond, leb}
use Rattle.rules.specs.Tests.{each}

-- with the weight, the load of tick t is within the limit
unfoldable pub fits : (ℕ → ℕ) → ℕ → ℕ → ℕ → Bool
fits loads weight limit t = leb (weight + loads t) limit

-- the test holds at d ticks from s on
unfoldable pub clear_for : (ℕ → Bool) → ℕ → ℕ → Bool
clear_for p d s = each (λ i. p (s + i)) d

-- the tick from which the test holds at all before t
unfoldable pub clear_since : (ℕ → Bool) → ℕ → ℕ
clear_since p zero = 0
clear_since p (suc t) = cond (p t) (clear_since p t) (suc t)
