-- Tests over the numbers below a bound and over lists, and sums over lists.
use Rattle.std.specs.Prelude.{ℕ, zero, suc, ◌+◌, Bool, true, false, ◌&&◌, ◌||◌, List, [], ◌∷◌}

-- p holds at each number below n
unfoldable pub each : (ℕ → Bool) → ℕ → Bool
each p zero = true
each p (suc n) = p n && each p n

-- p holds at a number below n
unfoldable pub ever : (ℕ → Bool) → ℕ → Bool
ever p zero = false
ever p (suc n) = p n || ever p n

-- p holds of each element
unfoldable pub every : {A : Type 0} → (A → Bool) → List A → Bool
every p [] = true
every p (x ∷ xs) = p x && every p xs

-- p holds of an element
unfoldable pub any_of : {A : Type 0} → (A → Bool) → List A → Bool
any_of p [] = false
any_of p (x ∷ xs) = p x || any_of p xs

-- the sum of f over the elements
unfoldable pub total : {A : Type 0} → (A → ℕ) → List A → ℕ
total f [] = 0
total f (x ∷ xs) = f x + total f xs
