-- Sets of conditions as the code works on them: the bit of a condition, what a set holds, and the set that a start meets.
use Rattle.std.specs.Prelude.{ℕ, zero, suc, ◌+◌, ◌^◌, Bool, cond, ◌||◌, not, ltb}
use Rattle.rules.specs.Tests.{each}
use Rattle.rules.specs.Conditions.{condition_count, has}

-- the bit of condition number c, 0 where there is none
unfoldable pub bit_of : ℕ → ℕ
bit_of c = cond (ltb c condition_count) (2 ^ c) 0

-- the entry has every condition of the set m
unfoldable pub holds_set : ℕ → ℕ → Bool
holds_set entry m = each (λ c. not (has m c) || has entry c) condition_count

-- the set of those of the first c conditions that start s meets
unfoldable pub met_below : (ℕ → ℕ → Bool) → ℕ → ℕ → ℕ
met_below test s zero = 0
met_below test s (suc c) = met_below test s c + cond (test c s) (2 ^ c) 0

-- the set of the conditions that start s meets
unfoldable pub met_set : (ℕ → ℕ → Bool) → ℕ → ℕ
met_set test s = met_below test s condition_count
