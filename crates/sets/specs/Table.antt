-- A table of sets, one for each start, to which the tests of the conditions add their bits.
use Rattle.std.specs.Prelude.{ℕ, ◌+◌, ◌<◌, ◌≤◌, ◌≡◌, Bool, cond, List, length, get_or}
use Rattle.sets.specs.Sets.{met_set}

-- the entries below n are raised by `by` where the test holds; the others remain
pub record Marked (test : ℕ → Bool) (by n : ℕ) (old new : List ℕ) : Type 0 where
  pub size : length new ≡ length old
  pub raised : (s : ℕ) → s < n → get_or new s 0 ≡ get_or old s 0 + cond (test s) by 0
  pub rest : (s : ℕ) → n ≤ s → get_or new s 0 ≡ get_or old s 0

-- what a mark needs of its table: an entry for each of n starts, to which `by` can be added
pub record Markable (by n : ℕ) (table : List ℕ) : Type 0 where
  pub few : n ≤ 4096
  pub long : n ≤ length table
  pub free : (s : ℕ) → get_or table s 0 + by < 65536

-- an entry for each of n starts, the set of conditions that it meets; nothing beyond
pub record Table (test : ℕ → ℕ → Bool) (n : ℕ) (table : List ℕ) : Type 0 where
  pub met : (s : ℕ) → s < n → get_or table s 0 ≡ met_set test s
  pub rest : (s : ℕ) → n ≤ s → get_or table s 0 ≡ 0
