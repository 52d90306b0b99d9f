-- Going through the letters in turn: what is left to go through is still in the set.
-- Assumes nothing.
use Prim.Native.Nat.{ℕ, suc, ◌-◌, ◌^◌, ◌<◌, ◌≤◌}
use mathlib.Core.Path.{◌≡◌}
use mathlib.Core.Bool.{Bool, true, false, cond}
use native.Mathlib.Omega.{arith}
use Rattle.rules.specs.Conditions.{condition_count, all_conditions, has}
use Rattle.rules.proofs.Sets.{to_kept, all_of_them}

-- the set m has every condition from c on
abbrev pub Ahead : ℕ → ℕ → Type 0
Ahead c m = (b : ℕ) → c ≤ b → b < condition_count → has m b ≡ true

pub ahead_all : Ahead 0 all_conditions
ahead_all b l k = all_of_them b k

pub ahead_next : (c m : ℕ) (t : Bool) → c < condition_count → Ahead c m → Ahead (suc c) (cond t m (m - 2 ^ c))
ahead_next c m true h A b l k = A b (omega arith) k
ahead_next c m false h A b l k = to_kept m c b (A c (omega arith) h) (A b (omega arith) k) (omega arith)
