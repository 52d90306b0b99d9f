-- The loop of `raise_ticks`: the ticks passed are raised, the others as they were.
use Rattle.std.proofs.Common.{◌≡◌, ℕ, ◌+◌, ◌-◌, length, get_or, cond, ltb}
use Rattle.placed.proofs.ticks.raise_ticks.Given as goal

abbrev pub invariant-loop-sum : goal.invariant-loop-sum
invariant-loop-sum l = (length l.sum-items ≡ l.to - l.from) × ((k : ℕ) → get_or l.sum-items k 0 ≡ get_or l.initial.sum-items k 0 + cond (ltb k l.sum-index) l.by 0)
