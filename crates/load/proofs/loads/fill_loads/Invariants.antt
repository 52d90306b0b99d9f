-- The loop of `fill_loads`: the load of the rows passed, at most a million for each.
use Rattle.std.proofs.Common.{◌≡◌, ℕ, ◌*◌, ◌≤◌, get_or, length}
use Rattle.load.specs.Loads.{Weighs, Loaded}
use Rattle.load.proofs.loads.fill_loads.Given as goal

abbrev pub invariant-loop-row : goal.invariant-loop-row
invariant-loop-row g l =
    record {
      size : length l.loads ≡ 4096;
      most : (t : ℕ) → get_or l.loads t 0 ≤ l.row-index * 1000000;
      sums : (weights : ℕ → ℕ) → Weighs (goal.W-post g l.weigh) l.placed.rows l.placed.count weights → Loaded l.placed.rows weights l.row-index l.loads;
    }
