-- The loop of `mark_where`: the invariant is the mark up to the start passed, by any test that says the same.
use Rattle.std.proofs.Common.{◌≡◌, Bool, ℕ, ◌<◌, ◌≤◌, get_or, length}
use Rattle.sets.specs.Table.{Marked}
use Rattle.sets.proofs.table.mark_where.Given as goal

abbrev pub invariant-loop-s : goal.invariant-loop-s
invariant-loop-s g l =
    record {
      size : length l.entry-items ≡ length l.initial.entry-items;
      rest : (k : ℕ) → l.s ≤ k → get_or l.entry-items k 0 ≡ get_or l.initial.entry-items k 0;
      marked : (p : ℕ → Bool) → ((s : ℕ) (met : Bool) → s < l.count → goal.F-post g l.test s met → met ≡ p s) → Marked p l.by l.s l.initial.entry-items l.entry-items;
    }
