-- The loop of `letters_of`: the set is what is kept after the letters passed.
use mathlib.Core.Path.{◌≡◌}
use lib.ListN.{length}
use Prim.Native.Nat.{◌-◌, ◌≤◌}
use Rattle.rules.specs.Conditions.{condition_count}
use Rattle.rules.specs.Answer.{kept}
use Rattle.schedule.specs.Search.{test_in}
use Rattle.schedule.proofs.Turns.{Ahead}
use Rattle.schedule.proofs.letters.letters_of.Given as goal

abbrev pub invariant-loop-c : goal.invariant-loop-c
invariant-loop-c l = (l.c ≤ condition_count) × (l.set ≡ kept (test_in l.sets) (length l.sets) l.c) × Ahead l.c l.set

abbrev pub decreases-loop-c : goal.decreases-loop-c
decreases-loop-c l = condition_count - l.c
