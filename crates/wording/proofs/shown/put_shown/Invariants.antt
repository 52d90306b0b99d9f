-- The bytes passed are shown.
use Rattle.std.proofs.Common.{◌≡◌, take}
use Rattle.wording.specs.Shown.{shown}
use Rattle.wording.specs.Writing.{written, with_more}
use Rattle.wording.proofs.shown.put_shown.Given as goal

abbrev pub invariant-loop-b : goal.invariant-loop-b
invariant-loop-b l = written l.out ≡ with_more (written l.initial.out) (shown (take l.b-index l.s))
