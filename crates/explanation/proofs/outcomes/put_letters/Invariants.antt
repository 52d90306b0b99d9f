-- The conditions gone through are written.
use Rattle.std.proofs.Common.{◌≡◌}
use Rattle.explanation.specs.Places.{letter_texts}
use Rattle.explanation.specs.Tabled.{runs_in}
use Rattle.wording.specs.Writing.{written, with_more}
use Rattle.explanation.proofs.outcomes.put_letters.Given as goal

abbrev pub invariant-loop-condition : goal.invariant-loop-condition
invariant-loop-condition l = written l.out ≡ with_more (written l.initial.out) (letter_texts (runs_in l.table.sets.now) l.set l.condition)
