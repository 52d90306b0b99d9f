-- What is written and the runs that are left make the text.
use Rattle.std.proofs.Common.{◌≡◌}
use Rattle.explanation.specs.Places.{run_texts}
use Rattle.wording.specs.Writing.{written, with_more}
use Rattle.explanation.proofs.runs.put_each_run.Given as goal

abbrev pub invariant-loop-run : goal.invariant-loop-run
invariant-loop-run l = with_more (written l.out) (run_texts l.run-iterator) ≡ with_more (written l.initial.out) (run_texts l.initial.run-iterator)
