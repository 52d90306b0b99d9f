-- The loop of `run_until`: the charges are run on to t, and c is the one there.
use Rattle.charge.specs.Charge.{at_tick}
use Rattle.trial.specs.Trial.{draw_more}
use Rattle.trial.proofs.Running.{AtTick}
use Rattle.trial.proofs.run.run_until.Given as goal

abbrev pub invariant-loop-t : goal.invariant-loop-t
invariant-loop-t g l = AtTick l.drawn.header (draw_more (at_tick l.drawn.draws.now) l.by) l.from l.t l.c l.initial.charges l.charges
