-- The loop of `project`: the projection goes to tick t.
use Rattle.charge.specs.Charge.{at_tick}
use Rattle.charge.proofs.Projected.{ProjectedTo}
use Rattle.charge.proofs.run.project.Given as goal

abbrev pub invariant-loop-t : goal.invariant-loop-t
invariant-loop-t l = ProjectedTo l.header (at_tick l.drawn.draws.now) l.t l.projection l.charges
