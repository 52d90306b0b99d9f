-- The packed answer is that of the call.
use Rattle.std.proofs.Common.{◌∙◌, ap}
use Rattle.packing.specs.Packing.{packed}
use Rattle.station.proofs.planner_outcome.Goals as goal

pub returns : goal.returns
returns c = c.pack_outcome.ensures ∙ ap packed c.outcome.ensures
