-- The packed answer is that of the call, and the slice is as the call leaves it.
use Rattle.std.proofs.Common.{◌∙◌, ap}
use Rattle.packing.specs.Packing.{packed}
use Rattle.station.proofs.planner_report.Goals as goal

pub returns : goal.returns
returns c = record { answer = c.pack_count.ensures ∙ ap packed c.report.ensures.answer; slice = c.report.ensures.slice }
