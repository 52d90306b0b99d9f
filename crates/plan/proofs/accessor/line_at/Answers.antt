-- `accessor::line_at` meets its contract.
use Rattle.plan.proofs.LineAt.{line_to}
use Rattle.plan.proofs.accessor.line_at.Goals as goal

pub returns : goal.returns
returns c = line_to c.args.s.now c.args.at c.find-end.result c.find-end.ensures.value
