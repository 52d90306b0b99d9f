-- `Plan::count` meets its contract.
use Rattle.std.proofs.Common.{sym, ◌∙◌}
use Rattle.plan.proofs.Places.{place_count}
use Rattle.plan.proofs.Plan.count.Goals as goal

pub returns-clause-value : goal.returns-clause-value
returns-clause-value c = c.len.ensures.value ∙ sym (place_count c.args.self.now)
