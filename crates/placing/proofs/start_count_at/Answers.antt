-- `start_count_at` meets its contract.
use Rattle.plan.specs.View.{plan_view}
use Rattle.placing.proofs.ByPlace.{header_formed, formed}
use Rattle.placing.proofs.start_count_at.Goals as goal

pub start_count-requires : goal.start_count-requires
start_count-requires c = (header_formed c.args.plan.now, formed c.args.plan.now _ _ c.requires c.activity.ensures)

pub returns : goal.returns
unfolding plan_view
returns c = rw c.activity.ensures at c.start_count.ensures
