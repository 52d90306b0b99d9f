-- `outcome_at` meets its contract.
use Rattle.std.proofs.Common.{arith}
use Rattle.plan.proofs.Places.{placeable}
use Rattle.placing.proofs.outcome_at.Goals as goal

pub overflow_add-k : goal.overflow_add-k
overflow_add-k c = omega (arith, (placeable c.args.plan.now).few)

pub offset_bounds-placing-k : goal.offset_bounds-placing-k
offset_bounds-placing-k c = omega (arith, (placeable c.args.plan.now).few)

pub bounds-placing-k : goal.bounds-placing-k
bounds-placing-k c = omega (arith, (placeable c.args.plan.now).few)

pub returns : goal.returns
returns c = c.place_to.ensures.answered _ (omega arith)
