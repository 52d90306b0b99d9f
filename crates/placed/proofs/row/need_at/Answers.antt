-- `need_at` meets its contract: an item of well-formed settings is in range.
use Rattle.std.proofs.Common.{arith}
use Rattle.placed.proofs.Given.{item_most}
use Rattle.placed.proofs.row.need_at.Goals as goal

pub overflow_cast-result : goal.overflow_cast-result
overflow_cast-result c = grind (arith, item_most c.args.needs.now c.args.j c.requires)

pub overflow_cast-result-in-Some : goal.overflow_cast-result-in-Some
overflow_cast-result-in-Some c = grind (arith, item_most c.args.needs.now c.args.j c.requires)

pub overflow_add-result : goal.overflow_add-result
overflow_add-result c = grind (arith, item_most c.args.needs.now c.args.j c.requires)

pub invariant_of-result : goal.invariant_of-result
invariant_of-result c = record { known = grind (arith, item_most c.args.needs.now c.args.j c.requires) }
