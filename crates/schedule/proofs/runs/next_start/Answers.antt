-- `next_start` meets its contract.
use Rattle.std.proofs.Common.{◌≤◌, ◌+◌, length, arith}
use Rattle.schedule.specs.Search.{meets_in, Next}
use Rattle.schedule.proofs.NextRuns.{to_end, next_at}
use Rattle.schedule.proofs.runs.next_start.Goals as goal

found : (c : goal.After-others_in_a_row)
    → (c.args.from + c.others_in_a_row.result ≤ length c.args.table.now.sets.now) × Next (meets_in c.args.table.now.sets.now c.args.set) c.args.met c.args.from (length c.args.table.now.sets.now) (c.args.from + c.others_in_a_row.result)
found c = next_at c.args.table.now.sets.now c.args.set c.args.from c.requires c.args.met _ (rw (to_end c.args.from c.args.table.now.sets.now) at c.others_in_a_row.ensures)

pub overflow_cast-result : goal.overflow_cast-result
overflow_cast-result c = let room = (found c).0 in omega arith

pub overflow_add-result : goal.overflow_add-result
overflow_add-result c = let room = (found c).0 in omega arith

pub returns : goal.returns
returns c = (found c).1
