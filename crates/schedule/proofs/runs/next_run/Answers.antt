-- `next_run` meets its contract.
use Rattle.std.proofs.Common.{ℕ, ◌+◌, ◌-◌, ◌<◌, ◌≤◌, sym, ◌∙◌, length, drop, arith}
use Rattle.schedule.specs.Search.{meets_in, FirstRun}
use Rattle.schedule.proofs.RunSteps.{run}
use Rattle.schedule.proofs.NextRuns.{to_end, next_none, next_some}
use Rattle.schedule.proofs.runs.next_run.Goals as goal

pub returns-in_err-skipped : goal.returns-in_err-skipped
returns-in_err-skipped c =
    let found = rw (to_end c.args.from c.args.table.now.sets.now) at (sym c.first_met.ensures ∙ c.in_err-skipped.was) in
    rw c.from_residual.ensures (next_none c.args.table.now.sets.now c.args.set c.args.from c.requires found)

-- where the run stands
found_run : (c : goal.After-met_in_a_row-count)
    → let first : ℕ = c.args.from + c.in_ok-skipped.skipped in
    let end : ℕ = first + c.met_in_a_row-count.result in
    (0 < c.met_in_a_row-count.result) × (end ≤ length c.args.table.now.sets.now) × FirstRun (meets_in c.args.table.now.sets.now c.args.set) (length c.args.table.now.sets.now) c.args.from (run first (end - 1))
found_run c =
    let found = rw (to_end c.args.from c.args.table.now.sets.now) at (sym c.first_met.ensures ∙ c.in_ok-skipped.was) in
    let count = rw (to_end c.args.from c.args.table.now.sets.now, to_end c.in_ok-skipped.skipped (drop c.args.from c.args.table.now.sets.now)) at c.met_in_a_row-count.ensures in
    next_some c.args.table.now.sets.now c.args.set c.args.from c.requires c.in_ok-skipped.skipped _ found count

pub overflow_cast-last : goal.overflow_cast-last
overflow_cast-last c = let run = found_run c in omega arith

pub overflow_add-last : goal.overflow_add-last
overflow_add-last c = let run = found_run c in omega arith

pub returns : goal.returns
returns c = (found_run c).2
