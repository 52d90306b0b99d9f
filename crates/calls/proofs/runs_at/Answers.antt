-- Slices that are too short, and runs written into those that are not.
use Rattle.std.proofs.Common.{ap, arith, length}
use Rattle.placing.proofs.ByPlace.{first_runs_are}
use Rattle.calls.proofs.Running.{too_long, columns_kept, columns_written}
use Rattle.calls.proofs.runs_at.Goals as goal

pub returns-then-min-runs : goal.returns-then-min-runs
returns-then-min-runs c =
    let fill = c.fill_at-count in
    let E = first_runs_are c.args.plan.now c.args.place fill.new.table fill.ensures.table_at c.args.set fill.result fill.ensures.value.0 (omega (arith, fill.array_long, fill.ensures.value.1)) in
    rw c.into.ensures (columns_kept _ _ (too_long _ _ (omega (arith, c.if-min-runs.true, c.min.ensures, c.count_runs-runs.ensures.count, ap length E))) c.args.firsts.now c.args.lasts.now)

pub returns : goal.returns
returns c =
    let fill = c.fill_at-count in
    let E = first_runs_are c.args.plan.now c.args.place fill.new.table fill.ensures.table_at c.args.set fill.result fill.ensures.value.0 (omega (arith, fill.array_long, fill.ensures.value.1)) in
    columns_written _ _ _ _ E c.count_runs-runs.ensures.count (omega (arith, c.if-min-runs.false, c.min.ensures)) _ _ _ _ c.write_runs.ensures.firsts c.write_runs.ensures.lasts
