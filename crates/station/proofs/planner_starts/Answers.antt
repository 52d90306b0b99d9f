-- As many runs as are counted fit in the slice and in the columns, and put together they are what the call promises.
use Rattle.std.proofs.Common.{sym, arith, length-take-le}
use Rattle.station.proofs.StartsExported.{runs_fit, runs_exported, refusal_exported}
use Rattle.station.proofs.planner_starts.Goals as goal
use Rattle.station.proofs.planner_starts.Goals.{in-Ok, in_default}

pub slice_bounds-firsts-end : goal.slice_bounds-firsts-end
slice_bounds-firsts-end c =
    let fit = runs_fit c.args.plan.now c.args.place c.args.set c.args.out.now c.columns-answer.result c.columns-answer.new.firsts c.columns-answer.new.lasts c.columns-answer.ensures c.in-Ok.count c.in-Ok.is in
    omega (arith, fit)

pub slice_bounds-put_runs-end : goal.slice_bounds-put_runs-end
slice_bounds-put_runs-end c =
    let fit = runs_fit c.args.plan.now c.args.place c.args.set c.args.out.now c.columns-answer.result c.columns-answer.new.firsts c.columns-answer.new.lasts c.columns-answer.ensures c.in-Ok.count c.in-Ok.is in
    sym (length-take-le c.in-Ok.count c.columns-answer.new.firsts (omega (arith, fit)))

pub slice_bounds-lasts-end : goal.slice_bounds-lasts-end
slice_bounds-lasts-end c =
    let fit = runs_fit c.args.plan.now c.args.place c.args.set c.args.out.now c.columns-answer.result c.columns-answer.new.firsts c.columns-answer.new.lasts c.columns-answer.ensures c.in-Ok.count c.in-Ok.is in
    omega (arith, fit)

pub slice_bounds-put_runs-end-in-Ok : goal.slice_bounds-put_runs-end-in-Ok
slice_bounds-put_runs-end-in-Ok c =
    let fit = runs_fit c.args.plan.now c.args.place c.args.set c.args.out.now c.columns-answer.result c.columns-answer.new.firsts c.columns-answer.new.lasts c.columns-answer.ensures c.in-Ok.count c.in-Ok.is in
    sym (length-take-le c.in-Ok.count c.columns-answer.new.lasts (omega (arith, fit)))

pub put_runs-requires : goal.put_runs-requires
put_runs-requires c =
    let fit = runs_fit c.args.plan.now c.args.place c.args.set c.args.out.now c.columns-answer.result c.columns-answer.new.firsts c.columns-answer.new.lasts c.columns-answer.ensures c.in-Ok.count c.in-Ok.is in
    omega (arith, length-take-le c.in-Ok.count c.columns-answer.new.firsts (omega (arith, fit)), fit)

pub returns : goal.returns
returns c =
    elim c.match-answer.branch [
      | in-Ok w ↦ rw (c.pack_count.ensures, w.answer-is, w.out-is, ← w.in-Ok.is) (
          runs_exported c.args.plan.now c.args.place c.args.set c.args.out.now c.columns-answer.result c.columns-answer.new.firsts c.columns-answer.new.lasts c.columns-answer.ensures w.in-Ok.count w.in-Ok.is _ w.put_runs.ensures
          )
      | in_default w ↦ rw (c.pack_count.ensures, w.answer-is, w.out-is) (
          refusal_exported c.args.plan.now c.args.place c.args.set c.args.out.now c.columns-answer.result c.columns-answer.new.firsts c.columns-answer.new.lasts c.columns-answer.ensures _ w.in_default.is
          )
    ]
