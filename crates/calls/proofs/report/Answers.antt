-- The file's refusal, or the report handed over.
use Rattle.std.proofs.Common.{Ok, Err, length}
use Rattle.rules.specs.Refusals.{refusal_view}
use Rattle.plan.proofs.Accepted.{read_as}
use Rattle.calls.proofs.Answering.{report_refused, report_answered}
use Rattle.calls.proofs.Running.{slice_kept}
use Rattle.calls.proofs.report.Goals as goal

pub returns-in-Err : goal.returns-in-Err
unfolding refusal_view
returns-in-Err c =
    let s = c.args.bytes.now in
    let q = c.in-Err.refused in
    slice_kept _ q (report_refused s (refusal_view q) (read_as s (Err q) c.in-Err.ensures.value) _) c.args.out.now

pub returns : goal.returns
returns c =
    let s = c.args.bytes.now in
    let p = c.in-Ok.plan in
    rw (report_answered s p (read_as s (Ok p) c.in-Ok.ensures.value) (length c.args.out.now), ← c.report_of.ensures, ← c.as_slice.ensures.value) c.hand_over.ensures
