-- The report, or the line of the refusal.
use Rattle.std.proofs.Common.{◌∙◌, sym, Ok, Err}
use Rattle.rules.specs.Refusals.{refusal_view}
use Rattle.plan.proofs.Accepted.{read_as}
use Rattle.calls.proofs.Answering.{output_refused, output_answered}
use Rattle.calls.proofs.output.Goals as goal

pub returns-in-Ok : goal.returns-in-Ok
returns-in-Ok c =
    let s = c.args.bytes.now in
    let p = c.in-Ok.plan in
    c.report_of.ensures ∙ sym (output_answered s p (read_as s (Ok p) c.in-Ok.ensures.value))

pub returns-in-Err : goal.returns-in-Err
returns-in-Err c =
    let s = c.args.bytes.now in
    let q = c.in-Err.refused in
    c.no_line_of.ensures ∙ sym (output_refused s (refusal_view q) (read_as s (Err q) c.in-Err.ensures.value))
