-- The text that is written is the file's.
use Rattle.std.proofs.Common.{◌∙◌, sym, ap, Ok, Err}
use Rattle.rules.specs.Refusals.{refusal_view}
use Rattle.plan.proofs.Accepted.{read_as}
use Rattle.wording.specs.Writing.{written, with_more}
use Rattle.explanation.proofs.PlaceTexts.{explained_accepted, explained_refused}
use Rattle.explanation.proofs.put_explained.Goals as goal

pub returns-in-Ok : goal.returns-in-Ok
returns-in-Ok c =
    let s = c.args.bytes.now in
    let p = c.in-Ok.plan in
    c.put_accepted.ensures ∙ ap (with_more (written c.args.out.now)) (sym (explained_accepted s p (read_as s (Ok p) c.in-Ok.ensures.value)))

pub returns-in-Err : goal.returns-in-Err
returns-in-Err c =
    let s = c.args.bytes.now in
    let q = c.in-Err.refused in
    c.put_refusal.ensures ∙ ap (with_more (written c.args.out.now)) (sym (explained_refused s (refusal_view q) (read_as s (Err q) c.in-Err.ensures.value)))
