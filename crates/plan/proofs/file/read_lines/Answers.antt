-- `file::read_lines` meets its contract: the lines read and the bytes that are left give the answer.
use Rattle.std.proofs.Common.{rules, arith, ◌≡◌, ◌∙◌, ◌+◌, ◌<◌, length, Err, refl, ap}
use Rattle.std.proofs.lemmas.Result.{IfOk-at_ok}
use Rattle.std.proofs.lemmas.List.Elements.{All-push}
use Rattle.activity.specs.View.{header_view}
use Rattle.plan.specs.Said.{LineIn}
use Rattle.plan.proofs.Mapped.{Mapped, mapped_ok, mapped_err}
use Rattle.plan.proofs.Lining.{all_read, line_refused, line_more}
use Rattle.plan.proofs.file.read_lines.Goals as goal

pub loop-at-init : goal.loop-at-init
loop-at-init c = rw c.new-lines.ensures (record { inside = omega arith; said = λ k d h. absurd (omega arith); value = refl })

pub returns-in_err-next-clause-value : goal.returns-in_err-next-clause-value
returns-in_err-next-clause-value c =
    let a = c.args in
    let h = header_view a.file.now.header in
    let l = c.loop-at in
    let q = c.in_err-next.field-0.0 in
    let m : Mapped (c.len.result + 2) c.read_line.result c.map_err.result = search rules in
    let r : c.from_residual.result ≡ Err q = search rules in
    let e = mapped_err (c.len.result + 2) _ _ q m c.in_err-next.was in
    l.invariant.value ∙ c.read_line.ensures.value ∙ rw (e.0, r) (line_refused h a.file.now.bytes.now l.lines (c.find-end.result + 1) q (e.1 ∙ ap (λ n. n + 2) c.len.ensures.value))

pub loop-at-preserved : goal.loop-at-preserved
loop-at-preserved c =
    let a = c.args in
    let h = header_view a.file.now.header in
    let l = c.loop-at in
    let line = c.in_ok-next.next in
    let m : Mapped (c.len.result + 2) c.read_line.result c.map_err.result = search rules in
    let e = mapped_ok (c.len.result + 2) _ _ line m c.in_ok-next.was in
    let k = IfOk-at_ok (λ x. LineIn h a.file.now.bytes.now x × (x.at ≡ l.at) × (c.find-end.result < length a.file.now.bytes.now)) e c.read_line.ensures.line_in in
    rw c.push.ensures
    (record {
      inside = omega arith;
      said = All-push (LineIn h a.file.now.bytes.now) l.lines line l.invariant.said k.0;
      value = l.invariant.value ∙ c.read_line.ensures.value ∙ rw e (line_more h a.file.now.bytes.now l.lines (c.find-end.result + 1) line);
    })

pub returns-clause-value : goal.returns-clause-value
returns-clause-value c = c.loop-at.invariant.value ∙ all_read (header_view c.args.file.now.header) c.args.file.now.bytes.now c.loop-at.lines c.loop-at.at (omega arith)
