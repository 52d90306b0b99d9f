-- `read` meets its contract: check by check, the definition goes the same way.
use Rattle.std.proofs.Common.{rules, ◌≡◌, ◌∙◌, Err, sym, ap}
use Rattle.rules.specs.Reading.{after_lines}
use Rattle.activity.specs.View.{header_view}
use Rattle.plan.specs.Said.{in_order}
use Rattle.plan.proofs.Mapped.{Mapped, mapped_ok, mapped_err}
use Rattle.plan.proofs.Judging.{refused_view, read_1, first_refused, first_lines, lines_refused, lines_read}
use Rattle.plan.proofs.reading.read.Goals as goal

pub returns-then-s-gt-MOST_BYTES-clause-value : goal.returns-then-s-gt-MOST_BYTES-clause-value
returns-then-s-gt-MOST_BYTES-clause-value c = rw c.into.ensures (refused_view _) ∙ sym (read_1 c.args.s.now c.if-s-gt-MOST_BYTES.true)

pub returns-in_err-header-clause-value : goal.returns-in_err-header-clause-value
returns-in_err-header-clause-value c =
    let q = c.in_err-header.field-0.0 in
    let m : Mapped 1 c.read_first.result c.map_err.result = search rules in
    let r : c.from_residual.result ≡ Err q = search rules in
    let e = mapped_err 1 _ _ q m c.in_err-header.was in
    rw r (sym (c.read_first.ensures.value ∙ rw e.0 (first_refused c.args.s.now c.find-end.result q e.1)))

pub returns-in_err-lines-clause-value : goal.returns-in_err-lines-clause-value
returns-in_err-lines-clause-value c =
    let s = c.args.s.now in
    let h = c.in_ok-header.header in
    let q = c.in_err-lines.field-0.0 in
    let m : Mapped 1 c.read_first.result c.map_err.result = search rules in
    let r : c.from_residual-in_err-lines.result ≡ Err q = search rules in
    let e = mapped_ok 1 _ _ h m c.in_ok-header.was in
    rw r (sym (c.read_first.ensures.value ∙ rw e (first_lines s c.find-end.result h (Err q) c.in_err-lines.ensures.value) ∙ lines_refused (header_view h) s q))

pub judge-requires-clause-read : goal.judge-requires-clause-read
judge-requires-clause-read c =
    let s = c.args.s.now in
    let h = c.in_ok-header.header in
    let lines = c.in_ok-lines.lines in
    let m : Mapped 1 c.read_first.result c.map_err.result = search rules in
    let e = mapped_ok 1 _ _ h m c.in_ok-header.was in
    c.read_first.ensures.value ∙ rw e (first_lines s c.find-end.result h _ c.in_ok-lines.ensures.value) ∙ ap (λ q. in_order (after_lines q)) (lines_read (header_view h) s lines)

pub judge-requires-clause-formed : goal.judge-requires-clause-formed
judge-requires-clause-formed c =
    let m : Mapped 1 c.read_first.result c.map_err.result = search rules in
    rw (mapped_ok 1 _ _ c.in_ok-header.header m c.in_ok-header.was) at c.read_first.ensures.formed
