-- `file::read_line` meets its contract: check by check, the definition goes the same way.
use Rattle.std.proofs.Common.{rules, arith, Err, ◌≡◌, ◌∙◌, true, refl, sym}
use Rattle.rules.specs.Bytes.{bytes}
use Rattle.rules.specs.Lines.{split_on}
use Rattle.rules.specs.Fields.{value}
use Rattle.rules.specs.ActivityLine.{activity_of}
use Rattle.rules.specs.Refusals.{number_of}
use Rattle.activity.specs.View.{header_view, activity_view}
use Rattle.line.specs.Formed.{is_formed}
use Rattle.order.specs.declared.Line.{Line}
use Rattle.plan.specs.LineAt.{line_at}
use Rattle.plan.specs.Reached.{line_from}
use Rattle.plan.proofs.LineAt.{line_to, line_says, read_value, read_fault}
use Rattle.plan.proofs.Lining.{next_ends, next_2, next_5, next_fault, next_6, next_on, narrow}
use Rattle.plan.proofs.file.read_line.Goals as goal
use Rattle.plan.proofs.file.read_line.Goals.{then-end-file-via-then-end-file, then-end-file-via-else-end-file+then-not-formed, Else-not-formed, In_ok-activity, Else-says_id}

pub returns-then-end-file-clause-value : goal.returns-then-end-file-clause-value
unfolding line_from
returns-then-end-file-clause-value c =
    let a = c.args in
    let at = c.requires.at_next_lf in
    elim c.then-end-file.branch [
      | then-end-file-via-then-end-file w ↦ next_ends (header_view a.file.now.header) a.file.now.bytes.now a.lines.now a.at a.end at.2 at.1 (omega arith)
      | then-end-file-via-else-end-file+then-not-formed w ↦ next_2 (header_view a.file.now.header) a.file.now.bytes.now a.lines.now a.at a.end at.2 (omega arith) (rw (← line_to a.file.now.bytes.now a.at a.end at.2) (sym w.formed.ensures ∙ w.if-not-formed.true))
    ]

-- the line is formed
form : (c : Else-not-formed) → is_formed (bytes "act") 15 (line_at c.args.file.now.bytes.now c.args.at) ≡ true
form c = rw (← line_to c.args.file.now.bytes.now c.args.at c.args.end c.requires.at_next_lf.2) (sym c.formed.ensures ∙ c.if-not-formed.false)

pub returns-then-len-ge-MOST_LINES-clause-value : goal.returns-then-len-ge-MOST_LINES-clause-value
unfolding line_from
returns-then-len-ge-MOST_LINES-clause-value c =
    let a = c.args in
    let at = c.requires.at_next_lf in
    next_5 (header_view a.file.now.header) a.file.now.bytes.now a.lines.now a.at a.end at.2 (omega arith) (form (goal.at.returns-then-len-ge-MOST_LINES-clause-value c).Else-not-formed) (omega (arith, c.len.ensures.value))

pub returns-in_err-activity-clause-value : goal.returns-in_err-activity-clause-value
unfolding line_from
returns-in_err-activity-clause-value c =
    let a = c.args in
    let at = c.requires.at_next_lf in
    let f = c.in_err-activity.field-0.0 in
    let r : c.from_residual.result ≡ Err f = search rules in
    rw r (next_fault (header_view a.file.now.header) a.file.now.bytes.now a.lines.now a.at a.end at.2 (omega arith) (form (goal.at.returns-in_err-activity-clause-value c).Else-not-formed) (omega (arith, c.len.ensures.value)) (number_of f)
    (rw (← line_to a.file.now.bytes.now a.at a.end at.2) (read_fault activity_view f c.in_err-activity.ensures)))

-- and it says this activity
said : (c : In_ok-activity) → activity_of (header_view c.args.file.now.header) (split_on 9 (line_at c.args.file.now.bytes.now c.args.at)) ≡ value (activity_view c.in_ok-activity.activity)
said c = rw (← line_to c.args.file.now.bytes.now c.args.at c.args.end c.requires.at_next_lf.2) (read_value activity_view c.in_ok-activity.activity c.in_ok-activity.ensures)

pub returns-then-says_id-clause-value : goal.returns-then-says_id-clause-value
unfolding line_from activity_view
returns-then-says_id-clause-value c =
    let a = c.args in
    let at = c.requires.at_next_lf in
    next_6 (header_view a.file.now.header) a.file.now.bytes.now a.lines.now a.at a.end at.2 (omega arith) (form (goal.at.returns-then-says_id-clause-value c).Else-not-formed) (omega (arith, c.len.ensures.value))
    (activity_view c.in_ok-activity.activity) (said (goal.at.returns-then-says_id-clause-value c).In_ok-activity) c.requires.said (rw (← c.as_slice.ensures.value) (sym c.says_id.ensures ∙ c.if-says_id.true))

pub overflow_cast-result-2 : goal.overflow_cast-result-2
overflow_cast-result-2 c = omega (arith, (narrow _ _ _ (form (goal.at.overflow_cast-result-2 c).Else-not-formed) (said (goal.at.overflow_cast-result-2 c).In_ok-activity)).0)

pub overflow_cast-result-3 : goal.overflow_cast-result-3
overflow_cast-result-3 c = omega (arith, (narrow _ _ _ (form (goal.at.overflow_cast-result-3 c).Else-not-formed) (said (goal.at.overflow_cast-result-3 c).In_ok-activity)).1)

-- the line that is answered
next : (c : Else-says_id) → Line
next c = record { at = c.args.at; id = c.in_ok-activity.activity.id; priority = c.in_ok-activity.activity.priority }

pub returns-clause-value : goal.returns-clause-value
unfolding line_from activity_view next
returns-clause-value c =
    let a = c.args in
    let at = c.requires.at_next_lf in
    let e = said (goal.at.returns-clause-value c).In_ok-activity in
    next_on (header_view a.file.now.header) a.file.now.bytes.now a.lines.now a.at a.end at.2 (omega arith) (form (goal.at.returns-clause-value c).Else-not-formed) (omega (arith, c.len.ensures.value))
    (activity_view c.in_ok-activity.activity) e c.requires.said (next (goal.at.returns-clause-value c).Else-says_id) (line_says (header_view a.file.now.header) a.file.now.bytes.now a.at _ at.1 e).1 (rw (← c.as_slice.ensures.value) (sym c.says_id.ensures ∙ c.if-says_id.false))

pub returns-clause-line_in : goal.returns-clause-line_in
unfolding activity_view
returns-clause-line_in c =
    let a = c.args in
    let at = c.requires.at_next_lf in
    let e = line_says (header_view a.file.now.header) a.file.now.bytes.now a.at (activity_view c.in_ok-activity.activity) at.1 (said (goal.at.returns-clause-line_in c).In_ok-activity) in
    (record { says = e.0; id_is = rw e.1; priority_is = rw e.1 }, refl, omega arith)
