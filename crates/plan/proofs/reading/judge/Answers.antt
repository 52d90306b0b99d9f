-- `reading::judge` meets its contract: check by check, the definition goes the same way.
use Rattle.std.proofs.Common.{◌≡◌, ◌∙◌, false, [], map, sym, ap}
use Rattle.std.proofs.Math.Option.{none}
use Rattle.std.specs.Option.{unwrap_or}
use Rattle.std.proofs.lemmas.List.Elements.{All-contains}
use Rattle.rules.specs.Reading.{accepted, misplaced, no, out_of_reach, reading}
use Rattle.activity.specs.View.{header_view}
use Rattle.order.specs.Lines.{order_lines}
use Rattle.plan.specs.Said.{said_by, LineIn, plan_of, in_order}
use Rattle.plan.specs.View.{plan_view}
use Rattle.plan.specs.Reading.{reading_view}
use Rattle.plan.proofs.Accepted.{accepted_placeable}
use Rattle.plan.proofs.Ids.{line_is, line_said, line_found}
use Rattle.plan.proofs.Ordering.{order_in}
use Rattle.plan.proofs.Judging.{refused_view, judged_7, judged_9, judged_on}
use Rattle.plan.proofs.reading.judge.Goals as goal
use Rattle.plan.proofs.reading.judge.Goals.{In_default}

pub first_misplaced-requires : goal.first_misplaced-requires
first_misplaced-requires c = rw (c.as_slice.ensures.value, c.ordered-by_place.ensures.value) (order_in (header_view c.args.file.now.header) c.args.file.now.bytes.now c.args.lines c.requires.said)

-- the ids are as many as lines are
pub line_of-requires : goal.line_of-requires
line_of-requires c = rw c.as_slice-in-Some.ensures.value c.as_slice-in-Some.ensures.within

pub unwrap-line-requires : goal.unwrap-line-requires
unwrap-line-requires c =
    let e = line_said c.args.lines c.in-Some.misplaced.id c.from.result c.as_slice-in-Some.result.now c.line_of.result c.line_of.ensures (c.as_slice-in-Some.ensures.value ∙ c.ids_of-ids.ensures) c.from.ensures in
    rw e (line_found c.args.lines c.ordered-by_place.result c.in-Some.misplaced c.ordered-by_place.ensures.same_lines (rw c.as_slice.ensures.value at c.in-Some.ensures.among))

pub returns-in-Some-clause-value : goal.returns-in-Some-clause-value
returns-in-Some-clause-value c =
    let a = c.args in
    let h = header_view a.file.now.header in
    let s = a.file.now.bytes.now in
    let x = c.in-Some.misplaced in
    let m = rw (c.as_slice.ensures.value, c.ordered-by_place.ensures.value) at c.in-Some.ensures.value in
    let e = line_said a.lines x.id c.from.result c.as_slice-in-Some.result.now c.line_of.result c.line_of.ensures (c.as_slice-in-Some.ensures.value ∙ c.ids_of-ids.ensures) c.from.ensures in
    let l = All-contains (LineIn h s) (order_lines a.lines) x (order_in h s a.lines c.requires.said) (rw (c.as_slice.ensures.value, c.ordered-by_place.ensures.value) at c.in-Some.ensures.among) in
    refused_view _ ∙ sym (c.requires.read ∙ judged_7 h s a.lines c.requires.said x m ∙ ap (no 7) (line_is h s a.lines c.requires.said (said_by h s x).id ∙ rw (← l.id_is) (ap (λ o. unwrap_or o 0) (sym e ∙ c.unwrap-line.ensures))))

-- no place is misplaced
none_misplaced : (c : In_default) → misplaced [] (map (said_by (header_view c.args.file.now.header) c.args.file.now.bytes.now) (order_lines c.args.lines)) ≡ none
none_misplaced c = rw (c.as_slice.ensures.value, c.ordered-by_place.ensures.value) at c.in_default.ensures.value

pub returns-then-out_of_reach-clause-value : goal.returns-then-out_of_reach-clause-value
returns-then-out_of_reach-clause-value c =
    let a = c.args in
    rw c.into.ensures (refused_view _) ∙ sym (c.requires.read ∙ judged_9 (header_view a.file.now.header) a.file.now.bytes.now a.lines c.requires.said (none_misplaced (goal.at.returns-then-out_of_reach-clause-value c).In_default) (sym c.out_of_reach.ensures ∙ c.if-out_of_reach.true))

-- so they are accepted, by place
on : (c : In_default) → out_of_reach (header_view c.args.file.now.header) ≡ false → in_order (reading c.args.file.now.bytes.now) ≡ accepted (plan_of (header_view c.args.file.now.header) c.args.file.now.bytes.now (order_lines c.args.lines))
on c f =
    let a = c.args in
    c.requires.read ∙ judged_on (header_view a.file.now.header) a.file.now.bytes.now a.lines c.requires.said (none_misplaced c) f

pub invariant_of-result : goal.invariant_of-result
invariant_of-result c =
    let a = c.args in
    rw c.ordered-by_place.ensures.value
    (record {
      said = order_in (header_view a.file.now.header) a.file.now.bytes.now a.lines c.requires.said;
      is_placeable = accepted_placeable a.file.now.bytes.now _ (on (goal.at.invariant_of-result c).In_default (sym c.out_of_reach.ensures ∙ c.if-out_of_reach.false));
    })

pub returns-clause-value : goal.returns-clause-value
unfolding reading_view plan_view
returns-clause-value c = rw c.ordered-by_place.ensures.value (sym (on (goal.at.returns-clause-value c).In_default (sym c.out_of_reach.ensures ∙ c.if-out_of_reach.false)))
