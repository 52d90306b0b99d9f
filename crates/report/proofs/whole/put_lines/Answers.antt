-- One line more is written.
use Rattle.std.proofs.Common.{ap, ◌≡◌, ◌∙◌, sym, ◌<◌, ◌+◌, ◌++◌, arith, length, get_or, take}
use Rattle.std.proofs.lemmas.List.{get_or-take, length-take, length-append}
use Rattle.rules.specs.declared.Outcome.TheVariants.{Placed}
use Rattle.rules.specs.Report.{outcome_lines}
use Rattle.plan.specs.View.{plan_view}
use Rattle.plan.proofs.Places.{placeable}
use Rattle.report.specs.Lines.{outcome_text}
use Rattle.report.proofs.LineByLine.{place_more, lines_short}
use Rattle.report.proofs.whole.put_lines.Goals as goal
use Rattle.report.proofs.whole.put_lines.Goals.{After-activity-activity}

pub loop-place-init : goal.loop-place-init
unfolding outcome_lines
loop-place-init c = c.requires.1

-- the place of this turn is one of the plan's
inside : (c : After-activity-activity) → c.loop-place.place < c.count.result
inside c = omega (arith, c.loop-place-test.true, length-take c.count.result c.args.placing.now.answers)

-- with its line, the lines are those of one place more
written : (c : After-activity-activity) → c.loop-place.out ++ outcome_text c.activity-activity.result.id c.activity-activity.result.duration (get_or (take c.count.result c.args.placing.now.answers) c.loop-place.place (Placed 0)) ≡ outcome_lines (plan_view c.args.plan.now) (c.loop-place.place + 1)
written c =
    let k = c.loop-place.place in
    let answer = get_or-take c.count.result c.args.placing.now.answers k (Placed 0) (inside c) ∙ c.requires.0.answered k (omega (arith, inside c, c.count.ensures.value)) in
    rw c.loop-place.invariant (place_more (plan_view c.args.plan.now) k c.activity-activity.result _ c.activity-activity.ensures answer)

pub loop-place-preserved : goal.loop-place-preserved
loop-place-preserved c = c.put_outcome.ensures ∙ written (goal.at.loop-place-preserved c).After-activity-activity

pub put_outcome-requires : goal.put_outcome-requires
put_outcome-requires c =
    let d = (goal.at.put_outcome-requires c).After-activity-activity in
    let more = sym (length-append c.loop-place.out _) ∙ ap length (written d) in
    let short = lines_short (plan_view c.args.plan.now) (placeable c.args.plan.now) (c.loop-place.place + 1) (omega (arith, inside d, c.count.ensures.value)) in
    (omega arith, omega (arith, inside d, more, short, c.count.ensures.within))
