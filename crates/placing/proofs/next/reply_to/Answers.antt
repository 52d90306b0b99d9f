-- `reply_to` meets its contract.
use Rattle.std.proofs.Common.{◌≤◌, ◌∙◌, arith, length}
use Rattle.rules.specs.MeetsW.{meets_w}
use Rattle.rules.specs.Conditions.{conditions, meets}
use Rattle.rules.specs.Outcomes.{distance, reply}
use Rattle.activity.specs.View.{activity_view}
use Rattle.schedule.proofs.Tabled.{entries_small, table_answer, first_small, first_answer, first_valid}
use Rattle.placing.proofs.next.reply_to.Goals as goal

pub reply_by-requires-clause-small : goal.reply_by-requires-clause-small
reply_by-requires-clause-small c =
    let count = c.start_count-count.ensures in
    let long : c.start_count-count.result ≤ length c.fill.new.table = omega (arith, c.fill.array_long) in
    let small = entries_small _ _ _ (c.fill.ensures c.requires.0 c.requires.1) in
    first_small _ _ long _ small

pub reply_by-requires-clause-formed : goal.reply_by-requires-clause-formed
reply_by-requires-clause-formed c = c.requires.1.candidate.windows

pub reply_by-requires-clause-allowed : goal.reply_by-requires-clause-allowed
unfolding meets conditions meets_w
reply_by-requires-clause-allowed c = λ s e.
    let count = c.start_count-count.ensures in
    let long : c.start_count-count.result ≤ length c.fill.new.table = omega (arith, c.fill.array_long) in
    first_valid _ _ long _ (rw (← count.0) at (c.fill.ensures c.requires.0 c.requires.1)) s 0 e (omega arith)

pub returns-clause-value : goal.returns-clause-value
unfolding reply
returns-clause-value c =
    λ before B.
    let count = c.start_count-count.ensures in
    let long : c.start_count-count.result ≤ length c.fill.new.table = omega (arith, c.fill.array_long) in
    let by = distance (activity_view c.args.candidate.now) in
    c.reply_by.ensures ∙ first_answer _ _ long by ∙ table_answer _ _ _ (rw (← count.0) at (c.fill.ensures before B)) by ∙ rw count.0
