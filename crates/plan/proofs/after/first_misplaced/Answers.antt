-- `after::first_misplaced` meets its contract: the places that are tried and those that are left give the answer.
use Rattle.std.proofs.Common.{arith, sym, ◌∙◌}
use Rattle.activity.specs.View.{header_view}
use Rattle.plan.proofs.Misplaced.{tried_none, tried_all, tried_hit, tried_more}
use Rattle.plan.proofs.after.first_misplaced.Goals as goal

pub loop-place-init : goal.loop-place-init
loop-place-init c = tried_none (header_view c.args.file.now.header) c.args.file.now.bytes.now c.args.lines.now

pub follows-requires : goal.follows-requires
follows-requires c = (c.requires c.loop-place.place _ c.loop-place-test.true).says

pub returns-then-not-follows-clause-value : goal.returns-then-not-follows-clause-value
returns-then-not-follows-clause-value c = tried_hit (header_view c.args.file.now.header) c.args.file.now.bytes.now c.args.lines.now c.requires c.loop-place.place _ c.loop-place-test.true c.loop-place.invariant (sym c.follows.ensures ∙ c.if-not-follows.true)

pub loop-place-preserved : goal.loop-place-preserved
loop-place-preserved c = tried_more (header_view c.args.file.now.header) c.args.file.now.bytes.now c.args.lines.now c.requires c.loop-place.place _ c.loop-place-test.true c.loop-place.invariant (sym c.follows.ensures ∙ c.if-not-follows.false)

pub returns-clause-value : goal.returns-clause-value
returns-clause-value c = tried_all (header_view c.args.file.now.header) c.args.file.now.bytes.now c.args.lines.now c.loop-place.place (omega arith) c.loop-place.invariant
