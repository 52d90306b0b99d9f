-- `ready_from` meets its contract.
use Rattle.std.proofs.Common.{arith, map, length, refl}
use Rattle.activity.specs.View.{number_of}
use Rattle.direct.proofs.Ended.{ready_all, ready_more, ready_none, ready_never}
use Rattle.direct.proofs.after.ready_from.Goals as goal

pub loop-id-init : goal.loop-id-init
loop-id-init c = rw ready_none refl

pub returns-in_err-first_end : goal.returns-in_err-first_end
returns-in_err-first_end c =
    let entries = c.args.entries.now in
    let late = ready_all entries c.args.after.now c.loop-id.id-index _ c.loop-id-test.true c.in_err-first_end.ensures in
    rw c.from_residual.ensures (ready_never entries (length entries) (map number_of c.args.after.now) _ c.loop-id.id-index c.loop-id-test.true late)

pub loop-id-preserved : goal.loop-id-preserved
loop-id-preserved c =
    let end = ready_all c.args.entries.now c.args.after.now c.loop-id.id-index _ c.loop-id-test.true c.in_ok-first_end.ensures in
    rw ready_more (omega (arith, end))
