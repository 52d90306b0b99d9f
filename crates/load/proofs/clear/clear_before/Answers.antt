-- `clear_before` meets its contract: the definition at the ticks passed.
use Rattle.std.proofs.Common.{◌≡◌, ◌<◌, sym, arith, get_or, take, length-take-le, get_or-take}
use Rattle.load.specs.Clear.{fits}
use Rattle.load.proofs.Since.{since_none, since_more}
use Rattle.load.proofs.clear.clear_before.Goals as goal

pub loop-t-init : goal.loop-t-init
loop-t-init c = (omega arith, sym (since_none _))

pub loop-t-preserved : goal.loop-t-preserved
unfolding fits
loop-t-preserved c =
    let k : c.loop-t.t < c.args.to = omega (arith, length-take-le c.args.to c.args.loads.now) in
    let load : get_or (take c.args.to c.args.loads.now) c.loop-t.t 0 ≡ get_or c.args.loads.now c.loop-t.t 0 = get_or-take c.args.to c.args.loads.now c.loop-t.t 0 k in
    (omega arith, rw (since_more, ← c.loop-t.invariant.1, ← load) c.clear_since-since.ensures)
