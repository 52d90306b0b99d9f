-- `mark_clear` meets its contract: the invariant has the tick from which the weight fits in all ticks passed.
use Prim.Native.Nat.{◌-◌}
use mathlib.Core.Path.{◌≡◌}
use Rattle.load.specs.Clear.{fits}
use Rattle.load.proofs.Since.{since_first, since_next}
use Rattle.sets.proofs.Marking.{none_marked, marked_more, markable_at}
use native.Mathlib.Omega.{arith}
use Rattle.load.proofs.clear.mark_clear.Goals as goal

pub clear_before-since-requires : goal.clear_before-since-requires
clear_before-since-requires c = (omega arith, omega arith)

pub loop-s-init : goal.loop-s-init
loop-s-init c = (omega arith, since_first _ _ _ c.clear_before-since.ensures, none_marked _ _ _)

pub raise-requires : goal.raise-requires
raise-requires c = markable_at _ _ _ _ _ _ c.loop-s-test.true c.requires.markable c.loop-s.invariant.2

pub loop-s-preserved : goal.loop-s-preserved
unfolding fits
loop-s-preserved c = let next = since_next _ c.loop-s.s (c.args.duration - 1) c.args.duration _ _ (omega arith) c.loop-s.invariant.1 c.clear_since-since.ensures in
    (omega arith, next.0, marked_more _ _ _ _ _ _ _ (omega (arith, c.requires.markable.long)) c.loop-s.invariant.2 c.raise.ensures next.1)

pub shape_of-table : goal.shape_of-table
shape_of-table c = c.loop-s.invariant.2.size

pub returns : goal.returns
returns c = let e : c.args.count ≡ c.loop-s.s = omega arith in
    rw e c.loop-s.invariant.2
