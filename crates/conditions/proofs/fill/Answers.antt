-- `fill` meets its contract: the invariant is the table of the conditions passed.
use mathlib.Core.Path.{◌≡◌}
use native.Mathlib.Omega.{arith}
use Rattle.sets.proofs.Stage.{stage_none, stage_more, stage_low, stage_all}
use Rattle.conditions.proofs.fill.Goals as goal

pub start_count-count-requires : goal.start_count-count-requires
start_count-count-requires c = let B = c.requires.1 in (B.reached.header, B.candidate)

pub loop-c-init : goal.loop-c-init
loop-c-init c = (omega arith, c.clear.ensures.0, (λ k. omega (arith, c.clear.ensures.1 k)), λ placed B. stage_none _ _ _ c.clear.ensures.0 c.clear.ensures.1)

pub mark-requires : goal.mark-requires
mark-requires c =
    let count = c.start_count-count.ensures in
    record {
      ready = (omega (arith, c.loop-c-test.true), c.requires, count.0);
      table_in_bounds = (omega (arith, c.loop-c.invariant.1, count.1), c.loop-c.invariant.2);
    }

pub loop-c-preserved : goal.loop-c-preserved
loop-c-preserved c =
    let B = c.requires in
    let here = stage_more _ _ _ _ _ (c.loop-c.invariant.3 B.0 B.1) (c.mark.ensures B.0 B.1) in
    (omega arith, here.size, stage_low _ _ _ _ (omega (arith, c.loop-c-test.true)) here, λ placed b. stage_more _ _ _ _ _ (c.loop-c.invariant.3 placed b) (c.mark.ensures placed b))

pub returns : goal.returns
returns c =
    let e : c.loop-c.c ≡ 9 = omega arith in
    λ placed B. stage_all _ _ _ _ _ e c.start_count-count.ensures.0 (c.loop-c.invariant.3 placed B)
