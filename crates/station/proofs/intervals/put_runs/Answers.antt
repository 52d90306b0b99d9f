-- All runs are put together.
use Rattle.std.proofs.Common.{◌≡◌, ◌≤◌, length, length-set, [], ap₂, arith, inl, inr, refl}
use Rattle.station.specs.Columns.{pairs}
use Rattle.station.proofs.Pairs.{pairs_end, pairs_end_last, inside, next_put, all_put, behind_kept}
use Rattle.station.proofs.intervals.put_runs.Goals as goal

pub loop-i-init : goal.loop-i-init
loop-i-init c =
    let none : c.into_iter-i-iterator.result.count ≡ 0 = (cc) in
    let firsts : c.into_iter-i-iterator.result.iter.a.rest.now ≡ c.args.firsts.now = (cc) in
    let lasts : c.into_iter-i-iterator.result.iter.b.rest.now ≡ c.args.lasts.now = (cc) in
    rw (none, firsts, lasts) (omega arith, refl, refl)

pub bounds-out-i : goal.bounds-out-i
bounds-out-i c =
    let at = c.loop-i.invariant in
    let step = c.in-Some.ensures.steps in
    omega (arith, step.1, inside _ _ _ _ _ at.0 at.1 _ _ (ap₂ pairs step.0.0 step.0.1) (omega (arith, c.requires, c.loop-i.auto.out)))

pub loop-i-preserved : goal.loop-i-preserved
loop-i-preserved c =
    let at = c.loop-i.invariant in
    let step = c.in-Some.ensures.steps in
    let left = ap₂ pairs step.0.0 step.0.1 in
    let room : length c.args.firsts.now ≤ length c.loop-i.out = omega (arith, c.requires, c.loop-i.auto.out) in
    let here = inside _ _ _ _ _ at.0 at.1 _ _ left room in
    rw (step.2, step.1) (
      rw length-set (omega (arith, here)),
      next_put _ _ _ _ _ at.0 at.1 _ _ left room,
      behind_kept _ _ _ _ here (omega (arith, here, c.loop-i.auto.out)) at.2,
    )

pub returns : goal.returns
returns c =
    let at = c.loop-i.invariant in
    let none : pairs c.loop-i.i-iterator.iter.a.rest.now c.loop-i.i-iterator.iter.b.rest.now ≡ [] = elim c.in-None.ensures.steps.0 [
      | inl f ↦ pairs_end _ _ f.1.0
      | inr f ↦ pairs_end_last _ _ f.1.0
    ] in
    all_put _ _ _ _ _ at.0 at.1 _ none at.2
