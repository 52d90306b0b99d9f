-- `Plan::activity` meets its contract.
use Rattle.std.proofs.Common.{arith, sym, ◌∙◌}
use Rattle.plan.proofs.Places.{place_count, place_is}
use Rattle.plan.proofs.Plan.activity.Goals as goal

pub offset_bounds-as_slice-place : goal.offset_bounds-as_slice-place
offset_bounds-as_slice-place c = omega (arith, place_count c.args.self.now, c.as_slice.ensures.within)

pub bounds-as_slice-place : goal.bounds-as_slice-place
bounds-as_slice-place c = rw (c.as_slice.ensures.value, ← place_count c.args.self.now) c.requires

pub activity_in-requires : goal.activity_in-requires
activity_in-requires c =
    let p = c.args.self.now in
    rw c.as_slice.ensures.value (p.said c.args.place _ (rw (place_count p) at c.requires)).says

pub returns : goal.returns
returns c =
    let p = c.args.self.now in
    c.activity_in.ensures ∙ rw c.as_slice.ensures.value (sym (place_is p c.args.place _ (rw (place_count p) at c.requires)))
