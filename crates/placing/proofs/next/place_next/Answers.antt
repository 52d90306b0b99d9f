-- `place_next` meets its contract.
use Rattle.std.proofs.Common.{arith, rules, refl}
use Rattle.activity.specs.View.{header_view, activity_view}
use Rattle.plan.proofs.Places.{placeable}
use Rattle.placing.proofs.ByPlace.{header_formed, formed, beside, right, placed_next, table_is}
use Rattle.placing.proofs.next.place_next.Goals as goal

pub put_candidate-requires-clause-room : goal.put_candidate-requires-clause-room
put_candidate-requires-clause-room c = omega (arith, c.requires.1.few, c.requires.0, (placeable c.args.plan.now).few)

pub put_candidate-requires-clause-settings_formed : goal.put_candidate-requires-clause-settings_formed
put_candidate-requires-clause-settings_formed c =
    let F = formed c.args.plan.now _ _ c.requires.0 c.activity-candidate.ensures in
    (F.needs, F.sets)

pub reply_to-outcome-requires : goal.reply_to-outcome-requires
reply_to-outcome-requires c =
    let w = c.put_candidate.ensures in
    (_, beside c.args.plan.now _ _ _ c.requires.0 c.activity-candidate.ensures c.requires.1 _ _ w.counted w.candidate_at w.same_below)

pub offset_bounds-placing-k : goal.offset_bounds-placing-k
offset_bounds-placing-k c = omega (arith, c.requires.0, (placeable c.args.plan.now).few)

pub bounds-placing-k : goal.bounds-placing-k
bounds-placing-k c = omega (arith, c.requires.0, (placeable c.args.plan.now).few)

pub put_if_placed-requires : goal.put_if_placed-requires
unfolding activity_view header_view
put_if_placed-requires c =
    let w = c.put_candidate.ensures in
    let B = beside c.args.plan.now _ _ _ c.requires.0 c.activity-candidate.ensures c.requires.1 _ _ w.counted w.candidate_at w.same_below in
    let R = right c.args.plan.now _ _ _ c.requires.0 c.activity-candidate.ensures c.requires.1 _ (c.reply_to-outcome.ensures.value _ B) in
    (B.few, B.candidate.id, (λ x e. omega (arith, (R.placed x e).valid.start, (header_formed c.args.plan.now).horizon.1)))

pub returns-clause-one_more : goal.returns-clause-one_more
returns-clause-one_more c =
    let w = c.put_candidate.ensures in
    let B = beside c.args.plan.now _ _ _ c.requires.0 c.activity-candidate.ensures c.requires.1 _ _ w.counted w.candidate_at w.same_below in
    let put = c.put_if_placed.ensures in
    placed_next c.args.plan.now _ _ _ c.requires.0 c.activity-candidate.ensures c.requires.1 _ _ (c.reply_to-outcome.ensures.value _ B) (omega (arith, put.counted, w.counted)) (put.held _ w.candidate_at B.held) (search rules) refl

pub returns-clause-table_at : goal.returns-clause-table_at
returns-clause-table_at c =
    let w = c.put_candidate.ensures in
    let B = beside c.args.plan.now _ _ _ c.requires.0 c.activity-candidate.ensures c.requires.1 _ _ w.counted w.candidate_at w.same_below in
    table_is c.args.plan.now _ _ _ c.requires.0 c.activity-candidate.ensures c.requires.1 _ (c.reply_to-outcome.ensures.table _ B)
