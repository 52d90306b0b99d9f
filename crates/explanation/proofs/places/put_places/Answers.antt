-- One place more is written and answered.
use Rattle.std.proofs.Common.{◌∙◌, ap, sym}
use Rattle.plan.specs.View.{plan_view}
use Rattle.placing.proofs.ByPlace.{placed_none}
use Rattle.explanation.specs.Places.{place_text, place_texts}
use Rattle.wording.specs.Writing.{written, with_more}
use Rattle.wording.proofs.Pieces.{more_none, more_then}
use Rattle.explanation.proofs.PlaceTexts.{places_more}
use Rattle.explanation.proofs.places.put_places.Goals as goal

pub loop-place-init : goal.loop-place-init
unfolding place_texts
loop-place-init c = (placed_none c.args.plan.now c.new-placing.result c.new-placing.ensures, sym (more_none (written c.args.out.now)))

pub loop-place-preserved : goal.loop-place-preserved
loop-place-preserved c =
    let p = plan_view c.args.plan.now in
    let k = c.loop-place.place in
    (c.place_next.ensures.one_more, c.put_place.ensures ∙ rw c.loop-place.invariant.1 (more_then (written c.args.out.now) (place_texts p k) (place_text p k)) ∙ ap (with_more (written c.args.out.now)) (sym (places_more p k)))
