-- Piece by piece; the runs of the table are those of the place.
use Rattle.std.proofs.Common.{◌≡◌, [], ◌∷◌, ◌∙◌, ap, sym, arith}
use Rattle.rules.specs.Bytes.{bytes}
use Rattle.rules.specs.Number.{decimal}
use Rattle.rules.specs.Outcomes.{activity_at, outcome}
use Rattle.rules.specs.Calls.{runs}
use Rattle.activity.specs.View.{activity_view}
use Rattle.plan.specs.View.{plan_view}
use Rattle.explanation.specs.Places.{outcome_text, place_text}
use Rattle.wording.specs.Writing.{written, with_more}
use Rattle.wording.proofs.Pieces.{pieces}
use Rattle.explanation.proofs.PlaceTexts.{first_outcome_is, small_is}
use Rattle.explanation.proofs.places.put_place.Goals as goal

pub put_outcome-requires : goal.put_outcome-requires
put_outcome-requires c = small_is (plan_view c.args.plan.now) c.args.k c.args.answer c.requires.2

pub returns : goal.returns
unfolding place_text activity_view
returns c =
    let p = plan_view c.args.plan.now in
    let k = c.args.k in
    let a = activity_at p k in
    let out = written c.args.out.now in
    let count = c.start_count_at-count in
    let id : c.activity-activity.result.id ≡ a.id = ap (λ a. a.id) c.activity-activity.ensures in
    let duration : a.duration ≡ c.activity-activity.result.duration = ap (λ a. a.duration) (sym c.activity-activity.ensures) in
    c.put_outcome.ensures a duration
    ∙ ap (with_more (written c.push-3.new.self)) (first_outcome_is c.args.plan.now k c.args.table.now c.requires.1 count.result count.ensures.0 (omega (arith, count.ensures.1, c.told-table)) a c.args.answer ∙ ap (outcome_text (runs p k) a) c.requires.2)
    ∙ rw (c.push-3.ensures, c.push_number-2.ensures, c.push-2.ensures, c.push_number.ensures, c.push.ensures, c.from.ensures, id) (
    pieces out (bytes "place " ∷ decimal k ∷ bytes ", activity " ∷ decimal a.id ∷ bytes ": " ∷ outcome_text (runs p k) a (outcome p k) ∷ [])
    )
