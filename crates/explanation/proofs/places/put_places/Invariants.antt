-- The places passed are written and answered.
use Rattle.std.proofs.Common.{◌≡◌}
use Rattle.plan.specs.View.{plan_view}
use Rattle.placing.specs.Places.{PlacedTo}
use Rattle.explanation.specs.Places.{place_texts}
use Rattle.wording.specs.Writing.{written, with_more}
use Rattle.explanation.proofs.places.put_places.Given as goal

abbrev pub invariant-loop-place : goal.invariant-loop-place
invariant-loop-place l = PlacedTo l.plan l.place l.placing × (written l.out ≡ with_more (written l.initial.out) (place_texts (plan_view l.plan) l.place))
