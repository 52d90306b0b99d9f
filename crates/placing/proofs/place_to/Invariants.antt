-- The loop of `place_to`: the places passed are answered, and what they place is placed.
use Rattle.placing.specs.Places.{PlacedTo}
use Rattle.placing.proofs.place_to.Given as goal

abbrev pub invariant-loop-place : goal.invariant-loop-place
invariant-loop-place l = PlacedTo l.plan l.place l.placing
