-- `start_count` meets its contract.
use native.Mathlib.Omega.{arith}
use Rattle.rules.specs.Outcomes.{starts}
use Rattle.activity.specs.View.{header_view, activity_view}
use Rattle.conditions.proofs.start_count.Goals as goal

pub overflow_add-result : goal.overflow_add-result
unfolding header_view
overflow_add-result c = omega (arith, c.requires.0.horizon.1)

pub overflow_sub-result : goal.overflow_sub-result
unfolding header_view activity_view
overflow_sub-result c = omega (arith, c.requires.1.duration.1)

pub returns : goal.returns
unfolding starts header_view activity_view
returns c =
    (omega arith, omega (arith, c.requires.0.horizon.1, c.requires.1.duration.0))
