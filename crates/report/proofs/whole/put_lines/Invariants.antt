-- The lines of the places passed are written.
use Rattle.std.proofs.Common.{◌≡◌}
use Rattle.rules.specs.Report.{outcome_lines}
use Rattle.plan.specs.View.{plan_view}
use Rattle.report.proofs.whole.put_lines.Given as goal

abbrev pub invariant-loop-place : goal.invariant-loop-place
invariant-loop-place l = l.out ≡ outcome_lines (plan_view l.plan) l.place
