-- The loop of `standing_at`: the sets of the rows passed are weighed.
use Rattle.std.proofs.Common.{◌≡◌}
use Rattle.state.specs.Standing.{standing_by}
use Rattle.state.proofs.standing.standing_at.Given as goal

abbrev pub invariant-loop-row : goal.invariant-loop-row
invariant-loop-row l = l.standing ≡ standing_by l.placed.rows l.variable l.tick l.row-index
