-- `nearest_of` meets its contract.
use Rattle.schedule.proofs.Windows.{found_none, found_some}
use Rattle.schedule.proofs.nearest.nearest_of.Goals as goal

pub returns-in_err-nearest_start : goal.returns-in_err-nearest_start
returns-in_err-nearest_start c = rw c.from_residual.ensures (found_none _ _ _ c.in_err-nearest_start.ensures)

pub returns : goal.returns
returns c = found_some _ _ _ _ c.in_ok-nearest_start.ensures
