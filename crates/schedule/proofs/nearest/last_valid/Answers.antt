-- `last_valid` meets its contract.
use Rattle.schedule.proofs.Windows.{none_valid, last_nearest}
use Rattle.schedule.proofs.nearest.last_valid.Goals as goal

pub returns-in_err-start : goal.returns-in_err-start
returns-in_err-start c = rw c.from_residual.ensures (none_valid _ _ _ (c.requires.range.0) (c.requires.range.1) c.in_err-start.ensures)

pub returns : goal.returns
returns c = last_nearest _ _ _ (c.requires.range.0) (c.requires.range.1) _ _ c.in_ok-start.ensures c.requires.before
