-- `share_units` meets its contract: both have a unit where the flags side by side say so.
use Rattle.std.proofs.Common.{◌∙◌, rules}
use Rattle.load.specs.Loads.{share_units}
use Rattle.load.proofs.Units.{zipped}
use Rattle.load.proofs.sharing.share_units.Goals as goal

pub returns : goal.returns
unfolding share_units
returns c = c.any_both.ensures ∙ zipped _ _ 32 (search rules) (search rules)
