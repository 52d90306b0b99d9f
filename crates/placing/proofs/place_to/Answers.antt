-- `place_to` meets its contract.
use Rattle.std.proofs.Common.{refl}
use Rattle.placing.proofs.ByPlace.{placed_none}
use Rattle.placing.proofs.place_to.Goals as goal

pub loop-place-init : goal.loop-place-init
loop-place-init c = placed_none _ _ refl
