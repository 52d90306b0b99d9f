-- `mark_load` meets its contract.
use Rattle.rules.proofs.Lists.{zeros}
use Rattle.sets.proofs.Marking.{same_marked}
use Rattle.load.proofs.Loading.{clear_same}
use Rattle.load.proofs.mark_load.Goals as goal

pub fill_loads-requires-clause-zeros : goal.fill_loads-requires-clause-zeros
fill_loads-requires-clause-zeros g c = λ t. zeros 4096 t

pub returns : goal.returns
returns g c =
    λ weights h. same_marked _ _ _ _ _ _ (λ s k. clear_same _ _ _ _ _ s (c.fill_loads.ensures weights h).sum) c.mark_clear.ensures
