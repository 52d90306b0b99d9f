-- `run_back` meets its contract: nothing is drawn beside the placed.
use Rattle.trial.proofs.Running.{ran_same}
use Rattle.trial.proofs.Added.{draws_alone}
use Rattle.trial.proofs.run.run_back.Goals as goal

pub returns-clause-ran_to : goal.returns-clause-ran_to
returns-clause-ran_to c =
    let e = c.run_until.ensures.ran_to in
    (e.0, ran_same _ _ _ _ _ _ _ (λ t _ _. draws_alone _ t) e.1)
