-- `parts::Parts::next` meets its contract.
use Rattle.std.proofs.Common.{arith, rules}
use Rattle.text.proofs.Splits.{next_part, split_last}
use Rattle.text.proofs.parts.PartsIterator.next.Goals as goal

pub returns-then-end-rest-clause-steps : goal.returns-then-end-rest-clause-steps
returns-then-end-rest-clause-steps c = rw (← c.self.view_is, c.in_ok-rest.was) (split_last c.self.inside.by c.in_ok-rest.rest.now (omega arith))

pub returns-then-end-rest-clause-goes : goal.returns-then-end-rest-clause-goes
returns-then-end-rest-clause-goes c = rw (← c.self.view_is, c.in_ok-rest.was, split_last c.self.inside.by c.in_ok-rest.rest.now (omega arith)) (search rules)

pub returns-clause-steps : goal.returns-clause-steps
returns-clause-steps c = rw (← c.self.view_is, c.in_ok-rest.was) (next_part c.self.inside.by c.in_ok-rest.rest.now c.find-end.result c.find-end.ensures.value (omega arith))

pub returns-clause-goes : goal.returns-clause-goes
returns-clause-goes c = rw (← c.self.view_is, c.in_ok-rest.was, next_part c.self.inside.by c.in_ok-rest.rest.now c.find-end.result c.find-end.ensures.value (omega arith)) (search rules)
