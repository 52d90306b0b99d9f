-- `can_be_spoilt` meets its contract: the tests of the four numbers.
use Rattle.std.proofs.Common.{rules, tests, ◌∙◌, ltb}
use Rattle.std.proofs.lemmas.Iterator.{YieldsList-from_slice}
use Rattle.std.proofs.lemmas.Iterator.Search.{any_from_yields_List}
use Rattle.placed.specs.Bounds.{never}
use Rattle.state.proofs.Entries.{any_number}
use Rattle.state.proofs.spoils.can_be_spoilt.Goals as goal

pub returns : goal.returns
returns c =
    any_from_yields_List (λ from. ltb from never) _ _ c.any.result c.any.ensures.ran (YieldsList-from_slice c.args.entry.now.spoils (cc)) (λ x b q k. search (rules, tests))
    ∙ any_number (λ from. ltb from never) _ 4 (search rules)
