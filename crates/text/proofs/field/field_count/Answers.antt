-- `field::field_count` meets its contract.
use Rattle.std.proofs.Common.{rules}
use Rattle.std.proofs.lemmas.Iterator.Consumers.{count_from_yields_List}
use Rattle.text.proofs.Splits.{yields_parts}
use Rattle.text.proofs.field.field_count.Goals as goal

pub returns : goal.returns
returns c =
    count_from_yields_List _ _ c.count.ensures.ran (yields_parts _ 9 c.args.s.now c.split.ensures.rest c.split.ensures.done c.split.ensures.closure (λ x b q k. search rules))
