-- `charge_projection` meets its contract: the draws are those of the rows.
use Rattle.std.proofs.Common.{refl, ap, ◌∙◌}
use Rattle.rules.specs.MeetsB.{projected}
use Rattle.rules.proofs.Lists.{zeros}
use Rattle.activity.specs.View.{header_view}
use Rattle.charge.specs.Charge.{charge_by}
use Rattle.charge.proofs.Drawn.{drawing}
use Rattle.charge.proofs.charge_projection.Goals as goal

pub add_placed-requires-clause-amounts_bounded : goal.add_placed-requires-clause-amounts_bounded
unfolding header_view
add_placed-requires-clause-amounts_bounded c = (c.requires.amounts_bounded, c.requires.header_formed.heater)

pub add_placed-requires-clause-draws_len : goal.add_placed-requires-clause-draws_len
add_placed-requires-clause-draws_len c = (refl, zeros 4096)

pub invariant_of-drawn : goal.invariant_of-drawn
invariant_of-drawn c = record { drawing = drawing _ _ c.add_placed.auto.draws c.requires.header_formed }

pub returns : goal.returns
returns c =
    c.project.ensures.value ∙ ap (λ draw. projected (charge_by c.args.header draw) c.args.header.horizon) (λ i t. c.add_placed.ensures t i)
