-- `mark_charge` meets its contract: the draws of the placed are those of the rows, so each trial is the rows' too.
use Rattle.std.proofs.Common.{refl, ap, ◌∙◌, arith}
use Rattle.rules.proofs.Lists.{zeros}
use Rattle.activity.specs.View.{header_view}
use Rattle.charge.specs.Charge.{kept_by}
use Rattle.charge.proofs.Drawn.{drawing, amounts_fewer}
use Rattle.trial.proofs.mark_charge.Goals as goal

pub add_placed-requires-clause-amounts_bounded : goal.add_placed-requires-clause-amounts_bounded
unfolding header_view
add_placed-requires-clause-amounts_bounded c =
    (amounts_fewer _ _ _ (omega arith) c.requires.n_bound.1, c.requires.header_formed.0.heater)

pub add_placed-requires-clause-draws_len : goal.add_placed-requires-clause-draws_len
add_placed-requires-clause-draws_len c = (refl, zeros 4096)

pub invariant_of-drawn : goal.invariant_of-drawn
invariant_of-drawn c = record { drawing = drawing _ _ c.add_placed.auto.draws c.requires.header_formed.0 }

pub mark_kept-requires-clause-kept : goal.mark_kept-requires-clause-kept
unfolding header_view
mark_kept-requires-clause-kept c =
    (c.requires.header_formed.0.first.1, ap (kept_by c.args.header) (λ i t. c.add_placed.ensures t i) ∙ c.requires.header_formed.1)
