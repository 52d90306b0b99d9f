-- `mark_kept` meets its contract: the starts below s are marked.
use Rattle.std.proofs.Common.{◌∙◌, arith}
use Rattle.sets.proofs.Marking.{marked_more}
use Rattle.charge.specs.Charge.{kept_by}
use Rattle.trial.proofs.Added.{own_kept}
use Rattle.trial.proofs.mark_kept.Goals as goal

pub spare_charge-requires : goal.spare_charge-requires
unfolding kept_by
spare_charge-requires c = rw c.project-projection.ensures.value c.requires.kept.1

pub loop-s-preserved : goal.loop-s-preserved
loop-s-preserved c =
    marked_more _ _ _ _ _ _ _ (omega (arith, c.requires.markable.long)) c.loop-s.invariant c.raise.ensures
    (c.keeps_charge.ensures ∙ own_kept _ _ _ _ _ _ c.own_draw-own.ensures _)
