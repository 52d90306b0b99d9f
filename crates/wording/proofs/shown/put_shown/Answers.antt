-- One byte more is shown.
use Rattle.std.proofs.Common.{sym, ◌∙◌, ap}
use Rattle.wording.specs.Shown.{shown}
use Rattle.wording.specs.Writing.{written, with_more}
use Rattle.wording.proofs.Escapes.{shown_next}
use Rattle.wording.proofs.Pieces.{more_none, more_then}
use Rattle.wording.proofs.shown.put_shown.Goals as goal

pub loop-b-init : goal.loop-b-init
unfolding shown
loop-b-init c = sym (more_none (written c.args.out.now))

pub loop-b-preserved : goal.loop-b-preserved
loop-b-preserved c =
    c.put_shown_byte.ensures ∙ rw c.loop-b.invariant (more_then (written c.args.out.now) _ _) ∙ ap (with_more (written c.args.out.now)) (sym (shown_next c.args.s.now c.loop-b.b-index c.loop-b-test.true))
