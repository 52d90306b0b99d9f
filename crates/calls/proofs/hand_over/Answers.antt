-- A text that does not fit, and one that does.
use Rattle.std.proofs.Common.{ap, ◌++◌, List, ℕ, drop, length}
use Rattle.rules.specs.Calls.{slice_after}
use Rattle.calls.proofs.Running.{too_long, slice_kept, handed}
use Rattle.calls.proofs.hand_over.Goals as goal

pub returns-then-out-length : goal.returns-then-out-length
returns-then-out-length c = rw c.into.ensures (slice_kept _ _ (too_long _ _ c.if-out-length.true) c.args.out.now)

pub returns : goal.returns
unfolding slice_after
returns c =
    let text = c.args.text.now in
    let lent = c.args.out.now in
    handed text lent _ c.if-out-length.false (ap (λ (w : List ℕ). w ++ drop (length text) lent) c.copy_from_slice.ensures.after)
