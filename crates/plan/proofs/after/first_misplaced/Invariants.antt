-- The loop of `after::first_misplaced`: the places before this one are tried.
use Rattle.activity.specs.View.{header_view}
use Rattle.plan.proofs.Misplaced.{Tried}
use Rattle.plan.proofs.after.first_misplaced.Given as goal

abbrev pub invariant-loop-place : goal.invariant-loop-place
invariant-loop-place l = Tried (header_view l.file.header) l.file.bytes.now l.lines l.place
