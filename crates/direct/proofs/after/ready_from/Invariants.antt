-- The loop of `ready_from`: the definition at the ids passed, as far as it is no later than any end.
use Rattle.std.proofs.Common.{◌≡◌, min, map, length}
use Rattle.activity.specs.View.{number_of}
use Rattle.placed.specs.Bounds.{never}
use Rattle.direct.specs.Ended.{ready_from}
use Rattle.direct.proofs.after.ready_from.Given as goal

abbrev pub invariant-loop-id : goal.invariant-loop-id
invariant-loop-id l = min l.ready never ≡ min (ready_from l.entries (length l.entries) (map number_of l.after) l.id-index) never
