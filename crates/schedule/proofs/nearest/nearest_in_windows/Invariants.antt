-- The loop of `nearest_in_windows`: the best so far is that before the windows to come.
use Rattle.std.proofs.Common.{ℕ, length, drop, map}
use Rattle.rules.specs.Outcomes.{distance}
use Rattle.activity.specs.View.{window_of, activity_view}
use Rattle.schedule.specs.Found.{is_valid}
use Rattle.schedule.proofs.Windows.{Before}
use Rattle.schedule.proofs.nearest.nearest_in_windows.Given as goal

abbrev pub invariant-loop-window : goal.invariant-loop-window
invariant-loop-window l =
    (least : ℕ) × Before (is_valid l.table.sets.now) (distance (activity_view l.candidate)) (length l.table.sets.now) least (map window_of (drop l.window-index l.window-items)) l.best
