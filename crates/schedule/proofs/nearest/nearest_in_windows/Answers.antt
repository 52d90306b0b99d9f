-- `nearest_in_windows` meets its contract.
use Rattle.std.proofs.Common.{◌≡◌, arith, ap, [], map, drop}
use Rattle.std.proofs.Math.ListN.{drop_of_length-le}
use Rattle.rules.proofs.Distance.{distance_right}
use Rattle.activity.specs.View.{window_of, activity_view}
use Rattle.schedule.proofs.Windows.{before_none, before_rest, next_window}
use Rattle.schedule.proofs.nearest.nearest_in_windows.Goals as goal

pub loop-window-init : goal.loop-window-init
unfolding activity_view
loop-window-init c =
    rw c.as_slice-window-items.ensures.value (0, record { near = λ s _ k. absurd (omega arith); held = λ s _ _ e. c.requires.held s e; right = (distance_right _ c.requires.formed).window; rises = c.requires.formed.rises })

pub loop-window-preserved : goal.loop-window-preserved
loop-window-preserved c =
    let next = next_window _ c.loop-window.window-index c.loop-window-test.true in
    let before = rw next at c.loop-window.invariant.1 in
    rw c.nearer-best.ensures (_, before_rest _ _ _ _ _ _ _ before _ (rw (c.min-from.ensures, c.min-to.ensures) at c.nearest_between.ensures))

pub nearest_between-requires : goal.nearest_between-requires
nearest_between-requires c =
    let next = next_window _ c.loop-window.window-index c.loop-window-test.true in
    let rises = (rw next at c.loop-window.invariant.1).rises in
    (omega (arith, rises.1), omega arith, omega arith)

pub returns : goal.returns
returns c =
    let none : map window_of (drop c.loop-window.window-index c.as_slice-window-items.result.now) ≡ [] = ap (map window_of) (drop_of_length-le _ {i = c.loop-window.window-index} (omega arith)) in
    before_none _ _ _ _ _ (rw none at c.loop-window.invariant.1)
