-- The loop of `write_column`: of the runs that it has been given a number each is written.
use Rattle.std.proofs.Common.{◌≡◌, ℕ, map, length, take, drop}
use Rattle.rules.specs.Runs.{runs_from}
use Rattle.rules.specs.Calls.{slice_after}
use Rattle.rules.specs.declared.Interval.{Interval}
use Rattle.schedule.specs.Search.{meets_in, Takes}
use Rattle.schedule.proofs.runs.write_column.Given as goal

abbrev pub invariant-loop-i : goal.invariant-loop-i
invariant-loop-i g l =
    let all = runs_from (meets_in l.fn.table.sets.now l.set) 0 (length l.fn.table.sets.now) in
    let next = l.i-iterator in
    (drop next.count all ≡ next.iter)
    × (length l.out ≡ length l.initial.out)
    × ((taken : Interval → ℕ) → Takes (goal.C-post g l.column) taken → l.out ≡ slice_after (map taken (take next.count all)) l.initial.out)
