-- The loop of `write_runs`: the runs that it has been given are written.
use Rattle.std.proofs.Common.{◌≡◌, map, length, take, drop}
use Rattle.rules.specs.Runs.{runs_from}
use Rattle.rules.specs.Calls.{slice_after}
use Rattle.schedule.specs.Search.{meets_in}
use Rattle.schedule.proofs.runs.write_runs.Given as goal

abbrev pub invariant-loop-i : goal.invariant-loop-i
invariant-loop-i l =
    let all = runs_from (meets_in l.fn.table.sets.now l.set) 0 (length l.fn.table.sets.now) in
    let next = l.i-iterator in
    (drop next.count all ≡ next.iter)
    × (l.firsts ≡ slice_after (map (λ r. r.first) (take next.count all)) l.initial.firsts)
    × (l.lasts ≡ slice_after (map (λ r. r.last) (take next.count all)) l.initial.lasts)
