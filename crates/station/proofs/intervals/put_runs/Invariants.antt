-- The records before this one are put together, those behind it as they were.
use Rattle.std.proofs.Common.{◌≡◌, ◌≤◌, ◌++◌, length, take, drop}
use Rattle.station.specs.Columns.{pairs}
use Rattle.station.proofs.intervals.put_runs.Given as goal

abbrev pub invariant-loop-i : goal.invariant-loop-i
invariant-loop-i l =
    let at = l.i-iterator in
    (at.count ≤ length l.out)
    × (take at.count l.out ++ pairs at.iter.a.rest.now at.iter.b.rest.now ≡ pairs l.firsts l.lasts)
    × (drop at.count l.out ≡ drop at.count l.initial.out)
