-- The loop of `file::read_lines`: the lines read and the bytes that are left give the answer.
use Rattle.std.proofs.Common.{◌≡◌, ◌-◌, ◌≤◌, [], length}
use Rattle.activity.specs.View.{header_view}
use Rattle.plan.specs.Said.{LinesIn}
use Rattle.plan.specs.Reached.{lines_from}
use Rattle.plan.proofs.file.read_lines.Given as goal

abbrev pub invariant-loop-at : goal.invariant-loop-at
invariant-loop-at l =
    record {
      inside : l.at ≤ length l.file.bytes.now;
      said : LinesIn (header_view l.file.header) l.file.bytes.now l.lines;
      value : lines_from (header_view l.file.header) l.file.bytes.now [] l.from ≡ lines_from (header_view l.file.header) l.file.bytes.now l.lines l.at;
    }

abbrev pub decreases-loop-at : goal.decreases-loop-at
decreases-loop-at l = length l.file.bytes.now - l.at
