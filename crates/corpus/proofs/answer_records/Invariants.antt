-- The loop of `answer_records` ends: each record leaves less, so there are no more of them than bytes.
use Rattle.std.proofs.Common.{◌+◌, ◌≤◌, length}
use Rattle.corpus.proofs.answer_records.Given as goal

abbrev pub invariant-loop-records : goal.invariant-loop-records
invariant-loop-records g l = l.number + length l.records ≤ length l.s

abbrev pub decreases-loop-records : goal.decreases-loop-records
decreases-loop-records g l = length l.records
