-- The loop of `judge_all`: what is judged of the entries passed is written.
use Rattle.std.proofs.Common.{◌≡◌, ℕ, ◌<◌, length}
use Rattle.state.specs.Judging.{JudgedAt, judged_in}
use Rattle.state.proofs.judged.judge_all.Given as goal

abbrev pub invariant-loop-p : goal.invariant-loop-p
invariant-loop-p l = (length l.judged ≡ 64) × ((i : ℕ) → i < l.p → JudgedAt l.placed.rows l.placed.count i (judged_in l.judged i))
