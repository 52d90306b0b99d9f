-- The loop of `add_placed`: the draws of the rows passed are summed.
use Rattle.std.proofs.Common.{◌≡◌, ℕ, get_or}
use Rattle.charge.specs.Charge.{drawn_in}
use Rattle.charge.proofs.draws.add_placed.Given as goal

abbrev pub invariant-loop-row : goal.invariant-loop-row
invariant-loop-row l = (t : ℕ) → get_or l.draws t 0 ≡ drawn_in l.header l.placed.rows l.row-index t
