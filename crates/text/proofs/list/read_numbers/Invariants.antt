-- The loop of `list::read_numbers`: the numbers that are left, behind those read, are the whole.
use Rattle.std.proofs.Common.{◌≡◌, ◌-◌, length, take}
use Rattle.text.specs.Text.{numbers_of}
use Rattle.text.proofs.Numbers.{numbers_from}
use Rattle.text.proofs.list.read_numbers.Given as goal

abbrev pub invariant-loop-number : goal.invariant-loop-number
invariant-loop-number g l =
    (length l.number-items ≡ g.row.K)
    × (numbers_of g.row.K l.mark l.s ≡ numbers_from (g.row.K - l.number-index) (take l.number-index l.number-items) l.parts)
