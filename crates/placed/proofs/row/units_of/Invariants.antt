-- The loop of `units_of`: the flags before this one are written.
use Rattle.std.proofs.Common.{◌≡◌, ℕ, ◌<◌, false, eqb, get_or, length}
use Rattle.std.specs.List.{list_any}
use Rattle.placed.proofs.row.units_of.Given as goal

abbrev pub invariant-loop-unit : goal.invariant-loop-unit
invariant-loop-unit l = (length l.flag-items ≡ 32) × ((u : ℕ) → u < l.unit → get_or l.flag-items u false ≡ list_any (λ item. eqb u item.first) l.units)
