-- `volume_of` meets its contract: 64 volumes of 32 bits are within its bound.
use Rattle.std.proofs.Common.{rules, arith, ◌≡◌, ◌≤◌}
use Rattle.std.specs.List.{All, sum_by}
use Rattle.std.proofs.lemmas.Grind.{common_steps}
use Rattle.std.proofs.lemmas.List.Sums.{sum_by-le}
use Rattle.placed.specs.declared.row.Row.{Row}
use Rattle.placed.proofs.table.volume_of.Goals as goal

pub returns-clause-bound : goal.returns-clause-bound
returns-clause-bound c =
    let each : All (λ (row : Row). row.volume ≤ 4294967295) c.args.rows.now = λ i d k. search (rules, c.well_formed) in
    let value : c.sum.result ≡ sum_by (λ (row : Row). row.volume) c.args.rows.now = grind (arith, common_steps) in
    omega (arith, c.requires, value, sum_by-le (λ (row : Row). row.volume) 4294967295 c.args.rows.now each)
