-- `mark_peaks` meets its contract.
use Rattle.std.proofs.Common.{◌≡◌, ◌∙◌, ap, rules}
use Rattle.placed.specs.declared.row.Row.{Row}
use Rattle.placed.specs.Tables.{peak_at}
use Rattle.load.proofs.mark_peaks.Goals as goal

pub returns : goal.returns
returns c =
    rw c.candidate.ensures at
    (c.mark_load.ensures (peak_at c.args.placed.now.rows) (λ i row w k e q. let own : w ≡ row.now.peak = search rules in own ∙ ap (λ (x : Row). x.peak) e))
