-- `mark_engines` meets its contract.
use Rattle.std.proofs.Common.{◌≡◌, ◌∙◌, rules}
use Rattle.placed.specs.Tables.{engines_at}
use Rattle.load.proofs.Loading.{engine_amounts}
use Rattle.load.proofs.mark_engines.Goals as goal

pub returns : goal.returns
returns c =
    rw c.candidate.ensures at
    (c.mark_load.ensures (engines_at c.args.placed.now.rows) (λ i row w k e q. let own : w ≡ row.now.engines = search rules in own ∙ engine_amounts c.args.placed.now.rows i row.now e))
