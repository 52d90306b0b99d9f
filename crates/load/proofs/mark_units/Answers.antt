-- `mark_units` meets its contract.
use Rattle.std.proofs.Common.{◌≡◌, ◌∙◌, ap₂, cond, rules}
use Rattle.placed.specs.declared.row.Row.{Row}
use Rattle.load.specs.Loads.{share_units, sharing}
use Rattle.load.proofs.mark_units.Goals as goal

pub returns : goal.returns
unfolding sharing
returns c =
    c.mark_load.ensures (sharing c.args.placed.now.rows c.args.placed.now.count)
    (λ i row w k e q. let weight : w ≡ cond (share_units row.now c.candidate-candidate.result.now) 1 0 = search rules in
    weight ∙ ap₂ (λ (x y : Row). cond (share_units x y) 1 0) e c.candidate-candidate.ensures)
