-- `mark_volume` meets its contract: the sum decides every start at once.
use Rattle.std.proofs.Common.{rules, ◌≡◌, ◌+◌, ℕ, leb, ap₂, ◌∙◌, length}
use Rattle.placed.specs.Tables.{volumes_in}
use Rattle.direct.proofs.volume.mark_volume.Goals as goal

pub returns : goal.returns
returns c =
    let sum = ap₂ (λ (x y : ℕ). x + y) c.from.ensures c.total_volume.ensures.0 in
    c.mark_where.ensures
    (λ _. leb (c.args.candidate.now.volume + volumes_in c.args.entries.now (length c.args.entries.now)) c.args.limit)
    (λ s met k q. let own : met ≡ leb (c.from.result + c.total_volume.result) c.from-2.result = search rules in
    own ∙ ap₂ leb sum c.from-2.ensures)
