-- `mark_warmup` meets its contract.
use Rattle.std.proofs.Common.{rules, leb}
use Rattle.rules.specs.Warmup.{warmup_at}
use Rattle.direct.proofs.warmup.mark_warmup.Goals as goal

pub returns : goal.returns
returns c = c.mark_where.ensures (λ s. leb (warmup_at c.args.minute s c.args.warm) s) (λ s met k q. search rules)
