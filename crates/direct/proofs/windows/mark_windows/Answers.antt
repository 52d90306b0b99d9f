-- `mark_windows` meets its contract.
use Rattle.std.proofs.Common.{rules, map}
use Rattle.rules.specs.MeetsW.{allowed}
use Rattle.activity.specs.View.{window_of}
use Rattle.direct.proofs.windows.mark_windows.Goals as goal

pub returns : goal.returns
returns c = c.mark_where.ensures (allowed (map window_of c.args.windows.now)) (λ s met k q. search rules)
