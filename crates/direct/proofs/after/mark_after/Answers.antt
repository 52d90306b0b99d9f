-- `mark_after` meets its contract.
use Rattle.std.proofs.Common.{rules, ◌≡◌, ◌∙◌, arith, map, length, leb}
use Rattle.activity.specs.View.{number_of}
use Rattle.direct.specs.Ended.{ready_from}
use Rattle.direct.proofs.Ended.{leb_never}
use Rattle.direct.proofs.after.mark_after.Goals as goal

pub returns-in-Some : goal.returns-in-Some
returns-in-Some c =
    c.mark_where.ensures (leb (ready_from c.args.entries.now (length c.args.entries.now) (map number_of c.args.after.now) (length c.args.after.now)))
    (λ s met k q. let own : met ≡ leb c.in-Some.ready s = search rules in
    own ∙ leb_never _ _ s c.in-Some.ensures (omega (arith, c.requires.few)))
