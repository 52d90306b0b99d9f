-- The fields stand one behind another.
use Rattle.std.proofs.Common.{rules, ◌≡◌, ◌∙◌, ap, nat_abs}
use mir.Syntax.{w64}
use mir.Val.{SFits}
use mir.Facts.{to_z-of_z}
use Rattle.report.proofs.LineByLine.{end_joined}
use Rattle.report.proofs.lines.put_end.Goals as goal

pub returns : goal.returns
returns g c =
    let p = c.args.projection in
    let last_fits : SFits w64 p.last = search rules in
    let lowest_fits : SFits w64 p.lowest = search rules in
    let last : c.unsigned_abs.result ≡ nat_abs p.last = c.unsigned_abs.ensures.value ∙ ap nat_abs (to_z-of_z last_fits) in
    let lowest : c.unsigned_abs-2.result ≡ nat_abs p.lowest = c.unsigned_abs-2.ensures.value ∙ ap nat_abs (to_z-of_z lowest_fits) in
    rw (c.push-2.ensures, c.put_two-3.ensures, c.put_two-2.ensures, c.put_two.ensures, c.push.ensures, last, lowest) (end_joined c.args.out.now c.args.placed c.args.refused c.args.volume p)
