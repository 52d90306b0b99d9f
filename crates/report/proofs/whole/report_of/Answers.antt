-- The lines of the places, then the end line of what they place.
use native.Mathlib.Omega.{arith}
use mathlib.Core.Path.{refl, ◌∙◌, ap}
use native.Mathlib.Nat.{le_refl}
use lib.ListN.{length}
use Rattle.rules.specs.Outcomes.{finished}
use Rattle.rules.specs.Report.{report}
use Rattle.plan.specs.View.{plan_view}
use Rattle.plan.proofs.Places.{placeable}
use Rattle.placed.proofs.Bounding.{amounts_bounded_lem}
use Rattle.report.proofs.LineByLine.{rows_say, lines_short}
use Rattle.report.proofs.whole.report_of.Goals as goal

pub put_finished-requires : goal.put_finished-requires
put_finished-requires c =
    let S = c.place_to.ensures in
    let few = (placeable c.args.plan.now).few in
    let R = rows_say S in (
      record {
        amounts_bounded = amounts_bounded_lem _ _ _ _ S.held S.reached;
        placed = _;
        say = R;
      },
      omega (arith, S.few, c.count.ensures.value, c.count-2.ensures.value),
      c.count-2.ensures.within,
      omega (arith, few, ap length c.put_lines.ensures, lines_short (plan_view c.args.plan.now) (placeable c.args.plan.now) _ (le_refl _)),
    )

pub returns : goal.returns
unfolding report finished plan_view
returns c = c.put_finished.ensures _ (rows_say c.place_to.ensures) ∙ rw (c.put_lines.ensures, c.count-2.ensures.value, c.count.ensures.value) refl
