-- The counts, the charge and the volume are those of the schedule that the rows say.
use mathlib.Core.Path.{◌≡◌, sym, ◌∙◌, ap}
use mathlib.Core.List.{List, ◌++◌}
use native.Mathlib.Omega.{arith}
use borrow.Author.Tests.{leb-true}
use Prim.Native.Nat.{ℕ, ◌-◌}
use Rattle.rules.specs.Plan.{Schedule}
use Rattle.rules.specs.MeetsB.{projection}
use Rattle.rules.specs.MeetsV.{volume_kept}
use Rattle.rules.specs.Report.{end_line}
use Rattle.activity.specs.View.{header_view}
use Rattle.placed.proofs.Rows.{rows_count, rows_map, volumes_are}
use Rattle.charge.proofs.Charged.{projection_is}
use Rattle.report.specs.Lines.{end_text}
use Rattle.report.specs.Finished.{RowsSay}
use Rattle.rules.proofs.Projecting.{kept_when}
use Rattle.rules.proofs.ReportSize.{projection_small}
use Rattle.report.proofs.LineByLine.{end_text_is, end_short}
use Rattle.report.proofs.whole.put_finished.Goals as goal
use Rattle.report.proofs.whole.put_finished.Goals.{After-total_volume-volume}

pub charge_projection-projection-requires-clause-header_formed : goal.charge_projection-projection-requires-clause-header_formed
charge_projection-projection-requires-clause-header_formed c = c.requires.0.say.reached.header

-- what is written is the end line
written : (c : After-total_volume-volume) (placed : Schedule) → RowsSay c.args.header c.args.placed.now.rows c.args.placed.now.count placed → end_text c.args.placed.now.count (c.args.count - c.args.placed.now.count) c.charge_projection-projection.result c.total_volume-volume.result ≡ end_line c.args.count placed (projection (header_view c.args.header) placed)
unfolding header_view
written c placed R =
    end_text_is (header_view c.args.header) c.args.count c.args.placed.now.count _ _ placed (sym (rows_count _ _ placed R.said))
    (c.charge_projection-projection.ensures ∙ projection_is _ _ _ placed R.said)
    (c.total_volume-volume.ensures.0 ∙ volumes_are _ _ placed (rows_map _ _ _ placed (λ i e k m r. r.1) R.said))

pub returns : goal.returns
returns c = λ placed R. c.put_end.ensures ∙ ap (λ (w : List ℕ). c.args.out.now ++ w) (written (goal.at.returns c).After-total_volume-volume placed R)

pub put_end-requires : goal.put_end-requires
unfolding header_view volume_kept
put_end-requires c =
    let F = c.requires.0 in
    let R = F.say.reached in
    let h = header_view c.args.header in
    let projected = c.charge_projection-projection.ensures ∙ projection_is _ _ _ F.placed F.say.said in
    let volume = c.total_volume-volume.ensures.0 ∙ volumes_are _ _ F.placed (rows_map _ _ _ F.placed (λ i e k m r. r.1) F.say.said) in
    let kept = leb-true _ _ R.kept.volume in
    let small = projection_small h R.header F.placed ((kept_when h F.placed).0 R.kept.charge) in
    let short = end_short c.args.placed.now.count (c.args.count - c.args.placed.now.count) c.total_volume-volume.result c.charge_projection-projection.result (omega (arith, c.requires.1, c.requires.2)) (omega (arith, c.requires.2)) (omega (arith, volume, kept, R.header.volume)) (rw projected small) in
    (omega arith, omega (arith, short, c.requires.3))
