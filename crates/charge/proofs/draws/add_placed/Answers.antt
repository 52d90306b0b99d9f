-- `add_placed` meets its contract: the draws of the rows passed are summed.
use Rattle.std.proofs.Common.{rules, ◌≡◌, ◌∙◌, ap, arith}
use Rattle.placed.specs.Tables.{row_in}
use Rattle.placed.proofs.Rows.{row_taken}
use Rattle.charge.specs.Charge.{OwnDraw, own_view, row_draw, draw_of}
use Rattle.charge.proofs.Drawn.{drawn_step, drawn_few}
use Rattle.charge.proofs.draws.add_placed.Goals as goal
use Rattle.charge.proofs.draws.add_placed.Goals.{After-row_draw}

-- what is drawn by the row passed
own : (c : After-row_draw) → own_view c.row_draw.result ≡ row_draw c.args.header (row_in c.args.placed.now.rows c.loop-row.row-index)
own c =
    c.row_draw.ensures
    ∙ ap (row_draw c.args.header) (c.row-item.is ∙ row_taken c.args.placed.now.rows _ c.args.placed.now.count c.loop-row.row-index c.row-item.result (search rules) (search rules) (omega arith))

pub add_draw-requires-clause-small_draws : goal.add_draw-requires-clause-small_draws
add_draw-requires-clause-small_draws c =
    let s = c.args in
    let p = c.requires.amounts_bounded in
    let e = own c in
    λ t. omega (arith, ap (λ (o : OwnDraw). o.draw) e, ap (λ (o : OwnDraw). o.heater) e, c.loop-row.invariant t, drawn_few s.header s.placed.now.rows _ c.loop-row.row-index p.0 p.1 (omega arith) t, s.placed.now.ticks.few, p.0.draw c.loop-row.row-index (omega arith))

pub loop-row-preserved : goal.loop-row-preserved
loop-row-preserved c =
    let e = own (goal.at.loop-row-preserved c).After-row_draw in
    λ t. omega (arith, ap (λ (o : OwnDraw). draw_of o t) e, c.add_draw.ensures t, c.loop-row.invariant t, drawn_step c.args.header c.args.placed.now.rows c.loop-row.row-index t)
