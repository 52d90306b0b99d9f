-- `standing_at` meets its contract: the sets of the rows passed are weighed.
use Rattle.std.proofs.Common.{◌≡◌, sym, ◌∙◌, ◌<◌, arith}
use Rattle.placed.specs.Tables.{row_in}
use Rattle.placed.proofs.Rows.{row_taken}
use Rattle.state.proofs.Loops.{stands_none, stands_more}
use Rattle.state.proofs.standing.standing_at.Goals as goal

pub loop-row-init : goal.loop-row-init
loop-row-init c = sym (stands_none _ _ _)

pub loop-row-preserved : goal.loop-row-preserved
loop-row-preserved c =
    let rows = c.args.placed.now.rows in
    let i = c.loop-row.row-index in
    let k : i < c.args.placed.now.count = omega (arith, c.entries-row-items.ensures.size, c.loop-row-test.true) in
    let row : c.row-item.result ≡ row_in rows i = c.row-item.is ∙ row_taken rows _ c.args.placed.now.count i c.row-item.result c.entries-row-items.ensures.value c.entries-row-items.ensures.size k in
    rw (c.later-standing.ensures, c.from.ensures, c.loop-row.invariant, row) (sym (stands_more _ _ _ _))
