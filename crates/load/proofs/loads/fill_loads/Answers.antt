-- `fill_loads` meets its contract: the load of the rows passed, at most a million for each.
use Rattle.std.proofs.Common.{rules, length, ◌≡◌, ◌∙◌, ◌<◌, ◌≤◌, ap, arith}
use Rattle.placed.specs.declared.row.Row.{Row}
use Rattle.placed.specs.Tables.{row_in}
use Rattle.placed.proofs.Rows.{row_taken}
use Rattle.placed.proofs.Raising.{raised_most}
use Rattle.load.proofs.Loading.{loaded_none, loaded_more}
use Rattle.load.proofs.loads.fill_loads.Goals as goal

pub loop-row-init : goal.loop-row-init
loop-row-init g c =
    let size : length c.args.loads.now ≡ 4096 = search rules in
    let zeros = c.requires.zeros in
    record { size = size; most = λ t. omega (arith, zeros t); sums = λ weights h. loaded_none _ weights _ size zeros }

pub loop-row-preserved : goal.loop-row-preserved
loop-row-preserved g c =
    let rows = c.args.placed.now.rows in
    let i = c.loop-row.row-index in
    let k : i < c.args.placed.now.count = omega arith in
    let row : c.row-item.result ≡ row_in rows i = c.row-item.is ∙ row_taken rows _ c.args.placed.now.count i c.row-item.result (search rules) (search rules) k in
    let light : c.weigh-weight.result ≤ 1000000 = c.requires.weighs i _ c.weigh-weight.result k row c.weigh-weight.ensures in
    record {
      size = c.raise_ticks.ensures.size ∙ c.loop-row.invariant.size;
      most = λ t. omega (arith, raised_most _ _ _ _ _ c.raise_ticks.ensures t, c.loop-row.invariant.most t, light);
      sums =
          λ weights h. loaded_more rows weights i _ _ _ _ _ (c.loop-row.invariant.sums weights h)
          (c.from.ensures ∙ ap (λ (x : Row). x.start) row)
          (c.from-in-loop-row.ensures ∙ ap (λ (x : Row). x.end) row)
          (h i _ c.weigh-weight.result k row c.weigh-weight.ensures)
          c.raise_ticks.ensures;
    }
