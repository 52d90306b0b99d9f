-- `judge` meets its contract.
use Rattle.std.proofs.Common.{ap, ◌∙◌, rules, ◌≡◌, get_or}
use Rattle.placed.specs.declared.row.Row.{Row}
use Rattle.placed.specs.Tables.{no_need}
use Rattle.state.specs.Own.{code_of_need}
use Rattle.state.specs.Spoils.{spoils_from}
use Rattle.state.proofs.judged.judge.Goals as goal

pub returns : goal.returns
returns c p e =
    let rows = c.args.placed.now.rows in
    let n = c.args.placed.now.count in
    record {
      ends = ap (λ (row : Row). row.end) e;
      codes =
          λ j k.
          let own : get_or c.map.result j 0 ≡ code_of_need rows n (get_or c.candidate.result.now.needs j no_need) c.args.row.now.end = search (rules, c.map.ensures) in
          own ∙ (λ i. code_of_need rows n (get_or (c.candidate.ensures i).needs j no_need) (e i).end);
      spoils =
          λ j k.
          let own : get_or c.map-2.result j 0 ≡ spoils_from rows n (get_or c.args.row.now.needs j no_need) c.args.row.now.start = search (rules, c.map-2.ensures) in
          own ∙ (λ i. spoils_from rows n (get_or (e i).needs j no_need) (e i).start);
    }
