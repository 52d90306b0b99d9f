-- `rows_spoilt` meets its contract: no need of the entries behind the last is ever spoilt.
use Rattle.std.proofs.Common.{rules, ◌≡◌, ℕ, ◌<◌, ◌≤◌, length, false}
use Rattle.state.specs.Judging.{judged_in, can_be_spoilt}
use Rattle.state.proofs.Entries.{rows_past}
use Rattle.state.proofs.spoils.rows_spoilt.Goals as goal

pub returns-clause-same : goal.returns-clause-same
returns-clause-same c ends =
    let entries = c.args.entries.now in
    let within : c.map_or.result ≤ length entries = search rules in
    let past : (p : ℕ) → c.map_or.result ≤ p → p < length entries → can_be_spoilt (judged_in entries p) ≡ false = search rules in
    rows_past entries ends c.map_or.result within past
