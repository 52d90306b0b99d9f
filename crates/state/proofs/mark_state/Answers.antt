-- `mark_state` meets its contract: what is judged of each entry is right and the entries left out do not matter, so each start's test is that of all needs.
use Rattle.std.proofs.Common.{rules, ◌≡◌, ◌+◌, ◌∙◌, take, arith}
use Rattle.state.specs.Judging.{end_in}
use Rattle.state.specs.State.{needs_met, state_met}
use Rattle.state.proofs.Entries.{needs_all}
use Rattle.state.proofs.mark_state.Goals as goal

pub returns : goal.returns
returns c =
    let rows = c.args.placed.now.rows in
    let n = c.args.placed.now.count in
    let entries = take n c.judge_all.new.judged in
    let r = c.rows_spoilt.result in
    c.mark_where.ensures (state_met rows n c.args.duration)
    (λ s met k h.
    let own : met ≡ needs_met rows n (take r entries) c.args.duration s = search rules in
    own ∙ needs_all rows n entries r c.args.duration s c.judge_all.ensures c.rows_spoilt.ensures.within (c.rows_spoilt.ensures.same (end_in entries) (s + c.args.duration) (omega (arith, c.requires.duration_bound.0, k))))
