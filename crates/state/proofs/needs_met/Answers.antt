-- `needs_met` meets its contract.
use Rattle.std.proofs.Common.{◌≡◌, ◌+◌, sym, ◌∙◌}
use Rattle.state.specs.Own.{own_met}
use Rattle.state.specs.State.{needs_met}
use Rattle.state.proofs.needs_met.Goals as goal

pub returns-then-own_needs_met : goal.returns-then-own_needs_met
unfolding needs_met
returns-then-own_needs_met c =
    let a = c.args in
    let own : c.own_needs_met.result ≡ own_met a.placed.now.rows a.placed.now.count a.start (a.start + a.duration) = c.own_needs_met.ensures in
    rw (sym own ∙ c.if-own_needs_met.true) c.placed_needs_met.ensures

pub returns-else-own_needs_met : goal.returns-else-own_needs_met
unfolding needs_met
returns-else-own_needs_met c =
    let a = c.args in
    let own : c.own_needs_met.result ≡ own_met a.placed.now.rows a.placed.now.count a.start (a.start + a.duration) = c.own_needs_met.ensures in
    c.if-own_needs_met.false ∙ rw (sym own ∙ c.if-own_needs_met.false)
