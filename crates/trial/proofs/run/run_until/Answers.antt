-- `run_until` meets its contract: the charges are run on to t, and c is the one there.
use Rattle.std.proofs.Common.{rules, ◌<◌, ◌^◌, ◌≡◌, ◌∙◌, true, pos, ◌+◌, to_z, w64, arith}
use Rattle.std.specs.Int.Signed.{le_z}
use mir.Facts.{to_z-of_z}
use Rattle.rules.proofs.Signed.{signed, lt_z_false}
use Rattle.charge.specs.Charge.{charge_next}
use Rattle.rules.proofs.Signed.{le_le_z}
use Rattle.trial.specs.Trial.{draw_more}
use Rattle.trial.proofs.Running.{tick_range, tick_more}
use Rattle.trial.proofs.run.run_until.Given.{Over}
use Rattle.trial.proofs.run.run_until.Goals as goal
use Rattle.trial.proofs.run.run_until.Goals.{After-from}

-- the charge is at least the floor
over_floor : (g : Over) (c : After-from g) → le_z (pos c.args.drawn.now.header.floor) (to_z w64 c.loop-t.c-bits) ≡ true
over_floor g c =
    let floor = to_z-of_z {w = w64} (record { sfits = c.from-floor.type_inv }) ∙ c.from-floor.ensures in
    le_le_z (pos c.args.drawn.now.header.floor) (to_z w64 c.loop-t.c-bits) (lt_z_false (rw floor at c.if-c-floor.false))

pub step-c-requires-clause-charge_bound : goal.step-c-requires-clause-charge_bound
step-c-requires-clause-charge_bound g c =
    let r = tick_range _ _ _ _ _ _ _ c.loop-t.invariant (over_floor g c) in
    let k : c.args.drawn.now.header.capacity < 2 ^ 32 = search rules in
    (omega (signed, r.0), omega (signed, r.1))

pub loop-t-preserved : goal.loop-t-preserved
unfolding draw_more
loop-t-preserved g c =
    let h = c.args.drawn.now.header in
    let before = (goal.at.loop-t-preserved g c).After-from in
    let next = to_z-of_z {w = w64} (record { sfits = c.step-c.type_inv }) ∙ c.step-c.ensures ∙ (λ i. charge_next h.capacity h.rate (c.from.ensures i + c.from-more.ensures i) (to_z w64 c.loop-t.c-bits)) in
    tick_more _ _ _ _ _ _ _ c.loop-t.invariant (over_floor g before) _ (omega arith) next
