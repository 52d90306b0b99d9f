-- `project` meets its contract: the projection goes to tick t, and at the end to the horizon.
use Rattle.std.proofs.Common.{rules, ℕ, ap, ◌≡◌, ◌∙◌, ◌<◌, ◌^◌, pos, to_z, of_z, w64, arith}
use Rattle.std.proofs.lemmas.Int.{ints}
use Rattle.std.proofs.lemmas.List.{get_or-take, length-take}
use mir.Facts.{to_z-of_z}
use Rattle.rules.specs.MeetsB.{projected}
use Rattle.charge.specs.Charge.{at_tick, charge_next, charge_by}
use Rattle.charge.proofs.Step.{read_in}
use Rattle.charge.proofs.Projected.{projected_first, projected_more}
use Rattle.charge.proofs.run.project.Goals as goal

pub loop-t-init : goal.loop-t-init
loop-t-init c =
    let h = c.args.drawn.now.header in
    let first : to_z w64 (of_z w64 c.from-first.result) ≡ pos h.first = rw c.from-first.ensures (omega (arith, ints)) in
    projected_first h (at_tick c.args.drawn.now.draws.now) c.args.charges.now _ first (search rules) (search rules)

pub step-c-requires-clause-charge_bound : goal.step-c-requires-clause-charge_bound
step-c-requires-clause-charge_bound c =
    let l : c.loop-t.t < 4096 = omega (arith, length-take {A = ℕ}, c.args.drawn.now.drawing.short) in
    rw (read_in c.loop-t.t c.loop-t.projection.last l c.loop-t.invariant.range) (omega (arith, ints, c.loop-t.invariant.range))

pub loop-t-preserved : goal.loop-t-preserved
loop-t-preserved c =
    let d = c.args.drawn.now in
    let h = d.header in
    let l : c.loop-t.t < 4096 = omega (arith, length-take {A = ℕ}, d.drawing.short) in
    let draw : c.from.result ≡ at_tick d.draws.now c.loop-t.t = c.from.ensures ∙ get_or-take _ d.draws.now c.loop-t.t 0 (omega (arith, length-take {A = ℕ})) in
    let few : at_tick d.draws.now c.loop-t.t < 2 ^ 32 = search rules in
    let next = to_z-of_z {w = w64} (record { sfits = c.step-c.type_inv }) ∙ c.step-c.ensures ∙ (λ i. charge_next h.capacity h.rate (draw i) (read_in c.loop-t.t c.loop-t.projection.last l c.loop-t.invariant.range i)) in
    projected_more h (at_tick d.draws.now) c.loop-t.t _ _ _ _ c.loop-t.invariant next c.further-projection.ensures (search rules) few l

pub returns-clause-value : goal.returns-clause-value
returns-clause-value c =
    let e : c.loop-t.t ≡ c.args.drawn.now.header.horizon = omega (arith, length-take {A = ℕ}, c.args.drawn.now.drawing.known) in
    c.loop-t.invariant.is ∙ ap (projected (charge_by c.args.drawn.now.header (at_tick c.args.drawn.now.draws.now))) e

pub returns-clause-written : goal.returns-clause-written
returns-clause-written c =
    let e : c.loop-t.t ≡ c.args.drawn.now.header.horizon = omega (arith, length-take {A = ℕ}, c.args.drawn.now.drawing.known) in
    record { size = c.loop-t.invariant.size; at = rw e at c.loop-t.invariant.at }
