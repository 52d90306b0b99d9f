-- `run_own` meets its contract: the heater's ticks are run, then its own.
use Rattle.std.proofs.Common.{◌≡◌, sym, arith}
use Rattle.charge.specs.Charge.{own_view, at_tick}
use Rattle.trial.specs.Trial.{draw_with}
use Rattle.trial.proofs.Running.{ran_same, ran_on, ran_most}
use Rattle.trial.proofs.Added.{draws_heating, draws_held}
use Rattle.trial.proofs.run.run_own.Goals as goal

-- the heater's ticks
pub returns-then-heated-own-clause-ran_to : goal.returns-then-heated-own-clause-ran_to
returns-then-heated-own-clause-ran_to c =
    let e = c.run_ticks-heated.ensures.ran_to in
    (omega (arith, e.0, c.args.own.start_le_end), ran_same _ _ _ _ _ _ _ (λ t k l. draws_heating _ (own_view c.args.own) t k (omega (arith, e.0))) e.1)

pub run_ticks-requires-clause-under_capacity : goal.run_ticks-requires-clause-under_capacity
run_ticks-requires-clause-under_capacity c =
    let e = c.run_ticks-heated.ensures.ran_to in
    let z : c.run_ticks-heated.result ≡ c.args.own.start = omega (arith, e.0) in
    rw (sym z) (ran_most _ _ _ _ _ _ e.1 c.requires.under_capacity)

pub returns-clause-ran_to : goal.returns-clause-ran_to
returns-clause-ran_to c =
    let h = c.args.drawn.now.header in
    let own = own_view c.args.own in
    let all = draw_with (at_tick c.args.drawn.now.draws.now) own in
    let e = c.run_ticks-heated.ensures.ran_to in
    let f = c.run_ticks.ensures.ran_to in
    let z : c.run_ticks-heated.result ≡ c.args.own.start = omega (arith, e.0) in
    let p = ran_same h _ all _ _ _ _ (λ t k l. draws_heating _ own t k (omega (arith, e.0))) e.1 in
    let q = ran_same h _ all _ _ _ _ (λ t k l. draws_held _ own t k (omega (arith, f.0))) f.1 in
    (f.0, ran_on _ _ _ _ _ _ _ _ (rw z at p) q)
