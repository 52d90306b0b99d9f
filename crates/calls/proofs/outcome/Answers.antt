-- The file's refusal, no such place, or the answer at the place.
use Rattle.std.proofs.Common.{Ok, Err, arith}
use Rattle.rules.specs.Refusals.{refusal_view}
use Rattle.plan.proofs.Accepted.{read_as}
use Rattle.calls.proofs.Answering.{outcome_refused, outcome_beyond, outcome_answered, outcome_err, outcome_ok}
use Rattle.calls.proofs.outcome.Goals as goal

pub returns-in-Err : goal.returns-in-Err
unfolding refusal_view
returns-in-Err c =
    let s = c.args.bytes.now in
    let q = c.in-Err.refused in
    outcome_err s q c.args.place (outcome_refused s (refusal_view q) (read_as s (Err q) c.in-Err.ensures.value) c.args.place)

pub returns-else-place-count : goal.returns-else-place-count
returns-else-place-count c =
    let s = c.args.bytes.now in
    let p = c.in-Ok.plan in
    rw c.into.ensures (outcome_err s _ c.args.place (outcome_beyond s p (read_as s (Ok p) c.in-Ok.ensures.value) c.args.place (omega (arith, c.count.ensures.value))))

pub returns-then-place-count : goal.returns-then-place-count
returns-then-place-count c =
    let s = c.args.bytes.now in
    let p = c.in-Ok.plan in
    rw c.outcome_at.ensures (outcome_ok s _ c.args.place (outcome_answered s p (read_as s (Ok p) c.in-Ok.ensures.value) c.args.place (omega (arith, c.count.ensures.value))))
