-- The file's refusal, no such place, no such set, or the runs at the place.
use Rattle.std.proofs.Common.{Ok, Err, arith, length, min}
use Rattle.rules.specs.Refusals.{refusal_view}
use Rattle.plan.proofs.Accepted.{read_as}
use Rattle.calls.proofs.Answering.{starts_refused, starts_beyond, starts_no_set, starts_answered}
use Rattle.calls.proofs.Running.{columns_kept}
use Rattle.calls.proofs.starts.Goals as goal

pub returns-in-Err : goal.returns-in-Err
unfolding refusal_view
returns-in-Err c =
    let s = c.args.bytes.now in
    let q = c.in-Err.refused in
    columns_kept _ q (starts_refused s (refusal_view q) (read_as s (Err q) c.in-Err.ensures.value) _ _ _) c.args.firsts.now c.args.lasts.now

pub returns-then-count-place : goal.returns-then-count-place
returns-then-count-place c =
    let s = c.args.bytes.now in
    let p = c.in-Ok.plan in
    rw c.into.ensures (columns_kept _ _ (starts_beyond s p (read_as s (Ok p) c.in-Ok.ensures.value) _ _ _ (omega (arith, c.count.ensures.value))) c.args.firsts.now c.args.lasts.now)

pub returns-then-from-set : goal.returns-then-from-set
returns-then-from-set c =
    let s = c.args.bytes.now in
    let p = c.in-Ok.plan in
    rw c.into-then-from-set.ensures (columns_kept _ _ (starts_no_set s p (read_as s (Ok p) c.in-Ok.ensures.value) _ _ _ (omega (arith, c.count.ensures.value)) (omega arith)) c.args.firsts.now c.args.lasts.now)

pub returns : goal.returns
returns c =
    let s = c.args.bytes.now in
    let p = c.in-Ok.plan in
    rw (starts_answered s p (read_as s (Ok p) c.in-Ok.ensures.value) c.args.place c.args.set (min (length c.args.firsts.now) (length c.args.lasts.now)) (omega (arith, c.count.ensures.value)) (omega arith)) c.runs_at.ensures
