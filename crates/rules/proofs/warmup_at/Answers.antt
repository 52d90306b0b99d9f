-- `warmup_at` meets its contract.
use Rattle.std.proofs.Common.{eq-eqb, ne_eqb, refl}
use Rattle.rules.specs.Warmup.{warmup_at}
use Rattle.rules.proofs.warmup_at.Goals as goal

pub returns-then-warm-eq0 : goal.returns-then-warm-eq0
unfolding warmup_at
returns-then-warm-eq0 c = rw (eq-eqb _ _ c.if-warm-eq0.true)

pub returns : goal.returns
unfolding warmup_at
returns c = rw (ne_eqb _ _ c.if-warm-eq0.false, c.warmup_entry.ensures, c.from.ensures, c.from-2.ensures) refl
