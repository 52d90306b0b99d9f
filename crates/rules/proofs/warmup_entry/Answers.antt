-- `warmup_entry` meets its contract.
use Rattle.std.proofs.Common.{refl}
use Rattle.rules.specs.Warmup.{apart, warmup_entry}
use Rattle.rules.proofs.warmup_entry.Goals as goal

pub returns : goal.returns
unfolding warmup_entry apart
returns c = rw (c.min-m.ensures, c.abs_diff-d.ensures) refl
