-- `keep_or_drop` meets its contract.
use Rattle.std.proofs.Common.{◌≡◌, ◌∙◌, ◌^◌, arith}
use Rattle.sets.proofs.Bits.{bit_is}
use Rattle.schedule.proofs.Common.{any_common}
use Rattle.schedule.proofs.letters.keep_or_drop.Goals as goal

pub returns-then-common_in : goal.returns-then-common_in
returns-then-common_in c =
    let by : c.bit.result ≡ 2 ^ c.args.c = c.bit.ensures.0 ∙ bit_is c.args.c (omega arith) in
    rw (← by, ← any_common, ← c.common_in.ensures, c.if-common_in.true)

pub returns-else-common_in : goal.returns-else-common_in
returns-else-common_in c =
    let by : c.bit.result ≡ 2 ^ c.args.c = c.bit.ensures.0 ∙ bit_is c.args.c (omega arith) in
    rw (← by, ← any_common, ← c.common_in.ensures, c.if-common_in.false)
