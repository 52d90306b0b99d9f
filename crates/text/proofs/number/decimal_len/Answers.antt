-- `number::decimal_len` meets its contract.
use Rattle.std.proofs.Common.{sym, arith}
use Rattle.text.proofs.Decimal.{decimal_reaches}
use Rattle.text.proofs.number.decimal_len.Goals as goal

pub returns : goal.returns
returns c =
    let n = c.ilog10.ensures in
    (sym (decimal_reaches c.ilog10.result c.args.x (rw c.max.ensures at n.power_le) (rw c.max.ensures at n.next_power_gt) (omega arith)), omega arith)
