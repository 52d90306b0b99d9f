-- The columns are filled as the call fills them.
use Rattle.std.proofs.Common.{arith}
use Rattle.station.proofs.StartsExported.{columns_held}
use Rattle.station.proofs.intervals.columns.Goals as goal

pub returns : goal.returns
returns c = columns_held _ _ _ _ _ c.min-held.ensures _ _ _ _ (omega (arith, c.told-firsts)) (omega (arith, c.told-lasts)) _ c.starts.ensures
