-- The loop of `number::digits`.
use mathlib.Core.Path.{◌≡◌}
use Prim.Native.Nat.{◌^◌, ◌<◌}
use lib.ListN.{drop}
use Rattle.text.specs.Cursor.{digits_from}
use Rattle.text.proofs.number.digits.Given as goal

abbrev pub invariant-loop-b : goal.invariant-loop-b
invariant-loop-b l = record {
  same : digits_from 0 l.s ≡ digits_from l.value (drop l.b-index l.s);
  small : l.value < 10 ^ l.b-index;
}
