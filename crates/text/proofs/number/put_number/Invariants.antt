-- The loop of `number::put_number`: the digits of y, put at `at`, give what is asked; behind the first digit all are written.
use mathlib.Core.Path.{◌≡◌}
use Prim.Native.Nat.{◌+◌, ◌≤◌, ◌<◌}
use lib.ListN.{length}
use Rattle.text.specs.Text.{put}
use Rattle.rules.specs.Number.{decimal}
use Rattle.text.proofs.number.put_number.Given as goal

abbrev pub invariant-loop-i : goal.invariant-loop-i
invariant-loop-i l = record {
  here : (l.at ≤ l.i) × (l.y ≤ l.x);
  left : l.at < l.i → (l.i ≡ l.at + length (decimal l.y)) × (put l.out l.at (decimal l.y) ≡ put l.initial.out l.at (decimal l.x));
  done : l.i ≡ l.at → l.out ≡ put l.initial.out l.at (decimal l.x);
}
