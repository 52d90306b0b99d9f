-- `letters_of` meets its contract: the set is what is kept after the letters passed.
use mathlib.Core.Path.{◌≡◌, refl}
use Prim.Native.Nat.{◌-◌, ◌^◌}
use lib.ListN.{length}
use native.Mathlib.Numerals.{add-one}
use native.Mathlib.Omega.{arith}
use Rattle.rules.specs.Conditions.{condition_count}
use Rattle.rules.specs.Answer.{common, kept, letters}
use Rattle.rules.proofs.Sets.{power_in}
use Rattle.schedule.specs.Search.{test_in}
use Rattle.schedule.proofs.Turns.{ahead_all, ahead_next}
use Rattle.schedule.proofs.letters.letters_of.Goals as goal

pub loop-c-init : goal.loop-c-init
unfolding kept
loop-c-init c = (omega arith, refl, ahead_all)

pub keep_or_drop-set-requires : goal.keep_or_drop-set-requires
keep_or_drop-set-requires c =
    let inv = c.loop-c.invariant in
    (omega arith, power_in _ _ (inv.2 c.loop-c.c (omega arith) (omega arith)))

pub loop-c-preserved : goal.loop-c-preserved
unfolding kept
loop-c-preserved c =
    let start = c.args in
    let at = c.loop-c in (
      omega arith,
      rw (add-one, ← at.invariant.1) c.keep_or_drop-set.ensures,
      rw (add-one, c.keep_or_drop-set.ensures) (ahead_next at.c at.set (common (test_in start.sets.now) (length start.sets.now) (at.set - 2 ^ at.c)) (omega arith) at.invariant.2),
    )

pub returns : goal.returns
unfolding letters
returns c = let e : condition_count ≡ c.loop-c.c = omega arith in rw e c.loop-c.invariant.1
