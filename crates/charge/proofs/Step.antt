-- One step of the charge, in signed whole numbers and as the machine compares them.
-- Assumes nothing.
use Prim.Native.Nat.{ℕ, ◌+◌, ◌*◌, ◌<◌, ◌^◌}
use mathlib.Core.Path.{◌≡◌, refl}
use mathlib.Core.Bool.{Bool, true, false, cond}
use native.Mathlib.Omega.{arith}
use lib.IntN.{ℤ, pos, negsuc, neg_ℤ, ◌+ℤ◌, ◌-ℤ◌}
use Rattle.std.specs.Int.{int_min}
use Rattle.std.proofs.lemmas.Int.{ints}
use lib.Signed.{le_z, lt_z, ◌≤ℤ◌}
use mir.Syntax.{w64}
use mir.Val.{to_z, of_z}
use Rattle.rules.specs.MeetsB.{smaller}
use Rattle.rules.proofs.Level.{smaller_most}
use Rattle.rules.proofs.Signed.{cond_by, le_no, signed}
use Rattle.charge.specs.Charge.{charge_next}

-- the charge before the capacity cuts it off, as the machine computes it
pub read_next : (c : ℤ) (rate draw : ℕ) → negsuc 4611686018427387903 ≤ℤ c → c ≤ℤ pos 4611686018427387904 → rate < 2 ^ 32 → draw < 2 ^ 40
    → to_z w64 (of_z w64 (to_z w64 (of_z w64 (to_z w64 (of_z w64 c) +ℤ to_z w64 (of_z w64 (pos rate)))) -ℤ to_z w64 draw)) ≡ c +ℤ pos rate -ℤ pos draw
read_next c rate draw h k r d = omega (arith, ints)

-- std's minimum of two is the smaller
pub min_smaller : (a b : ℤ) → int_min a b ≡ smaller a b
unfolding smaller
min_smaller a b = go (lt_z b a) refl
  where
    go : (t : Bool) → lt_z b a ≡ t → cond t b a ≡ cond (le_z a b) a b
    go true e = let f : le_z a b ≡ false = grind (arith, ints) in rw f
    go false e = let f : le_z a b ≡ true = grind (arith, ints) in rw f

-- a charge is at most the capacity
pub next_most : (capacity rate draw : ℕ) (c : ℤ) → charge_next capacity rate draw c ≤ℤ pos capacity
unfolding charge_next
next_most capacity rate draw c = smaller_most _ _

-- at tick t the charge is at least - t * 2 ^ 32, and never over 32 bits
abbrev pub InTicks : ℕ → ℤ → Type 0
InTicks t c = (neg_ℤ (pos (t * 4294967296)) ≤ℤ c) × (c ≤ℤ pos 4294967295)

pub next_in : (capacity rate draw t : ℕ) (c : ℤ) → capacity < 2 ^ 32 → draw < 2 ^ 32 → InTicks t c → InTicks (t + 1) (charge_next capacity rate draw c)
unfolding charge_next smaller
next_in capacity rate draw t c k d i =
    let n = c +ℤ pos rate -ℤ pos draw in
    cond_by (InTicks (t + 1)) (le_z (pos capacity) n) (pos capacity) n (λ _. omega (arith, ints)) (λ u. let l : n ≤ℤ pos capacity = omega (signed, le_no (pos capacity) n u) in omega (arith, ints))

-- the machine reads such a charge as it is
pub read_in : (t : ℕ) (c : ℤ) → t < 4096 → InTicks t c → to_z w64 (of_z w64 c) ≡ c
read_in t c l i = omega (arith, ints)
