-- What an entry lacks of a set, as a mask.
-- Assumes nothing.
use Rattle.std.proofs.Common.{ℕ, ◌-◌, ◌<◌, ◌≤◌, min, ◌≡◌, refl, Bool, true, false, eqb, bit_and, w16, arith}
use Rattle.std.specs.Int.{bit_at}
use Rattle.std.proofs.lemmas.Nat.Bits.{bit_at_and, bit_at_ones, bit_at_ones_above, bit_at_not, bit_at-lt, bit_at-zero, same_from_bits}
use native.Mathlib.Decide.{dec_lt}
use borrow.Author.Tests.{eqb-true, eqb-false, eq-eqb}
use Rattle.rules.specs.Conditions.{has, meets_set}
use Rattle.rules.proofs.Local.{bool_ext}
use Rattle.rules.proofs.Sets.{meets_at, meets_all}
use Rattle.sets.specs.Sets.{holds_set}

module _ (entry m : ℕ) (small : entry < 65536) where
  abbrev lacks : ℕ
  lacks = bit_and (bit_and m 511) (65535 - entry)

  -- its bits are the conditions of the set that the entry hasn't
  lacks_at : (i : ℕ) → i < 9 → bit_at lacks i ≡ min (bit_at m i) (1 - bit_at entry i)
  lacks_at i k =
      omega (arith, bit_at_and (bit_and m 511) (65535 - entry) i, bit_at_and m 511 i, bit_at_ones 9 i k, bit_at_not w16 entry i small (omega arith), bit_at-lt m i)

  lacks_above : (i : ℕ) → 9 ≤ i → bit_at lacks i ≡ 0
  lacks_above i k = omega (arith, bit_at_and (bit_and m 511) (65535 - entry) i, bit_at_and m 511 i, bit_at_ones_above 9 i k)

  -- it is 0 where the entry has every condition of the set
  pub lacks_none : eqb lacks 0 ≡ holds_set entry m
  unfolding holds_set meets_set has
  lacks_none =
      bool_ext (eqb lacks 0) (holds_set entry m)
      (λ q. meets_all (λ c s. has entry c) m 0 (λ c k h. eq-eqb (bit_at entry c) 1 (has_it (eqb-true lacks 0 q) c k h)))
      (λ q. eq-eqb lacks 0 (same_from_bits lacks 0 (λ i. none q i (dec_lt i 9))))
    where
      has_it : lacks ≡ 0 → (c : ℕ) → c < 9 → has m c ≡ true → bit_at entry c ≡ 1
      has_it e c k h = omega (arith, rw e at (lacks_at c k), bit_at-zero c, eqb-true (bit_at m c) 1 h, bit_at-lt entry c)

      none : holds_set entry m ≡ true → (i : ℕ) → Dec (i < 9) → bit_at lacks i ≡ bit_at 0 i
      none q i (no k) = omega (arith, lacks_above i (omega arith), bit_at-zero i)
      none q i (yes k) = go (has m i) refl
        where
          go : (b : Bool) → has m i ≡ b → bit_at lacks i ≡ bit_at 0 i
          go true e = omega (arith, lacks_at i k, bit_at-zero i, eqb-true (bit_at entry i) 1 (meets_at (λ c s. has entry c) m 0 i q k e))
          go false e = omega (arith, lacks_at i k, bit_at-zero i, eqb-false (bit_at m i) 1 e, bit_at-lt m i)
