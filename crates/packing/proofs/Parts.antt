-- The parts of a packed answer: of a refusal, of an outcome, of a count.
-- Assumes nothing.
use Prim.Native.Nat.{ℕ, ◌^◌, ◌<◌, ◌≤◌}
use mathlib.Core.Path.{◌≡◌}
use mathlib.Core.List.{[], ◌∷◌}
use native.Mathlib.Omega.{arith}
use Rattle.rules.specs.Calls.{refusal, full}
use Rattle.packing.specs.Packing.{packed_values, packed, value_in, refusal_in, placed_in}

module _ (k n : ℕ) (h : k < 256) (l : n < 4294967296) where
  pub refusal_refusal : refusal_in (packed (refusal k n)) ≡ k
  unfolding refusal_in packed packed_values
  refusal_refusal = omega arith

  pub refusal_value : value_in (packed (refusal k n)) ≡ n
  unfolding value_in packed packed_values
  refusal_value = omega arith

  pub refusal_bits : packed (refusal k n) < 2 ^ 40
  unfolding packed packed_values
  refusal_bits = omega arith

module _ (placed v : ℕ) (h : placed ≤ 1) (l : v < 4294967296) where
  pub outcome_refusal : refusal_in (packed (full (placed ∷ v ∷ []))) ≡ 0
  unfolding refusal_in packed packed_values
  outcome_refusal = omega arith

  pub outcome_value : value_in (packed (full (placed ∷ v ∷ []))) ≡ v
  unfolding value_in packed packed_values
  outcome_value = omega arith

  pub outcome_mark : placed_in (packed (full (placed ∷ v ∷ []))) ≡ placed
  unfolding placed_in packed packed_values
  outcome_mark = omega arith

  pub outcome_bits : packed (full (placed ∷ v ∷ [])) < 2 ^ 41
  unfolding packed packed_values
  outcome_bits = omega arith

module _ (n : ℕ) (l : n < 4294967296) where
  pub count_refusal : refusal_in (packed (full (n ∷ []))) ≡ 0
  unfolding refusal_in packed packed_values
  count_refusal = omega arith

  pub count_value : value_in (packed (full (n ∷ []))) ≡ n
  unfolding value_in packed packed_values
  count_value = omega arith

  pub count_bits : packed (full (n ∷ [])) < 2 ^ 40
  unfolding packed packed_values
  count_bits = omega arith

pub no_mark : (x : ℕ) → x < 2 ^ 40 → placed_in x ≡ 0
unfolding placed_in
no_mark x h = omega arith
