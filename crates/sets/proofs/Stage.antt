-- A table filled condition by condition.
-- Assumes nothing.
use Prim.Native.Nat.{ℕ, ◌+◌, ◌^◌, ◌<◌, ◌≤◌}
use mathlib.Core.Path.{◌≡◌, sym, ◌∙◌, ap}
use mathlib.Core.Bool.{Bool, cond}
use mathlib.Core.List.{List}
use native.Mathlib.Omega.{arith}
use lib.ListN.{length, get_or}
use Rattle.rules.specs.Conditions.{condition_count, all_conditions}
use Rattle.rules.proofs.Cases.{by_order}
use Rattle.sets.specs.Sets.{met_below, met_set}
use Rattle.sets.specs.Table.{Marked, Table}
use Rattle.sets.proofs.MetSets.{met_more, met_none, met_low}

-- a table with the first c conditions
pub record Stage (test : ℕ → ℕ → Bool) (n c : ℕ) (table : List ℕ) : Type 0 where
  pub size : length table ≡ 4096
  pub met : (s : ℕ) → s < n → get_or table s 0 ≡ met_below test s c
  pub rest : (s : ℕ) → n ≤ s → get_or table s 0 ≡ 0

module _ (test : ℕ → ℕ → Bool) (n : ℕ) where
  pub stage_none : (table : List ℕ) → length table ≡ 4096 → ((s : ℕ) → get_or table s 0 ≡ 0) → Stage test n 0 table
  stage_none table l z = record { size = l; met = λ s k. z s ∙ sym (met_none test s); rest = λ s k. z s }

  pub stage_more : (c : ℕ) (table next : List ℕ) → Stage test n c table → Marked (test c) (2 ^ c) n table next → Stage test n (c + 1) next
  stage_more c table next g m = record {
    size = m.size ∙ g.size;
    met = λ s k. m.raised s k ∙ ap (λ (x : ℕ). x + cond (test c s) (2 ^ c) 0) (g.met s k) ∙ sym (met_more test s c);
    rest = λ s k. m.rest s k ∙ g.rest s k;
  }

  pub stage_low : (c : ℕ) (table : List ℕ) → c ≤ condition_count → Stage test n c table → (s : ℕ) → get_or table s 0 ≤ all_conditions
  stage_low c table k g s = by_order s n (λ l. omega (arith, g.met s l, met_low test s c k)) (λ l. omega (arith, g.rest s l))

  pub stage_all : (c m : ℕ) (table : List ℕ) → c ≡ condition_count → n ≡ m → Stage test n c table → Table test m table
  unfolding met_set
  stage_all c m table e q g = record {
    met = λ s k. g.met s (omega arith) ∙ ap (met_below test s) e;
    rest = λ s k. g.rest s (omega arith);
  }
