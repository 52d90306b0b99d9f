-- What a table of sets says is what the conditions say.
-- Assumes nothing.
use Prim.Native.Nat.{ℕ, ◌<◌, ◌≤◌}
use mathlib.Core.Path.{◌≡◌, sym, ◌∙◌, ap}
use mathlib.Core.Bool.{Bool, true}
use mathlib.Core.List.{List}
use native.Mathlib.Omega.{arith}
use lib.ListN.{length, get_or, take, get_or-eq_default}
use borrow.Author.Tests.{eqb-true}
use Rattle.std.proofs.Common.{get_or-take, length-take-le}
use Rattle.rules.specs.Conditions.{condition_count, all_conditions, has, meets_set}
use Rattle.rules.specs.Answer.{answer}
use Rattle.rules.specs.Runs.{runs_from}
use Rattle.rules.proofs.Cases.{by_order}
use Rattle.rules.proofs.Sets.{all_of_them}
use Rattle.sets.specs.Sets.{met_set, holds_set}
use Rattle.sets.specs.Table.{Table}
use Rattle.sets.proofs.MetSets.{has_met, met_low}
use Rattle.schedule.specs.Found.{is_valid}
use Rattle.schedule.specs.Search.{test_in, meets_in}
use Rattle.schedule.proofs.Agree.{answer_alike, runs_alike, meets_alike}
use Rattle.schedule.proofs.Common.{contains_meets}

module _ (test : ℕ → ℕ → Bool) (n : ℕ) (table : List ℕ) (T : Table test n table) where
  agrees : (c s : ℕ) → c < condition_count → s < n → test_in table c s ≡ test c s
  unfolding test_in
  agrees c s h k = ap (λ (m : ℕ). has m c) (T.met s k) ∙ has_met test s c h

  -- each entry is a set of conditions
  pub entries_small : (s : ℕ) → get_or table s 0 ≤ all_conditions
  unfolding met_set
  entries_small s = by_order s n (λ l. omega (arith, T.met s l, met_low test s condition_count (omega arith))) (λ l. omega (arith, T.rest s l))

  pub table_answer : (distance : ℕ → ℕ) → answer (test_in table) n distance ≡ answer test n distance
  table_answer distance = answer_alike (test_in table) test n agrees distance

  pub table_runs : (m : ℕ) → runs_from (meets_in table m) 0 n ≡ runs_from (meets_set test m) 0 n
  unfolding meets_in
  table_runs m = runs_alike _ _ 0 n (λ s _ h. contains_meets table m s ∙ meets_alike (test_in table) test n agrees m s (omega arith))

-- the first n entries, as a list of their own, say the same of the first n starts
module _ (n : ℕ) (table : List ℕ) (long : n ≤ length table) where
  first_entry : (s : ℕ) → s < n → get_or (take n table) s 0 ≡ get_or table s 0
  first_entry s l = get_or-take n table s 0 l

  many : length (take n table) ≡ n
  many = length-take-le n table long

  pub first_small : (most : ℕ) → ((s : ℕ) → get_or table s 0 ≤ most) → (s : ℕ) → get_or (take n table) s 0 ≤ most
  first_small most h s =
      by_order s n (λ l. omega (arith, first_entry s l, h s))
      (λ l. omega (arith, get_or-eq_default (take n table) 0 {n = s} (omega (arith, many))))

  pub first_answer : (distance : ℕ → ℕ) → answer (test_in (take n table)) (length (take n table)) distance ≡ answer (test_in table) n distance
  unfolding test_in
  first_answer distance = rw many (answer_alike (test_in (take n table)) (test_in table) n (λ c s _ l. ap (λ (m : ℕ). has m c) (first_entry s l)) distance)

  pub first_runs : (m : ℕ) → runs_from (meets_in (take n table) m) 0 (length (take n table)) ≡ runs_from (meets_in table m) 0 n
  unfolding meets_in
  first_runs m = rw many (runs_alike _ _ 0 n (λ s _ h. ap (λ (e : ℕ). holds_set e m) (first_entry s (omega arith))))

  -- a start that is valid by them meets every condition
  pub first_valid : (test : ℕ → ℕ → Bool) → Table test n table → (s c : ℕ) → is_valid (take n table) s ≡ true → c < condition_count → test c s ≡ true
  unfolding is_valid test_in
  first_valid test T s c e h =
      let full : get_or (take n table) s 0 ≡ all_conditions = eqb-true _ all_conditions e in
      by_order s n
      (λ l. sym (agrees test n table T c s h l) ∙ ap (λ (m : ℕ). has m c) (sym (first_entry s l) ∙ full) ∙ all_of_them c h)
      (λ l. absurd (omega (arith, full, get_or-eq_default (take n table) 0 {n = s} (omega (arith, many)))))
