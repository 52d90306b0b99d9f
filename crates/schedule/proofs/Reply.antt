-- The answer that a table of sets gives, by what the search for the nearest valid start finds.
-- Assumes nothing.
use Prim.Native.Nat.{ℕ, ◌≤◌}
use mathlib.Core.Path.{◌≡◌, sym, ◌∙◌}
use mathlib.Core.List.{List}
use native.Mathlib.Omega.{arith}
use lib.Dec.{eqb}
use lib.ListN.{get_or}
use borrow.Author.Tests.{eq-eqb, eqb-true}
use Rattle.rules.specs.Conditions.{condition_count, all_conditions, has, meets_set}
use Rattle.rules.specs.Answer.{nearest, valid}
use Rattle.rules.proofs.Local.{bool_ext}
use Rattle.rules.proofs.Sets.{all_of_them, by_letters, meets_at, meets_all}
use Rattle.schedule.specs.Found.{is_valid}
use Rattle.schedule.specs.Search.{test_in}
use Rattle.sets.specs.Sets.{holds_set}
use Rattle.schedule.proofs.Common.{contains_meets}
use Rattle.schedule.proofs.Nearer.{nearest_same}

-- a set contains all conditions exactly when it is the set of all
full_is : (e : ℕ) → e ≤ all_conditions → eqb e all_conditions ≡ holds_set e all_conditions
unfolding holds_set meets_set
full_is e h =
    bool_ext (eqb e all_conditions) (holds_set e all_conditions)
    (λ q. meets_all (λ c s. has e c) all_conditions 0 (λ c k f. rw (eqb-true e all_conditions q) f))
    (λ q. eq-eqb e all_conditions (by_letters condition_count e all_conditions (omega arith) (omega arith) (λ c k. meets_at (λ c s. has e c) all_conditions 0 c q k (all_of_them c k) ∙ sym (all_of_them c k))))

-- the valid start with the least distance
pub nearest_valid : (sets : List ℕ) (n : ℕ) (distance : ℕ → ℕ) → ((s : ℕ) → get_or sets s 0 ≤ all_conditions) → nearest (is_valid sets) distance n ≡ nearest (valid (test_in sets) n) distance n
unfolding is_valid valid
nearest_valid sets n distance small =
    nearest_same _ _ distance n (λ s h. full_is (get_or sets s 0) (small s) ∙ contains_meets sets all_conditions s)
