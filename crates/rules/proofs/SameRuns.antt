-- RunsRight determines the runs; for the starts call they are at most 2,048, and set 0 gives the one run 0 to T − d.
-- Assumes nothing.
use Prim.Native.Nat.{ℕ, zero, suc, ◌-◌, ◌<◌, ◌≤◌}
use mathlib.Core.Path.{◌≡◌, refl}
use mathlib.Core.Bool.{Bool, true, false}
use mathlib.Core.List.{List, [], ◌∷◌}
use native.Mathlib.Omega.{arith}
use native.Mathlib.Nat.{not-suc-le-zero}
use lib.ListN.{length}
use Rattle.rules.specs.Plan.{Plan}
use Rattle.rules.specs.Conditions.{meets, meets_set}
use Rattle.rules.specs.Outcomes.{starts, activity_at, placed}
use Rattle.rules.specs.Calls.{runs}
use Rattle.rules.specs.RunsRight.{run_at, InRun, RunsRight}
use Rattle.rules.specs.declared.Interval.{Interval}
use Rattle.rules.proofs.Tests.{both_ways, is_false}
use Rattle.rules.proofs.Cases.{by_order}
use Rattle.rules.proofs.Sets.{meets_all, none_of_them}
use Rattle.rules.proofs.Runs.{First, Runs, runs_told, runs_right}

module _ (pass : ℕ → Bool) (n : ℕ) where
  -- what RunsRight says, of the starts from s on
  record Told (s : ℕ) (rs : List Interval) : Type 0 where
    from : (i : ℕ) → i < length rs → s ≤ (run_at rs i).first
    held : (x : ℕ) → s ≤ x → x < n → pass x ≡ true → InRun rs x
    inside : (i x : ℕ) → i < length rs → (run_at rs i).first ≤ x → x ≤ (run_at rs i).last → pass x ≡ true
    within : (i : ℕ) → i < length rs → ((run_at rs i).first ≤ (run_at rs i).last) × ((run_at rs i).last < n)
    behind : (i : ℕ) → i < length rs → suc (run_at rs i).last < n → pass (suc (run_at rs i).last) ≡ false
    rising : (i j : ℕ) → i < j → j < length rs → suc (run_at rs i).last < (run_at rs j).first

  -- a start after the first run is in another
  in_rest : (r : Interval) (rs : List Interval) (x : ℕ) → r.last < x → InRun (r ∷ rs) x → InRun rs x
  in_rest r rs x l (zero, h, f, g) = absurd (omega arith)
  in_rest r rs x l (suc i, h, f, g) = (i, omega arith, f, g)

  -- a start before the first run is in none
  in_none : (s : ℕ) (r : Interval) (rs : List Interval) (x : ℕ) → Told s (r ∷ rs) → x < r.first → InRun (r ∷ rs) x → ⊥
  in_none s r rs x K l (zero, h, f, g) = omega arith
  in_none s r rs x K l (suc i, h, f, g) = omega (arith, K.rising 0 (suc i) (omega arith) h, K.within 0 (omega arith))

  told_runs : (s : ℕ) (rs : List Interval) → Told s rs → Runs pass n s rs
  told_runs s [] K = λ x l h. is_false (pass x) (λ e. not-suc-le-zero (K.held x l h e).1)
  told_runs s (r ∷ rs) K =
      let w = K.within 0 (omega arith) in (
        record {
          from = K.from 0 (omega arith);
          before = λ x l h. is_false (pass x) (λ e. in_none s r rs x K h (K.held x l (omega arith) e));
          some = w.0;
          below = w.1;
          inside = λ x. K.inside 0 x (omega arith);
          behind = K.behind 0 (omega arith);
        },
        told_runs (suc (suc r.last)) rs (
            record {
              from = λ i h. K.rising 0 (suc i) (omega arith) (omega arith);
              held = λ x l h e. in_rest r rs x (omega arith) (K.held x (omega (arith, K.from 0 (omega arith))) h e);
              inside = λ i x h. K.inside (suc i) x (omega arith);
              within = λ i h. K.within (suc i) (omega arith);
              behind = λ i h. K.behind (suc i) (omega arith);
              rising = λ i j l h. K.rising (suc i) (suc j) (omega arith) (omega arith);
            }),
      )

  -- a run's first start passes, so that not all from s on fail
  passes : (s : ℕ) (r : Interval) → First pass n s r → pass r.first ≡ true
  passes s r F = F.inside r.first (omega arith) F.some

  not_none : (s : ℕ) (r : Interval) → First pass n s r → Runs pass n s [] → ⊥
  not_none s r F R = both_ways (passes s r F) (R r.first F.from (omega (arith, F.some, F.below)))

  -- of two first runs neither begins before the other, nor ends before it
  first_by : (s : ℕ) (q r : Interval) → First pass n s q → First pass n s r → q.first ≤ r.first
  first_by s q r F G = by_order r.first q.first (λ l. absurd (both_ways (passes s r G) (F.before r.first G.from l))) (λ l. l)

  last_by : (s : ℕ) (q r : Interval) → First pass n s q → First pass n s r → q.last ≤ r.last
  last_by s q r F G = by_order r.last q.last (λ l. absurd (both_ways (F.inside (suc r.last) (omega (arith, first_by s q r F G, G.some)) l) (G.behind (omega (arith, F.below))))) (λ l. l)

  same_runs : (s : ℕ) (qs rs : List Interval) → Runs pass n s qs → Runs pass n s rs → qs ≡ rs
  same_runs s [] [] Q R = refl
  same_runs s [] (r ∷ rs) Q (G, R) = absurd (not_none s r G Q)
  same_runs s (q ∷ qs) [] (F, Q) R = absurd (not_none s q F R)
  same_runs s (q ∷ qs) (r ∷ rs) (F, Q) (G, R) =
      let a : q.first ≡ r.first = omega (arith, first_by s q r F G, first_by s r q G F) in
      let b : q.last ≡ r.last = omega (arith, last_by s q r F G, last_by s r q G F) in
      let c : qs ≡ rs = same_runs (suc (suc q.last)) qs rs Q (rw b R) in
      λ i. record { first = a i; last = b i } ∷ c i

  told : (rs : List Interval) → RunsRight pass n rs → Told 0 rs
  told rs A =
      record {
        from = λ i h. omega arith;
        held = λ x l h. (A.exactly x h).0;
        inside = λ i x h f g. (A.exactly x (omega (arith, A.within i h))).1 (i, h, f, g);
        within = A.within;
        behind = A.behind;
        rising = A.rising;
      }

  -- two lists of runs that are right are one
  pub runs_same : (qs rs : List Interval) → RunsRight pass n qs → RunsRight pass n rs → qs ≡ rs
  runs_same qs rs A B = same_runs 0 qs rs (told_runs 0 qs (told qs A)) (told_runs 0 rs (told rs B))

  -- where every start passes, one run holds them all
  runs_all : (last : ℕ) → suc last ≡ n → ((s : ℕ) → pass s ≡ true) → RunsRight pass n (record { first = 0; last = last } ∷ [])
  runs_all last h f =
      runs_told pass n _ (
        record {
          from = omega arith;
          before = λ x l k. absurd (omega arith);
          some = omega arith;
          below = omega arith;
          inside = λ x l k. f x;
          behind = λ k. absurd (omega arith);
        },
        λ x l k. absurd (omega arith),
      )

module _ (p : Plan) (k m : ℕ) where
  -- the starts call's runs are right
  pub call_runs : RunsRight (meets_set (meets p.header (placed p k) (activity_at p k)) m) (starts p.header (activity_at p k)) (runs p k m)
  unfolding runs
  call_runs = runs_right _ _

  -- "at most 2,048"
  pub call_few : p.header.horizon ≤ 4096 → 1 ≤ (activity_at p k).duration → length (runs p k m) ≤ 2048
  unfolding starts
  call_few h d = call_runs.few (omega arith)

-- "Set 0 gives 0 to T − d"
pub call_all : (p : Plan) (k : ℕ) → (activity_at p k).duration ≤ p.header.horizon → runs p k 0 ≡ record { first = 0; last = p.header.horizon - (activity_at p k).duration } ∷ []
unfolding starts
call_all p k h =
    let test = meets p.header (placed p k) (activity_at p k) in
    runs_same (meets_set test 0) (starts p.header (activity_at p k)) _ _ (call_runs p k 0)
    (runs_all _ _ _ (omega arith) (λ s. meets_all test 0 s (λ c l e. absurd (both_ways e (none_of_them c)))))
