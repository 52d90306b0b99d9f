-- The runs of starts are the longest unbroken ones, rising: what RunsRight says.
-- Assumes nothing.
use Prim.Native.Nat.{ℕ, zero, suc, ◌+◌, ◌*◌, ◌<◌, ◌≤◌}
use mathlib.Core.Path.{◌≡◌, refl, subst}
use mathlib.Core.Bool.{Bool, true, false, cond}
use mathlib.Core.List.{List, [], ◌∷◌}
use native.Mathlib.Omega.{arith}
use native.Mathlib.Nat.{not-suc-le-zero}
use lib.Dec.{eqb}
use lib.ListN.{length}
use borrow.Author.Tests.{eqb-true, eqb-false}
use Rattle.rules.specs.Runs.{with_start, runs_from}
use Rattle.rules.specs.RunsRight.{run_at, InRun, RunsRight}
use Rattle.rules.specs.declared.Interval.{Interval}
use Rattle.rules.proofs.Tests.{both_ways}
use Rattle.rules.proofs.Cases.{by_order, from_or}

module _ (pass : ℕ → Bool) (n : ℕ) where
  -- r is the first run among the starts from s on
  pub record First (s : ℕ) (r : Interval) : Type 0 where
    pub from : s ≤ r.first
    pub before : (x : ℕ) → s ≤ x → x < r.first → pass x ≡ false
    pub some : r.first ≤ r.last
    pub below : r.last < n
    pub inside : (x : ℕ) → r.first ≤ x → x ≤ r.last → pass x ≡ true
    pub behind : suc r.last < n → pass (suc r.last) ≡ false

  -- rs are the runs among the starts from s on, one after the other
  abbrev pub Runs : ℕ → List Interval → Type 0
  Runs s [] = (x : ℕ) → s ≤ x → x < n → pass x ≡ false
  Runs s (r ∷ rs) = First s r × Runs (suc (suc r.last)) rs

  -- the same run, among the starts from another one on
  since : {s : ℕ} (u : ℕ) {r : Interval} → First s r → u ≤ r.first → ((x : ℕ) → u ≤ x → x < r.first → pass x ≡ false) → First u r
  since u F l f = record { from = l; before = f; some = F.some; below = F.below; inside = F.inside; behind = F.behind }

  -- a start that doesn't pass, before runs
  skipped : (s : ℕ) (rs : List Interval) → pass s ≡ false → Runs (suc s) rs → Runs s rs
  skipped s [] e R = λ x l. from_or (λ y. y < n → pass y ≡ false) s x l (λ _. e) (R x)
  skipped s (r ∷ rs) e (F, R) = (since s F (omega (arith, F.from)) (λ x l. from_or (λ y. y < r.first → pass y ≡ false) s x l (λ _. e) (F.before x)), R)

  -- a start by itself, where the next one doesn't pass
  alone : (s : ℕ) → s < n → pass s ≡ true → (suc s < n → pass (suc s) ≡ false) → First s (record { first = s; last = s })
  alone s k e f =
      record {
        from = omega arith;
        before = λ x l h. absurd (omega arith);
        some = omega arith;
        below = k;
        inside = λ x l h. let q : s ≡ x = omega arith in subst (λ y. pass y ≡ true) q e;
        behind = f;
      }

  -- a start that passes, before runs
  started : (s : ℕ) (rs : List Interval) → s < n → pass s ≡ true → Runs (suc s) rs → Runs s (with_start s rs)
  unfolding with_start
  started s [] k e R = (alone s k e (R (suc s) (omega arith)), λ x l h. R x (omega arith) h)
  started s (r ∷ rs) k e (F, R) = go (eqb r.first (suc s)) refl
    where
      go : (b : Bool) → eqb r.first (suc s) ≡ b → Runs s (cond b (record { first = s; last = r.last } ∷ rs) (record { first = s; last = s } ∷ r ∷ rs))
      go true q =
          let next : r.first ≡ suc s = eqb-true _ _ q in (
            record {
              from = omega arith;
              before = λ x l h. absurd (omega arith);
              some = omega (arith, F.some);
              below = F.below;
              inside = λ x l h. from_or (λ y. y ≤ r.last → pass y ≡ true) s x l (λ _. e) (λ m. F.inside x (omega arith)) h;
              behind = F.behind;
            },
            R,
          )
      go false q =
          let off : suc (suc s) ≤ r.first = from_or (λ y. r.first ≡ y → suc (suc s) ≤ y) (suc s) r.first F.from (λ z. absurd (eqb-false _ _ q z)) (λ m _. m) refl in (
            alone s k e (λ _. F.before (suc s) (omega arith) off),
            (since (suc (suc s)) F off (λ x l. F.before x (omega arith)), R),
          )

  runs_from_lem : (m s : ℕ) → s + m ≡ n → Runs s (runs_from pass s m)
  unfolding runs_from
  runs_from_lem zero s e = λ x l h. absurd (omega arith)
  runs_from_lem (suc m) s e = go (pass s) refl (runs_from_lem m (suc s) (omega arith))
    where
      go : (b : Bool) → pass s ≡ b → Runs (suc s) (runs_from pass (suc s) m) → Runs s (cond b (with_start s (runs_from pass (suc s) m)) (runs_from pass (suc s) m))
      go true q R = started s (runs_from pass (suc s) m) (omega arith) q R
      go false q R = skipped s (runs_from pass (suc s) m) q R

  -- each run in its turn is the first of those from some start on
  value_at : (s : ℕ) (rs : List Interval) (i : ℕ) → Runs s rs → i < length rs → (u : ℕ) × (s ≤ u) × First u (run_at rs i)
  value_at s [] i R h = absurd (not-suc-le-zero h)
  value_at s (r ∷ rs) zero (F, R) h = (s, omega arith, F)
  value_at s (r ∷ rs) (suc i) (F, R) h =
      let w = value_at (suc (suc r.last)) rs i R (omega arith) in
      (w.0, omega (arith, w.1, F.from, F.some), w.2)

  -- a start that passes is in a run
  in_run : (s : ℕ) (rs : List Interval) → Runs s rs → (x : ℕ) → s ≤ x → x < n → pass x ≡ true → InRun rs x
  in_run s [] R x l h e = absurd (both_ways e (R x l h))
  in_run s (r ∷ rs) (F, R) x l h e =
      by_order x r.first (λ k. absurd (both_ways e (F.before x l k))) (λ k.
      by_order r.last x (λ m.
      from_or (λ y. y < n → pass y ≡ true → InRun (r ∷ rs) y) (suc r.last) x m (λ z q. absurd (both_ways q (F.behind z))) (λ o z q.
      let w = in_run (suc (suc r.last)) rs R x o z q in (suc w.0, omega (arith, w.1), w.2, w.3)) h e) (λ m. (0, omega arith, k, m)))

  -- the start before a run doesn't pass, where that before s doesn't
  before_run : (s : ℕ) (rs : List Interval) → Runs s rs → ((x : ℕ) → suc x ≡ s → x < n → pass x ≡ false) → (i x : ℕ) → i < length rs → suc x ≡ (run_at rs i).first → pass x ≡ false
  before_run s [] R f i x h e = absurd (not-suc-le-zero h)
  before_run s (r ∷ rs) (F, R) f zero x h e = by_order x s (λ k. f x (omega (arith, F.from)) (omega (arith, F.some, F.below))) (λ k. F.before x k (omega arith))
  before_run s (r ∷ rs) (F, R) f (suc i) x h e =
      before_run (suc (suc r.last)) rs R (λ y q k. let z : y ≡ suc r.last = omega arith in rw z (F.behind (omega arith))) i x (omega arith) e

  run_rises : (s : ℕ) (rs : List Interval) → Runs s rs → (i j : ℕ) → i < j → j < length rs → suc (run_at rs i).last < (run_at rs j).first
  run_rises s [] R i j l h = absurd (not-suc-le-zero h)
  run_rises s (r ∷ rs) (F, R) i zero l h = absurd (not-suc-le-zero l)
  run_rises s (r ∷ rs) (F, R) zero (suc j) l h = let w = value_at (suc (suc r.last)) rs j R (omega arith) in omega (arith, w.1, w.2.from)
  run_rises s (r ∷ rs) (F, R) (suc i) (suc j) l h = run_rises (suc (suc r.last)) rs R i j (omega arith) (omega arith)

  -- a run and the start after it are two starts or more
  run_count : (s : ℕ) (rs : List Interval) → Runs s rs → s ≤ suc n → length rs * 2 + s ≤ suc n
  run_count s [] R l = omega arith
  run_count s (r ∷ rs) (F, R) l = omega (arith, F.from, F.some, F.below, run_count (suc (suc r.last)) rs R (omega (arith, F.below)))

  -- the facts, of runs one after the other
  pub runs_told : (rs : List Interval) → Runs 0 rs → RunsRight pass n rs
  runs_told rs R =
      record {
        exactly = λ s k. (in_run 0 rs R s (omega arith) k, λ w. (value_at 0 rs w.0 R w.1).2.inside s w.2 w.3);
        within = λ i k. let F = (value_at 0 rs i R k).2 in (F.some, F.below);
        before = λ i s. before_run 0 rs R (λ x q. absurd (omega arith)) i s;
        behind = λ i k. (value_at 0 rs i R k).2.behind;
        rising = run_rises 0 rs R;
        few = λ k. omega (arith, run_count 0 rs R (omega arith));
      }

pub runs_right : (pass : ℕ → Bool) (n : ℕ) → RunsRight pass n (runs_from pass 0 n)
runs_right pass n = runs_told pass n _ (runs_from_lem pass n n 0 (omega arith))
