-- The runs of starts, one start earlier.
-- Assumes nothing.
use Prim.Native.Nat.{ℕ, zero, suc, ◌-◌, ◌<◌, ◌≤◌}
use mathlib.Core.Path.{◌≡◌, refl}
use mathlib.Core.Bool.{Bool, true, false, cond}
use mathlib.Core.List.{List, [], ◌∷◌}
use native.Mathlib.Omega.{arith}
use lib.Dec.{eqb}
use lib.ListN.{length}
use borrow.Author.Tests.{eq-eqb, ne_eqb}
use Rattle.rules.specs.Runs.{with_start, runs_from}
use Rattle.rules.specs.declared.Interval.{Interval}

abbrev pub run : ℕ → ℕ → Interval
run a b = record { first = a; last = b }

-- the first run, if any, begins at s or later
abbrev From : ℕ → List Interval → Type 0
From s [] = Unit {0}
From s (r ∷ rs) = s ≤ r.first

later : (s : ℕ) (rs : List Interval) → From (suc s) rs → From s rs
later s [] f = tt
later s (r ∷ rs) f = omega arith

-- a start put before runs that begin later than the next start is a run by itself
alone : (s : ℕ) (rs : List Interval) → From (suc (suc s)) rs → with_start s rs ≡ run s s ∷ rs
unfolding with_start
alone s [] f = refl
alone s (r ∷ rs) f = rw (ne_eqb r.first (suc s) (λ e. omega arith))

-- put before a run that begins at the next start, it lengthens that
pub joined : (s l : ℕ) (rs : List Interval) → with_start s (run (suc s) l ∷ rs) ≡ run s l ∷ rs
unfolding with_start
joined s l rs = rw (eq-eqb (suc s) (suc s) refl)

-- put before runs, it is the first of the first run
headed : (s : ℕ) (rs : List Interval) → (l : ℕ) × (qs : List Interval) × (with_start s rs ≡ run s l ∷ qs)
unfolding with_start
headed s [] = (s, [], refl)
headed s (r ∷ rs) = go (eqb r.first (suc s))
  where
    go : (b : Bool) → (l : ℕ) × (qs : List Interval) × (cond b (run s r.last ∷ rs) (run s s ∷ r ∷ rs) ≡ run s l ∷ qs)
    go true = (r.last, rs, refl)
    go false = (s, r ∷ rs, refl)

one_more : (s : ℕ) (rs : List Interval) → length (with_start s rs) ≤ suc (length rs)
unfolding with_start
one_more s [] = omega arith
one_more s (r ∷ rs) = go (eqb r.first (suc s))
  where
    go : (b : Bool) → length (cond b (run s r.last ∷ rs) (run s s ∷ r ∷ rs)) ≤ suc (suc (length rs))
    go true = omega arith
    go false = omega arith

no_fewer : (s : ℕ) (rs : List Interval) → length rs ≤ length (with_start s rs)
unfolding with_start
no_fewer s [] = omega arith
no_fewer s (r ∷ rs) = go (eqb r.first (suc s))
  where
    go : (b : Bool) → suc (length rs) ≤ length (cond b (run s r.last ∷ rs) (run s s ∷ r ∷ rs))
    go true = omega arith
    go false = omega arith

module _ (pass : ℕ → Bool) where
  -- no more runs than starts
  pub few_runs : (s n : ℕ) → length (runs_from pass s n) ≤ n
  unfolding runs_from
  few_runs s zero = omega arith
  few_runs s (suc n) = go (pass s) (few_runs (suc s) n)
    where
      go : (b : Bool) → length (runs_from pass (suc s) n) ≤ n → length (cond b (with_start s (runs_from pass (suc s) n)) (runs_from pass (suc s) n)) ≤ suc n
      go true h = omega (arith, one_more s (runs_from pass (suc s) n))
      go false h = omega arith

  count_step : (s k : ℕ) → length (runs_from pass (suc s) k) ≤ length (runs_from pass s (suc k))
  unfolding runs_from
  count_step s k = go (pass s)
    where
      go : (b : Bool) → length (runs_from pass (suc s) k) ≤ length (cond b (with_start s (runs_from pass (suc s) k)) (runs_from pass (suc s) k))
      go true = no_fewer s (runs_from pass (suc s) k)
      go false = omega arith

  -- fewer starts have no more runs
  pub count_most : (n s : ℕ) → s ≤ n → length (runs_from pass s (n - s)) ≤ length (runs_from pass 0 n)
  count_most n zero h = let all : n - 0 ≡ n = omega arith in rw all (omega arith)
  count_most n (suc s) h = let left : n - s ≡ suc (n - suc s) = omega arith in omega (arith, rw (← left) at (count_step s (n - suc s)), count_most n s (omega arith))

  from : (s k : ℕ) → From s (runs_from pass s k)
  unfolding runs_from
  from s zero = tt
  from s (suc k) = go (pass s) (from (suc s) k)
    where
      go : (b : Bool) → From (suc s) (runs_from pass (suc s) k) → From s (cond b (with_start s (runs_from pass (suc s) k)) (runs_from pass (suc s) k))
      go true f = let h = headed s (runs_from pass (suc s) k) in rw h.2 (omega arith)
      go false f = later s (runs_from pass (suc s) k) f

  -- a start that doesn't pass changes nothing
  pub step_skip : (s k : ℕ) → pass s ≡ false → runs_from pass s (suc k) ≡ runs_from pass (suc s) k
  unfolding runs_from
  step_skip s k e = rw e

  -- one that passes is a run by itself where the next doesn't
  pub step_new : (s k : ℕ) → pass s ≡ true → (0 < k → pass (suc s) ≡ false) → runs_from pass s (suc k) ≡ run s s ∷ runs_from pass (suc s) k
  unfolding runs_from
  step_new s zero e f = rw e (alone s [] tt)
  step_new s (suc k) e f = rw (e, f (omega arith)) (alone s (runs_from pass (suc (suc s)) k) (from (suc (suc s)) k))
