-- The load of each tick, filled in row by row.
-- Assumes nothing.
use Prim.Native.Nat.{ℕ, zero, suc, ◌+◌, ◌<◌, ◌≤◌}
use mathlib.Core.Path.{◌≡◌, refl, sym, ◌∙◌, ap}
use mathlib.Core.Bool.{cond, ◌&&◌}
use mathlib.Core.List.{List}
use native.Mathlib.Omega.{arith}
use native.Mathlib.Numerals.{add-one}
use lib.Dec.{leb, ltb}
use lib.ListN.{length, get_or}
use Rattle.placed.specs.declared.row.Row.{Row}
use Rattle.placed.specs.Tables.{row_in, start_at, end_at, engines_at, peak_at}
use Rattle.placed.specs.Bounds.{AmountsBounded}
use Rattle.placed.specs.Raised.{Raised}
use Rattle.rules.proofs.Lists.{each_same}
use Rattle.load.specs.Loads.{load_in, Loaded}
use Rattle.load.specs.Clear.{fits, clear_for}

-- the engines of a row are those that it weighs for E
pub engine_amounts : (rows : List Row) (i : ℕ) (row : Row) → row ≡ row_in rows i → row.engines ≡ engines_at rows i
engine_amounts rows i row e = ap (λ (x : Row). x.engines) e

-- the engines and the peak of each row are at most a million
pub amounts_bounded : (rows : List Row) (n : ℕ) → AmountsBounded rows (n + 1) → (i : ℕ) → i < n → (engines_at rows i ≤ 1000000) × (peak_at rows i ≤ 1000000)
amounts_bounded rows n b i k = (b.engines i (omega arith), b.peak i (omega arith))

-- weights that agree on the rows make the same load
pub load_same : (rows : List Row) (v w : ℕ → ℕ) (n t : ℕ) → ((i : ℕ) → i < n → v i ≡ w i) → load_in rows v n t ≡ load_in rows w n t
unfolding load_in
load_same rows v w zero t f = refl
load_same rows v w (suc n) t f = rw (f n (omega arith), load_same rows v w n t (λ i k. f i (omega arith)))

module _ (rows : List Row) (weights : ℕ → ℕ) where
  -- no row, and one row more
  load_none : (t : ℕ) → load_in rows weights 0 t ≡ 0
  unfolding load_in
  load_none t = refl

  load_more : (n t : ℕ) → load_in rows weights (n + 1) t ≡ cond (leb (start_at rows n) t && ltb t (end_at rows n)) (weights n) 0 + load_in rows weights n t
  unfolding load_in
  load_more n t = rw add-one

  pub loaded_none : (loads : List ℕ) → length loads ≡ 4096 → ((t : ℕ) → get_or loads t 0 ≡ 0) → Loaded rows weights 0 loads
  loaded_none loads l z = record { size = l; sum = λ t. z t ∙ sym (load_none t) }

  pub loaded_more : (n from to by : ℕ) (loads next : List ℕ) → Loaded rows weights n loads → from ≡ start_at rows n → to ≡ end_at rows n → by ≡ weights n → Raised from to by loads next → Loaded rows weights (n + 1) next
  loaded_more n from to by loads next f p q w r = record {
    size = r.size ∙ f.size;
    sum = λ t. rw (load_more n t, ← p, ← q, ← w) (omega (arith, r.at t, f.sum t));
  }

-- loads that agree have the same clear starts
pub clear_same : (f g : ℕ → ℕ) (weight limit d s : ℕ) → ((t : ℕ) → f t ≡ g t) → clear_for (fits f weight limit) d s ≡ clear_for (fits g weight limit) d s
unfolding clear_for fits
clear_same f g weight limit d s e = each_same _ _ d (λ i k. ap (λ (x : ℕ). leb (weight + x) limit) (e (s + i)))
