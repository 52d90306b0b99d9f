-- What the amounts of a schedule that was reached, and of a candidate, are at most.
-- Assumes nothing.
use Prim.Native.Nat.{ℕ, ◌+◌, ◌<◌, ◌≤◌}
use mathlib.Core.List.{List}
use native.Mathlib.Omega.{arith}
use borrow.Author.Count.{below_more}
use Rattle.rules.specs.Plan.{Header, Activity, Schedule}
use Rattle.rules.specs.WellFormed.{ActivityFormed}
use Rattle.placed.specs.Tables.{engines_at, peak_at, draw_at}
use Rattle.placed.specs.Held.{AmountsAt, CandidateAt, Held, Reached}
use Rattle.placed.specs.Bounds.{AmountsBounded}
use Rattle.placed.specs.declared.row.Row.{Row}
use Rattle.placed.proofs.Rows.{row_at}

-- ---- of one activity
amounts_most : (h : Header) (rows : List Row) (i : ℕ) (a : Activity) → ActivityFormed h a → AmountsAt rows i a → (engines_at rows i ≤ 1000000) × (peak_at rows i ≤ 1000000) × (draw_at rows i ≤ 1000000)
amounts_most h rows i a F r = (omega (arith, r.engines, F.engines), omega (arith, r.peak, F.peak), omega (arith, r.draw, F.draw))

-- ---- of the rows placed
module _ (h : Header) (rows : List Row) (n : ℕ) (placed : Schedule) (held : Held h rows n placed) (reached : Reached h placed) where
  amounts_below : (i : ℕ) → i < n → (engines_at rows i ≤ 1000000) × (peak_at rows i ≤ 1000000) × (draw_at rows i ≤ 1000000)
  amounts_below i k = let e = row_at _ n placed held i k in amounts_most h rows i e.0.activity (reached.formed e.0 e.1) e.2.row.amounts_say

  pub amounts_bounded_lem : AmountsBounded rows n
  amounts_bounded_lem = record { engines = λ i k. (amounts_below i k).0; peak = λ i k. (amounts_below i k).1; draw = λ i k. (amounts_below i k).2 }

  -- and of the candidate's
  module _ (a : Activity) (row : CandidateAt rows n a) (formed : ActivityFormed h a) where
    with_candidate : (i : ℕ) → i < n + 1 → (engines_at rows i ≤ 1000000) × (peak_at rows i ≤ 1000000) × (draw_at rows i ≤ 1000000)
    with_candidate = below_more (λ i. (engines_at rows i ≤ 1000000) × (peak_at rows i ≤ 1000000) × (draw_at rows i ≤ 1000000)) n amounts_below (amounts_most h rows n a formed row.amounts_say)

    pub amounts_beside : AmountsBounded rows (n + 1)
    amounts_beside = record { engines = λ i k. (with_candidate i k).0; peak = λ i k. (with_candidate i k).1; draw = λ i k. (with_candidate i k).2 }
