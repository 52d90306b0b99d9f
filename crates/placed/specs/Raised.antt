-- Sums by tick, raised in a range of ticks.
use Rattle.std.specs.Prelude.{ℕ, ◌+◌, ◌≡◌, cond, ◌&&◌, List, leb, ltb, length, get_or}

-- the ticks from `from` to before `to` have `by` more; the others remain
pub record Raised (from to by : ℕ) (old new : List ℕ) : Type 0 where
  pub size : length new ≡ length old
  pub at : (t : ℕ) → get_or new t 0 ≡ get_or old t 0 + cond (leb from t && ltb t to) by 0
