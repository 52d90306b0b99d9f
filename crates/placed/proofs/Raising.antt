-- Sums raised tick by tick.
-- Assumes nothing.
use Prim.Native.Nat.{ℕ, ◌+◌, ◌≤◌}
use mathlib.Core.Bool.{Bool, true, false, cond, ◌&&◌}
use mathlib.Core.List.{List}
use native.Mathlib.Omega.{arith}
use lib.Dec.{leb, ltb}
use lib.ListN.{get_or}
use Rattle.placed.specs.Raised.{Raised}

-- a number, or 0 in its place, is at most what the number is at most
pub cond_most : (b : Bool) (x y : ℕ) → x ≤ y → cond b x 0 ≤ y
cond_most true x y h = h
cond_most false x y h = omega arith

abbrev within : ℕ → ℕ → ℕ → Bool
within from to t = leb from t && ltb t to

-- no tick is raised by more
pub raised_most : (from to by : ℕ) (old new : List ℕ) → Raised from to by old new → (t : ℕ) → get_or new t 0 ≤ get_or old t 0 + by
raised_most from to by old new r t = omega (arith, r.at t, cond_most (within from to t) by by (omega arith))
