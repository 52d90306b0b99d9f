-- The load of each tick: what the rows that hold it weigh together.
use Rattle.std.specs.Prelude.{ℕ, zero, suc, ◌+◌, ◌<◌, ◌≤◌, ◌≡◌, Bool, false, cond, ◌&&◌, List, leb, ltb, length, get_or}
use Rattle.std.specs.Borrow.{Bor}
use Rattle.rules.specs.Tests.{ever}
use Rattle.placed.specs.declared.row.Row.{Row}
use Rattle.placed.specs.Tables.{row_in, start_at, end_at}

-- the sum over the first n rows that hold tick t
unfoldable pub load_in : List Row → (ℕ → ℕ) → ℕ → ℕ → ℕ
load_in rows weights zero t = 0
load_in rows weights (suc n) t = cond (leb (start_at rows n) t && ltb t (end_at rows n)) (weights n) 0 + load_in rows weights n t

-- two rows have a unit in common
unfoldable pub share_units : Row → Row → Bool
share_units a b = ever (λ u. get_or a.units u false && get_or b.units u false) 32

-- rows i and j have
abbrev pub share_unit : List Row → ℕ → ℕ → Bool
share_unit rows i j = share_units (row_in rows i) (row_in rows j)

-- 1 where row i shares a unit with row n
unfoldable pub sharing : List Row → ℕ → ℕ → ℕ
sharing rows n i = cond (share_unit rows i n) 1 0

-- number i of a column
abbrev pub number_at : List ℕ → ℕ → ℕ
number_at column i = get_or column i 0

-- the first n rows are weighed by what `gives` says of a row and its weight
abbrev pub Weighs : (Bor Row → ℕ → Type 0) → List Row → ℕ → (ℕ → ℕ) → Type 0
Weighs gives rows n weights = (i : ℕ) (row : Bor Row) (w : ℕ) → i < n → row.now ≡ row_in rows i → gives row w → w ≡ weights i

-- at most a million each
abbrev pub WeighsLittle : (Bor Row → ℕ → Type 0) → List Row → ℕ → Type 0
WeighsLittle gives rows n = (i : ℕ) (row : Bor Row) (w : ℕ) → i < n → row.now ≡ row_in rows i → gives row w → w ≤ 1000000

-- each tick's load
pub record Loaded (rows : List Row) (weights : ℕ → ℕ) (n : ℕ) (loads : List ℕ) : Type 0 where
  pub size : length loads ≡ 4096
  pub sum : (t : ℕ) → get_or loads t 0 ≡ load_in rows weights n t
