-- What the loops over the rows need of their numbers.
use Rattle.std.specs.Prelude.{ℕ, ◌<◌, ◌≤◌, List}
use Rattle.placed.specs.Tables.{heat_at, start_at, end_at, engines_at, peak_at, draw_at}
use Rattle.placed.specs.declared.row.Row.{Row}

-- a tick past every end
abbrev pub never : ℕ
never = 4097

-- the first n rows end by tick 4,096
pub record TicksBounded (rows : List Row) (n : ℕ) : Type 0 where
  pub few : n ≤ 64
  pub heats : (i : ℕ) → i < n → heat_at rows i ≤ start_at rows i
  pub start_end : (i : ℕ) → i < n → start_at rows i ≤ end_at rows i
  pub ends : (i : ℕ) → i < n → end_at rows i ≤ 4096

-- the amounts of the first n rows are at most a million each
pub record AmountsBounded (rows : List Row) (n : ℕ) : Type 0 where
  pub engines : (i : ℕ) → i < n → engines_at rows i ≤ 1000000
  pub peak : (i : ℕ) → i < n → peak_at rows i ≤ 1000000
  pub draw : (i : ℕ) → i < n → draw_at rows i ≤ 1000000
