-- What the runs of starts are, in plain facts (01, Calls: "the longest unbroken runs of starts meeting the set, rising, and answers their count, at most 2,048").
use Rattle.std.specs.Prelude.{ℕ, suc, ◌<◌, ◌≤◌, ◌≡◌, ◌↔◌, Bool, true, false, List, length, get_or}
use Rattle.rules.specs.declared.Interval.{Interval}

-- run number i, from 0
abbrev pub run_at : List Interval → ℕ → Interval
run_at rs i = get_or rs i (record { first = 0; last = 0 })

-- a run holds s
abbrev pub InRun : List Interval → ℕ → Type 0
InRun rs s = (i : ℕ) × (i < length rs) × ((run_at rs i).first ≤ s) × (s ≤ (run_at rs i).last)

-- rs are the runs of the starts that pass, of the n starts from 0 on
pub record RunsRight (pass : ℕ → Bool) (n : ℕ) (rs : List Interval) : Type 0 where
  -- a start passes exactly when a run holds it
  pub exactly : (s : ℕ) → s < n → (pass s ≡ true) ↔ InRun rs s
  -- a run is of one start or more, all below n
  pub within : (i : ℕ) → i < length rs → ((run_at rs i).first ≤ (run_at rs i).last) × ((run_at rs i).last < n)
  -- "longest": the start before a run's first doesn't pass, nor does the start after its last
  pub before : (i s : ℕ) → i < length rs → suc s ≡ (run_at rs i).first → pass s ≡ false
  pub behind : (i : ℕ) → i < length rs → suc (run_at rs i).last < n → pass (suc (run_at rs i).last) ≡ false
  -- "rising", with a start between any two
  pub rising : (i j : ℕ) → i < j → j < length rs → suc (run_at rs i).last < (run_at rs j).first
  -- "at most 2,048", as T is at most 4,096
  pub few : n ≤ 4096 → length rs ≤ 2048
