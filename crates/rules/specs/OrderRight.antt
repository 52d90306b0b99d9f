-- What the scheduling order is, in plain facts (01, The plan file: "by priority, lowest number first (002), then by line").
use Rattle.std.specs.Prelude.{ℕ, ◌<◌, ◌≤◌, ◌≡◌, ◌≢◌, List, length, get_or}
use Rattle.rules.specs.Plan.{Activity}
use Rattle.rules.specs.Outcomes.{no_activity}

-- activity number k of a list, from 0
abbrev pub nth_activity : List Activity → ℕ → Activity
nth_activity xs k = get_or xs k no_activity

-- ys are the activities xs, which stand in the order of their lines, in the scheduling order
pub record OrderRight (xs ys : List Activity) : Type 0 where
  pub count : length ys ≡ length xs
  -- the activity at place k is number `line k` of xs; each has one place
  pub line : ℕ → ℕ
  pub known : (k : ℕ) → k < length ys → line k < length xs
  pub same : (k : ℕ) → k < length ys → nth_activity ys k ≡ nth_activity xs (line k)
  pub all : (i : ℕ) → i < length xs → (k : ℕ) × (k < length ys) × (line k ≡ i)
  pub once : (j k : ℕ) → j < k → k < length ys → line j ≢ line k
  -- "by priority, lowest number first"
  pub rising : (j k : ℕ) → j < k → k < length ys → (nth_activity ys j).priority ≤ (nth_activity ys k).priority
  -- "then by line"
  pub then : (j k : ℕ) → j < k → k < length ys → (nth_activity ys j).priority ≡ (nth_activity ys k).priority → line j < line k
