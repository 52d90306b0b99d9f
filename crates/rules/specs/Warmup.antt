-- The warm-up in ticks, by the time of day (01, Warm-up).
use Rattle.std.specs.Prelude.{ℕ, ◌+◌, ◌-◌, ◌/◌, ◌%◌, min, cond, eqb}
use Rattle.rules.specs.Plan.{Header, Activity}

-- |a − b|
unfoldable pub apart : ℕ → ℕ → ℕ
apart a b = (a - b) + (b - a)

-- "Entry q is 4 + (m div 12), where m is the smaller of |q − 168| and 288 − |q − 168|"
unfoldable pub warmup_entry : ℕ → ℕ
warmup_entry q =
    let d = apart q 168 in
    let m = min d (288 - d) in
    4 + m / 12

-- w(s), "For start s, q is ((minute of day + s) mod 1,440) div 5", "w(s) = 0 if warm is 0"
unfoldable pub warmup_at : ℕ → ℕ → ℕ → ℕ
warmup_at minute s warm = cond (eqb warm 0) 0 (warmup_entry ((minute + s) % 1440 / 5))

-- w(s) of the activity a
unfoldable pub warmup : Header → Activity → ℕ → ℕ
warmup h a s = warmup_at h.minute s a.warm
