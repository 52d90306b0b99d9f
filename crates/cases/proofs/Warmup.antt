-- The warm-up by the time of day (01, Warm-up).
-- Assumes nothing.
use Prim.Native.Nat.{ℕ}
use mathlib.Core.Path.{◌≡◌, refl}
use mathlib.Core.Bool.{Bool, true}
use mathlib.Core.List.{List, [], ◌∷◌}
use lib.Dec.{eqb}
use Rattle.rules.specs.Open.{opened}
use Rattle.rules.specs.Warmup.{warmup_entry, warmup_at}
use Rattle.cases.proofs.Rows.{all, rows_opened}

-- entry q is w
unfoldable pub entry : ℕ → ℕ → Bool
entry q w = eqb (warmup_entry q) w

-- w(s) at this minute of day, start and warm
unfoldable pub warmed : ℕ → ℕ → ℕ → ℕ → Bool
warmed minute s warm w = eqb (warmup_at minute s warm) w

unfoldable pub warmup_examples : List Bool
warmup_examples =
    -- the entry nearest to 14:00 and its neighbours on both sides, by twelves
    entry 168 4
    ∷ entry 157 4
    ∷ entry 156 5
    ∷ entry 179 4
    ∷ entry 180 5
    -- the farthest, and its neighbours
    ∷ entry 24 16
    ∷ entry 23 15
    ∷ entry 25 15
    -- around midnight
    ∷ entry 0 14
    ∷ entry 287 13
    -- the last minute of a five and the first of the next
    ∷ warmed 899 0 1 4
    ∷ warmed 900 0 1 5
    -- from the activity's own start
    ∷ warmed 840 60 1 5
    -- past midnight once, twice and three times: minute 0, 899, 900 and 1,214 of the day
    ∷ warmed 1439 1 1 14
    ∷ warmed 1439 2340 1 4
    ∷ warmed 1439 2341 1 5
    ∷ warmed 1439 4095 1 10
    -- not warm
    ∷ warmed 900 0 0 0
    ∷ []

warm_ups : all warmup_examples ≡ true
unfolding opened rows_opened entry warmed warmup_examples
warm_ups = refl
