-- Outcomes place by place, and the finished schedule (01, Placing and refusing).
use Rattle.std.specs.Prelude.{ℕ, zero, suc, ◌-◌, cond, List, [], ◌∷◌, length, get_or}
use Rattle.rules.specs.Plan.{Header, Window, Activity, Plan, Schedule, at}
use Rattle.rules.specs.Order.{order}
use Rattle.rules.specs.Warmup.{apart}
use Rattle.rules.specs.MeetsW.{inside}
use Rattle.rules.specs.Conditions.{meets}
use Rattle.rules.specs.Answer.{answer}
use Rattle.rules.specs.declared.Outcome.{Outcome}
use Rattle.rules.specs.declared.Outcome.TheVariants.{Placed, Refused}

-- "A candidate's starts are the s from 0 to T − d": how many they are
unfoldable pub starts : Header → Activity → ℕ
starts h a = suc h.horizon - a.duration

-- the preferred tick of the start s: "the p of the window holding the start", and the preferred field "when the window list is empty" (02, [2]). Of a start in no window of a list that is not empty it is the field, too, which matters to no answer: no such start meets W
unfoldable pub preferred_at : ℕ → List Window → ℕ → ℕ
preferred_at field [] s = field
preferred_at field (w ∷ ws) s = cond (inside s w) w.preferred (preferred_at field ws s)

-- "|s − preferred|"; "Distance is measured to the p of the window holding the start" (02, [2])
unfoldable pub distance : Activity → ℕ → ℕ
distance a s = apart s (preferred_at a.preferred a.windows s)

-- a answered beside those placed
unfoldable pub reply : Header → Schedule → Activity → Outcome
reply h placed a = answer (meets h placed a) (starts h a) (distance a)

-- those placed, and a with them if it is answered as placed
unfoldable pub added : Outcome → Activity → Schedule → Schedule
added (Placed s) a placed = at a s ∷ placed
added (Refused m) a placed = placed

abbrev pub no_activity : Activity
no_activity = record { id = 0; priority = 0; duration = 0; preferred = 0; windows = []; after = []; units = []; needs = []; sets = []; engines = 0; peak = 0; draw = 0; volume = 0; warm = 0 }

-- the activity at place k
unfoldable pub activity_at : Plan → ℕ → Activity
activity_at p k = get_or (order p.activities) k no_activity

-- those placed at the first k places
unfoldable pub placed : Plan → ℕ → Schedule
placed p zero = []
placed p (suc k) = let before = placed p k in added (reply p.header before (activity_at p k)) (activity_at p k) before

-- the answer at place k, beside those placed at earlier places
unfoldable pub outcome : Plan → ℕ → Outcome
outcome p k = reply p.header (placed p k) (activity_at p k)

-- "The finished schedule is all activities answered as placed, each at its start"
unfoldable pub finished : Plan → Schedule
finished p = placed p (length p.activities)
