-- What a plan must be, in plain facts and without reading (01, The plan file).
use Rattle.std.specs.Prelude.{ℕ, suc, ◌<◌, ◌≤◌, ◌≡◌, ◌≢◌, pos, length, get_or, ◌≤ℤ◌}
use mathlib.Core.List.{List, [], ◌∷◌, Memᴰ}
use Rattle.rules.specs.Plan.{Header, Window, Setting, Activity, Plan, most_activities}
use Rattle.rules.specs.MeetsB.{charge}
use Rattle.rules.specs.Outcomes.{no_activity, activity_at}

-- "horizon T 1 to 4,096; minute of day at tick 0, 0 to 1,439; .."
pub record HeaderFormed (h : Header) : Type 0 where
  pub horizon : (1 ≤ h.horizon) × (h.horizon ≤ 4096)
  pub minute : h.minute ≤ 1439
  pub capacity : (1 ≤ h.capacity) × (h.capacity ≤ 1000000000)
  pub floor : h.floor ≤ h.capacity
  pub first : (h.floor ≤ h.first) × (h.first ≤ h.capacity)
  pub rate : h.rate ≤ 1000000
  pub handover : h.handover ≤ h.capacity
  pub engines : h.engines ≤ 64
  pub peak : h.peak ≤ 1000000
  pub volume : h.volume ≤ 1000000000
  pub heater : h.heater ≤ 1000000

-- each item's low end is at most its high end, and above the high end of the item before; the first is `least` or more
abbrev pub Rises : {A : Type 0} → (A → ℕ) → (A → ℕ) → ℕ → List A → Type 0
Rises low high least [] = Unit {0}
Rises low high least (x ∷ xs) = (least ≤ low x) × (low x ≤ high x) × Rises low high (suc (high x)) xs

-- a list of at most `most` items in their range, rising
pub record ListFormed {A : Type 0} (InRange : A → Type 0) (low high : A → ℕ) (most : ℕ) (xs : List A) : Type 0 where
  pub few : length xs ≤ most
  pub in_range : (x : A) → Memᴰ x xs → InRange x
  pub rises : Rises low high 0 xs

-- numbers from 0 to hi that rise strictly
abbrev pub NumbersFormed : ℕ → ℕ → List ℕ → Type 0
NumbersFormed hi most xs = ListFormed (λ x. x ≤ hi) (λ x. x) (λ x. x) most xs

-- "each `v=k`, variable 0 to 7 and value 0 to 255", the variables rise strictly
abbrev pub SettingsFormed : List Setting → Type 0
SettingsFormed xs = ListFormed (λ x. (x.variable ≤ 7) × (x.value ≤ 255)) (λ x. x.variable) (λ x. x.variable) 4 xs

-- "bounds 0 to 4,095"; "`a:p:b`, with p from a to b" (02, [2])
pub record WindowFormed (w : Window) : Type 0 where
  pub from : w.from ≤ 4095
  pub preferred : (w.from ≤ w.preferred) × (w.preferred ≤ w.to)
  pub to : w.to ≤ 4095

-- "a window has a ≤ b, and each window begins after the last one's b"
abbrev pub WindowsFormed : List Window → Type 0
WindowsFormed ws = ListFormed WindowFormed (λ w. w.from) (λ w. w.to) 4 ws

-- "id 0 to 65,535; priority 0 to 65,535; duration 1 to T; .."
pub record ActivityFormed (h : Header) (a : Activity) : Type 0 where
  pub id : a.id ≤ 65535
  pub priority : a.priority ≤ 65535
  pub duration : (1 ≤ a.duration) × (a.duration ≤ h.horizon)
  pub preferred : a.preferred ≤ 4095
  pub windows : WindowsFormed a.windows
  pub after : NumbersFormed 65535 8 a.after
  pub units : NumbersFormed 31 32 a.units
  pub needs : SettingsFormed a.needs
  pub sets : SettingsFormed a.sets
  pub engines : a.engines ≤ 64
  pub peak : a.peak ≤ 1000000
  pub draw : a.draw ≤ 1000000
  pub volume : a.volume ≤ 1000000000
  pub warm : a.warm ≤ 1

pub record WellFormed (p : Plan) : Type 0 where
  pub header : HeaderFormed p.header
  -- "None to 64 activities"
  pub few : length p.activities ≤ most_activities
  pub each : (a : Activity) → Memᴰ a p.activities → ActivityFormed p.header a
  -- no two activities have one id
  pub ids : (i j : ℕ) → i < j → j < length p.activities → (get_or p.activities i no_activity).id ≢ (get_or p.activities j no_activity).id
  -- each id in `after` is that of an activity at an earlier place
  pub after : (k id : ℕ) → k < length p.activities → Memᴰ id (activity_at p k).after → (j : ℕ) × (j < k) × ((activity_at p j).id ≡ id)

-- the handover charge can be reached: c(T) with nothing placed is at least that
abbrev pub Reachable : Plan → Type 0
Reachable p = pos p.header.handover ≤ℤ charge p.header [] p.header.horizon
