-- The one tie between the rows and the definitions' schedule: the first n say its entries, the latest place last.
use Rattle.std.specs.Prelude.{ℕ, zero, suc, ◌-◌, ◌<◌, ◌≤◌, ◌≡◌, Bool, false, cond, ltb, eqb, length, get_or}
use mathlib.Core.List.{List, [], ◌∷◌, Memᴰ}
use Rattle.std.proofs.Math.Option.{Option, none, some}
use Rattle.rules.specs.Plan.{Header, Setting, Activity, Entry, Schedule, end}
use Rattle.rules.specs.Tests.{any_of}
use Rattle.rules.specs.Warmup.{warmup}
use Rattle.rules.specs.MeetsS.{given}
use Rattle.rules.specs.WellFormed.{HeaderFormed, ActivityFormed}
use Rattle.rules.specs.Kept.{Kept}
use Rattle.placed.specs.Tables.{no_need, row_in}
use Rattle.placed.specs.declared.need.Need.{Need}
use Rattle.placed.specs.declared.row.Row.{Row}

-- a value as a code: one more than it, and 0 for none
abbrev pub code_of : Option ℕ → ℕ
code_of none = 0
code_of (some k) = suc k

-- setting number j of a list, which stands for none beyond it
abbrev pub setting_at : List Setting → ℕ → Setting
setting_at xs j = get_or xs j (record { variable = 0; value = 0 })

-- the ticks of a row say the entry e
pub record TicksSay (h : Header) (row : Row) (e : Entry) : Type 0 where
  pub id : row.id ≡ e.activity.id
  -- the heater's ticks below 0 draw nothing
  pub heat : row.heat ≡ e.start - warmup h e.activity e.start
  pub start : row.start ≡ e.start
  pub ends : row.end ≡ end e

-- the rest of a row says the activity a
pub record AmountsSay (row : Row) (a : Activity) : Type 0 where
  pub engines : row.engines ≡ a.engines
  pub peak : row.peak ≡ a.peak
  pub draw : row.draw ≡ a.draw
  pub volume : row.volume ≡ a.volume

abbrev pub SetsSay : List ℕ → List Setting → Type 0
SetsSay codes sets = (v : ℕ) → v < 8 → get_or codes v 0 ≡ code_of (given sets v)

abbrev pub VariablesSay : List Need → List Setting → Type 0
VariablesSay rows needs = (j : ℕ) → j < 4 → (get_or rows j no_need).variable ≡ (setting_at needs j).variable

abbrev pub CodesSay : List Need → List Setting → Type 0
CodesSay rows needs = (j : ℕ) → j < 4 → (get_or rows j no_need).code ≡ cond (ltb j (length needs)) (suc (setting_at needs j).value) 0

pub record SettingsSay (row : Row) (a : Activity) : Type 0 where
  pub sets : SetsSay row.sets a.sets
  pub need_variables : VariablesSay row.needs a.needs
  pub need_codes : CodesSay row.needs a.needs

abbrev pub UnitsSay : List Bool → List ℕ → Type 0
UnitsSay flags units = (u : ℕ) → u < 32 → get_or flags u false ≡ any_of (eqb u) units

pub record ActivitySays (row : Row) (a : Activity) : Type 0 where
  pub amounts_say : AmountsSay row a
  pub settings_say : SettingsSay row a
  pub units_say : UnitsSay row.units a.units

-- row i says it
abbrev pub TicksAt : Header → List Row → ℕ → Entry → Type 0
TicksAt h rows i e = TicksSay h (row_in rows i) e

abbrev pub AmountsAt : List Row → ℕ → Activity → Type 0
AmountsAt rows i a = AmountsSay (row_in rows i) a

abbrev pub SettingsAt : List Row → ℕ → Activity → Type 0
SettingsAt rows i a = SettingsSay (row_in rows i) a

abbrev pub UnitsAt : List Row → ℕ → Activity → Type 0
UnitsAt rows i a = UnitsSay (row_in rows i).units a.units

-- row i, of the candidate, says the activity a
abbrev pub CandidateAt : List Row → ℕ → Activity → Type 0
CandidateAt rows i a = ActivitySays (row_in rows i) a

-- row i says the entry e
pub record EntryAt (h : Header) (rows : List Row) (i : ℕ) (e : Entry) : Type 0 where
  pub ticks_say : TicksAt h rows i e
  pub row : CandidateAt rows i e.activity

-- what P says of the entries of a schedule by their places, of which there are n
unfoldable pub Rows : (ℕ → Entry → Type 0) → ℕ → Schedule → Type 0
Rows P zero [] = Unit {0}
Rows P zero (e ∷ placed) = ⊥
Rows P (suc n) [] = ⊥
Rows P (suc n) (e ∷ placed) = P n e × Rows P n placed

-- the first n rows say the schedule
abbrev pub Held : Header → List Row → ℕ → Schedule → Type 0
Held h rows n placed = Rows (EntryAt h rows) n placed

-- what holds of every schedule that the planner reaches
pub record Reached (h : Header) (placed : Schedule) : Type 0 where
  pub header : HeaderFormed h
  pub kept : Kept h placed
  pub formed : (e : Entry) → Memᴰ e placed → ActivityFormed h e.activity
  pub in_time : (e : Entry) → Memᴰ e placed → end e ≤ h.horizon
