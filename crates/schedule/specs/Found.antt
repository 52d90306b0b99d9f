-- What the searches of a table of sets find, in the specification's terms.
use Rattle.std.specs.Prelude.{ℕ, ◌<◌, ◌≤◌, ◌≡◌, ◌≢◌, Bool, true, false, cond, List, eqb, ltb, length, get_or, Option, Some, None}
use Rattle.std.proofs.Math.Option.{Option as Found, none, some}
use Rattle.rules.specs.Conditions.{all_conditions}
use Rattle.schedule.specs.declared.nearest.Near.{Near}

-- a start, where there is one
abbrev pub option_of : Option ℕ → Found ℕ
option_of (Some s) = some s
option_of None = none

-- the start s of the table is valid: its set has all conditions
unfoldable pub is_valid : List ℕ → ℕ → Bool
is_valid sets s = eqb (get_or sets s 0) all_conditions

-- i is the index of the first set that has all conditions, or none has
abbrev pub FirstWithAll : List ℕ → Option ℕ → Type 0
FirstWithAll sets (Some i) = (i < length sets) × (get_or sets i 0 ≡ all_conditions) × ((k : ℕ) → k < i → get_or sets k 0 ≢ all_conditions)
FirstWithAll sets None = (k : ℕ) → k < length sets → get_or sets k 0 ≢ all_conditions

-- the same of the last
abbrev pub LastWithAll : List ℕ → Option ℕ → Type 0
LastWithAll sets (Some i) = (i < length sets) × (get_or sets i 0 ≡ all_conditions) × ((k : ℕ) → i < k → k < length sets → get_or sets k 0 ≢ all_conditions)
LastWithAll sets None = (k : ℕ) → k < length sets → get_or sets k 0 ≢ all_conditions

-- b is the nearest of the starts from `from` to before `to` that pass, and has its distance
pub record IsNearest (pass : ℕ → Bool) (d : ℕ → ℕ) (from to : ℕ) (b : Near) : Type 0 where
  pub not_before : from ≤ b.start
  pub before_end : b.start < to
  pub passes : pass b.start ≡ true
  pub measured : b.distance ≡ d b.start
  pub nearest : (r : ℕ) → from ≤ r → r < to → pass r ≡ true → d b.start ≤ d r
  pub earlier : (r : ℕ) → from ≤ r → r < to → pass r ≡ true → d r ≡ d b.start → b.start ≤ r

-- what a search of these starts finds: the nearest, or that none passes
abbrev pub NearestIn : (ℕ → Bool) → (ℕ → ℕ) → ℕ → ℕ → Option Near → Type 0
NearestIn pass d from to (Some b) = IsNearest pass d from to b
NearestIn pass d from to None = (s : ℕ) → from ≤ s → s < to → pass s ≡ false

-- the nearer of two, of two equally near the first
abbrev pub nearer_of_two : Option Near → Option Near → Option Near
nearer_of_two None second = second
nearer_of_two (Some a) None = Some a
nearer_of_two (Some a) (Some b) = cond (ltb b.distance a.distance) (Some b) (Some a)
