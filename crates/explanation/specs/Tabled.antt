-- The runs of starts by their sets.
use Rattle.std.specs.Prelude.{ℕ, ◌≤◌, List, length}
use Rattle.rules.specs.Conditions.{all_conditions}
use Rattle.rules.specs.declared.Outcome.{Outcome}
use Rattle.rules.specs.declared.Outcome.TheVariants.{Placed, Refused}
use Rattle.rules.specs.Runs.{runs_from}
use Rattle.rules.specs.declared.Interval.{Interval}
use Rattle.schedule.specs.Search.{meets_in}

-- the runs of the starts of these sets that meet the set m
abbrev pub runs_in : List ℕ → ℕ → List Interval
runs_in sets m = runs_from (meets_in sets m) 0 (length sets)

-- the set of a refusal is one of the conditions
abbrev pub Small : Outcome → Type 0
Small (Placed s) = Unit {0}
Small (Refused m) = m ≤ all_conditions
