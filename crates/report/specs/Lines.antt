-- The lines of a report, over the numbers in them.
use Rattle.std.specs.Prelude.{ℕ, ◌+◌, List, [], ◌∷◌, nat_abs}
use Rattle.rules.specs.Bytes.{bytes}
use Rattle.rules.specs.Number.{decimal}
use Rattle.rules.specs.Lines.{line_of}
use Rattle.rules.specs.Conditions.{letters_of}
use Rattle.rules.specs.declared.Outcome.{Outcome}
use Rattle.rules.specs.declared.Outcome.TheVariants.{Placed, Refused}
use Rattle.rules.specs.declared.Projection.{Projection}

-- the most bytes of an activity's line, of the end line and of a report of 64 activities, by the ranges of the numbers in them
abbrev pub line_most : ℕ
line_most = 24

abbrev pub end_most : ℕ
end_most = 48

abbrev pub report_most : ℕ
report_most = 1584

-- the line of an activity of this id and duration
unfoldable pub outcome_text : ℕ → ℕ → Outcome → List ℕ
outcome_text id duration (Placed s) = line_of (decimal id ∷ bytes "placed" ∷ decimal s ∷ decimal (s + duration) ∷ [])
outcome_text id duration (Refused m) = line_of (decimal id ∷ bytes "refused" ∷ letters_of m ∷ [])

-- the end line of these counts, projection and volume
unfoldable pub end_text : ℕ → ℕ → Projection → ℕ → List ℕ
end_text placed refused p volume = line_of (bytes "end" ∷ decimal placed ∷ decimal refused ∷ decimal (nat_abs p.last) ∷ decimal volume ∷ decimal (nat_abs p.lowest) ∷ decimal p.tick ∷ [])

-- the `no` line
unfoldable pub no_text : ℕ → ℕ → List ℕ
no_text number line = line_of (bytes "no" ∷ decimal number ∷ decimal line ∷ [])
