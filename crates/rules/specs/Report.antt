-- The report's bytes, and the program's output (01, Calls: "Report lines, by place").
use Rattle.std.specs.Prelude.{ℕ, zero, suc, ◌-◌, List, [], ◌∷◌, ◌++◌, nat_abs, length}
use Rattle.rules.specs.Bytes.{bytes}
use Rattle.rules.specs.Plan.{Activity, Plan, Schedule, end, at}
use Rattle.rules.specs.Number.{decimal}
use Rattle.rules.specs.Lines.{line_of}
use Rattle.rules.specs.Conditions.{letters_of}
use Rattle.rules.specs.MeetsB.{projection}
use Rattle.rules.specs.MeetsV.{total_volume}
use Rattle.rules.specs.Outcomes.{activity_at, outcome, finished}
use Rattle.rules.specs.Reading.{Reading, accepted, refused, reading}
use Rattle.rules.specs.declared.Outcome.{Outcome}
use Rattle.rules.specs.declared.Outcome.TheVariants.{Placed, Refused}
use Rattle.rules.specs.declared.Projection.{Projection}
use Rattle.rules.specs.Refusals.{Refusal}

-- "`id⇥placed⇥start⇥end` or `id⇥refused⇥letters`"
unfoldable pub outcome_line : Activity → Outcome → List ℕ
outcome_line a (Placed s) = line_of (decimal a.id ∷ bytes "placed" ∷ decimal s ∷ decimal (end (at a s)) ∷ [])
outcome_line a (Refused m) = line_of (decimal a.id ∷ bytes "refused" ∷ letters_of m ∷ [])

-- the lines of the first k places
unfoldable pub outcome_lines : Plan → ℕ → List ℕ
outcome_lines p zero = []
outcome_lines p (suc k) = outcome_lines p k ++ outcome_line (activity_at p k) (outcome p k)

-- "`end⇥placed⇥refused⇥charge at T⇥total volume placed`", and "the lowest c and the first tick that has it" as "two more fields" (02, [1]), of the number of activities, a finished schedule and its charge projection; its charges are at least the floor, so they have no sign
unfoldable pub end_line : ℕ → Schedule → Projection → List ℕ
end_line count placed p =
    line_of (
    bytes "end"
    ∷ decimal (length placed)
    ∷ decimal (count - length placed)
    ∷ decimal (nat_abs p.last)
    ∷ decimal (total_volume placed)
    ∷ decimal (nat_abs p.lowest)
    ∷ decimal p.tick
    ∷ [])

unfoldable pub report : Plan → List ℕ
report p = let n = length p.activities in outcome_lines p n ++ end_line n (finished p) (projection p.header (finished p))

-- "`no⇥number⇥line`"
unfoldable pub no_line : Refusal → List ℕ
no_line r = line_of (bytes "no" ∷ decimal r.number ∷ decimal r.line ∷ [])

-- "The program reads standard input and prints the report, or `no⇥number⇥line`"
unfoldable pub answer_to : Reading → List ℕ
answer_to (accepted p) = report p
answer_to (refused r) = no_line r

unfoldable pub output : List ℕ → List ℕ
output s = answer_to (reading s)
