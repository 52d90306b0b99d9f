-- The report, line by line.
-- Assumes nothing.
use Prim.Native.Nat.{ℕ, ◌+◌, ◌-◌, ◌*◌, ◌^◌, ◌<◌, ◌≤◌}
use mathlib.Core.Path.{◌≡◌, refl, ap, ◌∙◌}
use mathlib.Core.List.{List, [], ◌∷◌, ◌++◌, append-nil, append_assoc}
use native.Mathlib.Numerals.{add-one}
use native.Mathlib.Omega.{arith}
use lib.IntN.{nat_abs}
use lib.ListN.{length, length-append}
use Rattle.rules.specs.Bytes.{bytes}
use Rattle.rules.specs.Number.{decimal}
use Rattle.rules.specs.Lines.{behind, parted, line_of}
use Rattle.rules.specs.Refusals.{number_of}
use Rattle.rules.specs.declared.Fault.{Fault}
use Rattle.rules.specs.declared.Fault.TheVariants.{TooLong, NotFormed, Malformed, OutOfRange, TooMany, Repeated, Misplaced, NotRising, OutOfReach, NoRoom, NoPlace, NoSet, OutOfWindow}
use Rattle.rules.specs.Plan.{Header, Plan, Schedule}
use Rattle.rules.specs.MeetsB.{projection}
use Rattle.rules.specs.MeetsV.{total_volume}
use Rattle.rules.specs.Outcomes.{activity_at, placed, outcome}
use Rattle.rules.specs.Report.{outcome_line, outcome_lines, end_line}
use Rattle.rules.specs.declared.Outcome.{Outcome}
use Rattle.rules.specs.declared.Outcome.TheVariants.{Placed, Refused}
use Rattle.rules.specs.declared.Projection.{Projection}
use Rattle.rules.proofs.Decimal.{decimal_length}
use Rattle.rules.proofs.ReportSize.{ProjectionSmall, outcome_lines_length, end_fields_length}
use Rattle.activity.specs.View.{activity_view}
use Rattle.activity.specs.declared.Activity.{Activity as ActivityStruct}
use Rattle.plan.specs.View.{plan_view}
use Rattle.plan.specs.Placeable.{Placeable}
use Rattle.plan.specs.declared.Plan.{Plan as PlanStruct}
use Rattle.placed.proofs.Rows.{rows_map}
use Rattle.placing.specs.declared.next.Placing.{Placing}
use Rattle.placing.specs.Places.{PlacedTo}
use Rattle.report.specs.Lines.{outcome_text, end_text, no_text, line_most, end_most, report_most}
use Rattle.report.specs.Finished.{RowsSay}

-- the line of an activity, by its id and duration
outcome_text_is : (a : ActivityStruct) (o : Outcome) → outcome_text a.id a.duration o ≡ outcome_line (activity_view a) o
unfolding outcome_text outcome_line activity_view
outcome_text_is a (Placed s) = refl
outcome_text_is a (Refused m) = refl

-- the lines of one place more
pub place_more : (p : Plan) (k : ℕ) (a : ActivityStruct) (o : Outcome) → activity_view a ≡ activity_at p k → o ≡ outcome p k → outcome_lines p k ++ outcome_text a.id a.duration o ≡ outcome_lines p (k + 1)
unfolding outcome_lines
place_more p k a o e f = rw (add-one, ← e, ← f) (ap (λ (w : List ℕ). outcome_lines p k ++ w) (outcome_text_is a o))

-- the end line of a schedule, by its counts, projection and volume
pub end_text_is : (h : Header) (count n v : ℕ) (p : Projection) (ps : Schedule) → n ≡ length ps → p ≡ projection h ps → v ≡ total_volume ps → end_text n (count - n) p v ≡ end_line count ps (projection h ps)
unfolding end_text end_line
end_text_is h count n v p ps e f g = λ i. end_text (e i) (count - e i) (f i) (g i)

-- the lines of the first places, and an end line, are short
pub lines_short : (p : Plan) → Placeable p → (k : ℕ) → k ≤ length p.activities → length (outcome_lines p k) ≤ k * line_most
lines_short p F = outcome_lines_length p F.header F.each

pub end_short : (n m v : ℕ) (p : Projection) → n ≤ 64 → m ≤ 64 → v ≤ 1000000000 → ProjectionSmall p → length (end_text n m p v) ≤ end_most
unfolding end_text
end_short = end_fields_length

-- what is placed at the places of a plan is what its rows say
pub rows_say : {p : PlanStruct} {k : ℕ} {x : Placing} → PlacedTo p k x → RowsSay p.header x.placed.rows x.placed.count (placed (plan_view p) k)
unfolding plan_view
rows_say {x = x} S = record { said = rows_map _ _ x.placed.count _ (λ i e k m r. (r.ticks_say, r.row.amounts_say)) S.held; reached = S.reached }

all_behind : (a b c d e f g h i : List ℕ) → a ++ b ++ c ++ d ++ e ++ f ++ g ++ h ++ i ≡ a ++ (b ++ (c ++ (d ++ (e ++ (f ++ (g ++ (h ++ i)))))))
all_behind a b c d e f g h i = simp append_assoc refl

-- the end line is its fields, one behind another
pub end_joined : (w : List ℕ) (n m v : ℕ) (p : Projection) → w ++ bytes "end" ++ 9 ∷ decimal n ++ 9 ∷ decimal m ++ 9 ∷ decimal (nat_abs p.last) ++ 9 ∷ decimal v ++ 9 ∷ decimal (nat_abs p.lowest) ++ 9 ∷ decimal p.tick ++ 10 ∷ [] ≡ w ++ end_text n m p v
unfolding end_text line_of parted behind
end_joined w n m v p =
    all_behind w (bytes "end") (9 ∷ decimal n) (9 ∷ decimal m) (9 ∷ decimal (nat_abs p.last)) (9 ∷ decimal v) (9 ∷ decimal (nat_abs p.lowest)) (9 ∷ decimal p.tick) (10 ∷ [])
    ∙ simp (append_assoc, append-nil) refl

-- the `no` line is short, too
fault_few : (f : Fault) → number_of f ≤ 13
fault_few TooLong = omega arith
fault_few NotFormed = omega arith
fault_few Malformed = omega arith
fault_few OutOfRange = omega arith
fault_few TooMany = omega arith
fault_few Repeated = omega arith
fault_few Misplaced = omega arith
fault_few NotRising = omega arith
fault_few OutOfReach = omega arith
fault_few NoRoom = omega arith
fault_few NoPlace = omega arith
fault_few NoSet = omega arith
fault_few OutOfWindow = omega arith

pub no_short : (f : Fault) (line : ℕ) → line < 2 ^ 32 → length (no_text (number_of f) line) ≤ report_most
unfolding no_text line_of parted behind
no_short f line h = simp length-append (omega (arith, decimal_length 1 (number_of f) (omega (arith, fault_few f)), decimal_length 9 line (omega arith)))
