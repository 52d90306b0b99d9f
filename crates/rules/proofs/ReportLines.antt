-- The lines of a report: that of each place, then the end line.
-- Assumes nothing.
use Prim.Native.Nat.{ℕ, zero, suc, ◌+◌, ◌<◌}
use mathlib.Core.Path.{◌≡◌, refl, sym, ◌∙◌, ap}
use mathlib.Core.Bool.{Bool, true, false, cond, not}
use mathlib.Core.List.{List, [], ◌∷◌, ◌++◌, append_assoc, append-nil}
use native.Mathlib.Omega.{arith}
use native.Mathlib.Nat.{not-suc-le-zero, zero-add, add-zero}
use lib.Dec.{eqb}
use lib.ListN.{length, get_or}
use Rattle.rules.specs.Tests.{every}
use Rattle.rules.specs.Plan.{Activity, Plan, Schedule}
use Rattle.rules.specs.Number.{decimal}
use Rattle.rules.specs.Lines.{lines}
use Rattle.rules.specs.Conditions.{has, condition_letters, letters_from, letters_of}
use Rattle.rules.specs.Outcomes.{activity_at, outcome}
use Rattle.rules.specs.Report.{outcome_line, outcome_lines, end_line}
use Rattle.rules.specs.declared.Projection.{Projection}
use Rattle.rules.specs.declared.Outcome.{Outcome}
use Rattle.rules.specs.declared.Outcome.TheVariants.{Placed, Refused}
use Rattle.rules.proofs.Tests.{and_left, and_right, and_both, last_or}
use Rattle.rules.proofs.Parted.{free, low_byte, decimal_free, lines_line}

number_free : (x : ℕ) → free 10 (decimal x) ≡ true
number_free x = decimal_free 10 x (low_byte 10 (omega arith))

-- what holds of every letter holds of the letters of a set
letters_every : (test : ℕ → Bool) (c : ℕ) (xs : List ℕ) (m : ℕ) → every test xs ≡ true → every test (letters_from c xs m) ≡ true
unfolding every letters_from
letters_every test c [] m e = refl
letters_every test c (x ∷ xs) m e = go (has m c) (letters_every test (suc c) xs m (and_right (test x) _ e))
  where
    go : (b : Bool) → every test (letters_from (suc c) xs m) ≡ true → every test (cond b (x ∷ letters_from (suc c) xs m) (letters_from (suc c) xs m)) ≡ true
    go true ih = and_both (and_left (test x) _ e) ih
    go false ih = ih

letters_free : (m : ℕ) → free 10 (letters_of m) ≡ true
unfolding every letters_of condition_letters
letters_free m = letters_every (λ x. not (eqb x 10)) 0 condition_letters m refl

outcome_line_lem : (a : Activity) (o : Outcome) (rest : List ℕ) → lines (outcome_line a o ++ rest) ≡ outcome_line a o ∷ lines rest
unfolding outcome_line every
outcome_line_lem a (Placed s) rest = lines_line _ rest (simp number_free)
outcome_line_lem a (Refused m) rest = lines_line _ rest (simp (number_free, letters_free))

end_next : (count : ℕ) (placed : Schedule) (p : Projection) (rest : List ℕ) → lines (end_line count placed p ++ rest) ≡ end_line count placed p ∷ lines rest
unfolding end_line every
end_next count placed p rest = lines_line _ rest (simp number_free)

pub end_line_lem : (count : ℕ) (placed : Schedule) (p : Projection) → lines (end_line count placed p) ≡ end_line count placed p ∷ []
unfolding lines
end_line_lem count placed p = rw append-nil at (end_next count placed p [])

module _ (p : Plan) where
  -- behind the lines of the first k places come those of the rest
  pub lines_behind : (k i : ℕ) (rest : List ℕ) → get_or (lines (outcome_lines p k ++ rest)) (k + i) [] ≡ get_or (lines rest) i []
  unfolding outcome_lines
  lines_behind zero i rest = rw zero-add
  lines_behind (suc k) i rest =
      let l : List ℕ = outcome_line (activity_at p k) (outcome p k) in
      let e : suc k + i ≡ k + suc i = omega arith in
      rw (append_assoc, e) (lines_behind k (suc i) (l ++ rest) ∙ ap (λ ls. get_or ls (suc i) []) (outcome_line_lem (activity_at p k) (outcome p k) rest))

  -- the line of place j
  pub line_of_place : (k j : ℕ) (rest : List ℕ) → j < k → get_or (lines (outcome_lines p k ++ rest)) j [] ≡ outcome_line (activity_at p j) (outcome p j)
  unfolding outcome_lines
  line_of_place zero j rest h = absurd (not-suc-le-zero h)
  line_of_place (suc k) j rest h =
      let l : List ℕ = outcome_line (activity_at p k) (outcome p k) in
      rw append_assoc (last_or (λ i. get_or (lines (outcome_lines p k ++ (l ++ rest))) i [] ≡ outcome_line (activity_at p i) (outcome p i)) k j h
      (ap (λ i. get_or (lines (outcome_lines p k ++ (l ++ rest))) i []) (sym (add-zero k)) ∙ lines_behind k 0 (l ++ rest) ∙ ap (λ ls. get_or ls 0 []) (outcome_line_lem (activity_at p k) (outcome p k) rest))
      (line_of_place k j (l ++ rest)))

  pub lines_count : (k : ℕ) (rest : List ℕ) → length (lines (outcome_lines p k ++ rest)) ≡ k + length (lines rest)
  unfolding outcome_lines
  lines_count zero rest = rw zero-add
  lines_count (suc k) rest =
      let l : List ℕ = outcome_line (activity_at p k) (outcome p k) in
      rw append_assoc (lines_count k (l ++ rest) ∙ omega (arith, ap length (outcome_line_lem (activity_at p k) (outcome p k) rest)))
