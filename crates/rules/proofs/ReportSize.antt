-- How long the lines of a report are at most, by the ranges of what they say.
-- Assumes nothing.
use Prim.Native.Nat.{ℕ, zero, suc, ◌-◌, ◌*◌, ◌<◌, ◌≤◌}
use mathlib.Core.Path.{refl}
use mathlib.Core.Bool.{Bool, true, false, cond}
use mathlib.Core.List.{List, [], ◌∷◌}
use native.Mathlib.Nat.{le_refl}
use native.Mathlib.Omega.{arith}
use lib.IntN.{ℤ, pos, negsuc, nat_abs}
use lib.ListN.{length, length-append}
use lib.Signed.{◌≤ℤ◌}
use Rattle.rules.specs.Plan.{Header, Activity, Plan, Schedule, end, at}
use Rattle.rules.specs.Lines.{behind, parted, line_of}
use Rattle.rules.specs.Conditions.{has, condition_letters, letters_from, letters_of}
use Rattle.rules.specs.MeetsB.{charge, projection}
use Rattle.rules.specs.MeetsV.{total_volume}
use Rattle.rules.specs.WellFormed.{HeaderFormed, ActivityFormed}
use Rattle.rules.specs.Bytes.{bytes}
use Rattle.rules.specs.Number.{decimal}
use Rattle.rules.specs.Outcomes.{activity_at, placed, outcome}
use Rattle.rules.specs.Report.{outcome_line, outcome_lines, end_line}
use Rattle.rules.specs.Demand.{Right, ChargeKept, lines_by}
use Rattle.rules.specs.declared.Outcome.{Outcome}
use Rattle.rules.specs.declared.Outcome.TheVariants.{Placed, Refused}
use Rattle.rules.specs.declared.Projection.{Projection}
use Rattle.rules.proofs.Answers.{replied}
use Rattle.rules.proofs.Decimal.{decimal_length}
use Rattle.rules.proofs.Demand.{lines_by_lem}
use Rattle.rules.proofs.Level.{charge_most}
use Rattle.rules.proofs.Projecting.{projected_right}
use Rattle.rules.proofs.Signed.{signed}

letters_few : (c : ℕ) (xs : List ℕ) (m : ℕ) → length (letters_from c xs m) ≤ length xs
unfolding letters_from
letters_few c [] m = omega arith
letters_few c (x ∷ xs) m = go (has m c) (letters_few (suc c) xs m)
  where
    go : (b : Bool) → length (letters_from (suc c) xs m) ≤ length xs → length (cond b (x ∷ letters_from (suc c) xs m) (letters_from (suc c) xs m)) ≤ length (x ∷ xs)
    go true ih = omega arith
    go false ih = omega arith

-- ---- the line of an activity: `65535⇥refused⇥WDUSEPBVH` and the LF
outcome_length : (h : Header) (ps : Schedule) (a : Activity) → HeaderFormed h → ActivityFormed h a → (o : Outcome) → Right h ps a o → length (outcome_line a o) ≤ 24
unfolding outcome_line line_of parted behind letters_of condition_letters
outcome_length h ps a H F (Placed s) R =
    let inside = (R.placed s refl).valid.start in
    simp length-append (omega (arith, decimal_length 4 a.id (omega (arith, F.id)), decimal_length 3 s (omega (arith, inside, H.horizon)), decimal_length 3 (end (at a s)) (omega (arith, inside, H.horizon))))
outcome_length h ps a H F (Refused m) R = simp length-append (omega (arith, decimal_length 4 a.id (omega (arith, F.id)), letters_few 0 condition_letters m))

-- ---- the lines of the first k places, each answered rightly beside some schedule
module _ (p : Plan) (H : HeaderFormed p.header) (each : (k : ℕ) → k < length p.activities → ActivityFormed p.header (activity_at p k)) where
  pub lines_length : (answers : ℕ → Outcome) (before : ℕ → Schedule) → ((k : ℕ) → k < length p.activities → Right p.header (before k) (activity_at p k) (answers k)) → (k : ℕ) → k ≤ length p.activities → length (lines_by p answers k) ≤ k * 24
  lines_length answers before right zero l = omega arith
  lines_length answers before right (suc k) l =
      simp length-append (omega (arith, lines_length answers before right k (omega arith), outcome_length p.header (before k) (activity_at p k) H (each k l) (answers k) (right k l)))

  pub outcome_lines_length : (k : ℕ) → k ≤ length p.activities → length (outcome_lines p k) ≤ k * 24
  unfolding outcome
  outcome_lines_length k l = rw (lines_by_lem p k) (lines_length (outcome p) (placed p) (λ i _. replied p.header (placed p i) (activity_at p i)) k l)

-- ---- the end line
abs_most : (z : ℤ) (c : ℕ) → pos 0 ≤ℤ z → z ≤ℤ pos c → nat_abs z ≤ c
abs_most (pos n) c l h = omega signed
abs_most (negsuc n) c l h = absurd (omega signed)

-- the numbers of a projection are in the ranges of a charge and of a tick
pub record ProjectionSmall (p : Projection) : Type 0 where
  pub last : nat_abs p.last ≤ 1000000000
  pub lowest : nat_abs p.lowest ≤ 1000000000
  pub tick : p.tick ≤ 4096

-- `end⇥64⇥64⇥1000000000⇥1000000000⇥1000000000⇥4096` and the LF
pub end_fields_length : (n m v : ℕ) (p : Projection) → n ≤ 64 → m ≤ 64 → v ≤ 1000000000 → ProjectionSmall p → length (line_of (bytes "end" ∷ decimal n ∷ decimal m ∷ decimal (nat_abs p.last) ∷ decimal v ∷ decimal (nat_abs p.lowest) ∷ decimal p.tick ∷ [])) ≤ 48
unfolding line_of parted behind
end_fields_length n m v p few refused volume s =
    simp length-append (omega (
      arith,
      decimal_length 1 n (omega arith),
      decimal_length 1 m (omega arith),
      decimal_length 9 (nat_abs p.last) (omega (arith, s.last)),
      decimal_length 9 v (omega arith),
      decimal_length 9 (nat_abs p.lowest) (omega (arith, s.lowest)),
      decimal_length 3 p.tick (omega (arith, s.tick)),
    ))

module _ (h : Header) (F : HeaderFormed h) (ps : Schedule) (K : ChargeKept h ps) where
  -- a charge of the finished schedule
  charge_abs : (t : ℕ) → t ≤ h.horizon → nat_abs (charge h ps t) ≤ 1000000000
  charge_abs t l =
      let low = K.floor t l in
      omega (arith, abs_most (charge h ps t) h.capacity (omega signed) (charge_most h ps F.first.1 t), F.capacity)

  pub projection_small : ProjectionSmall (projection h ps)
  unfolding projection
  projection_small =
      let r = projected_right (charge h ps) h.horizon in
      record { last = rw r.last (charge_abs h.horizon (le_refl _)); lowest = rw (← r.has) (charge_abs _ r.within); tick = omega (arith, r.within, F.horizon) }

  pub end_length : total_volume ps ≤ h.volume → (count : ℕ) → count ≤ 64 → length ps ≤ 64 → length (end_line count ps (projection h ps)) ≤ 48
  unfolding end_line
  end_length v count few placed = end_fields_length (length ps) (count - length ps) (total_volume ps) (projection h ps) placed (omega arith) (omega (arith, F.volume)) projection_small
