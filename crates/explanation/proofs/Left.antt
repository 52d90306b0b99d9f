-- Any one letter left out gives a start that meets the rest, and so a run of such starts.
-- Assumes nothing.
use Prim.Native.Nat.{ℕ, ◌-◌, ◌^◌}
use native.Mathlib.Omega.{arith}
use Rattle.rules.specs.Conditions.{meets, meets_set}
use Rattle.rules.specs.Outcomes.{starts, activity_at, placed, outcome}
use Rattle.rules.specs.Calls.{runs}
use Rattle.rules.proofs.Answers.{replied}
use Rattle.rules.proofs.Runs.{runs_right}
use Rattle.rules.proofs.Sets.{kept_of, other_of, meets_all}
use Rattle.explanation.specs.Left.{OthersMet}

pub others_met : OthersMet
unfolding outcome runs starts
others_met p k m c e h q =
    let a = activity_at p k in
    let test = meets p.header (placed p k) a in
    let l = ((replied p.header (placed p k) a).refused m e).least c h q in
    let pass = meets_set test (m - 2 ^ c) in
    let n : ℕ = starts p.header a in
    let here = meets_all test (m - 2 ^ c) l.0 (λ b i r. l.2 b i (kept_of m c b q r) (other_of m c b q r)) in
    let held = ((runs_right pass n).exactly l.0 (omega (arith, l.1))).0 here in
    omega (arith, held.1)
