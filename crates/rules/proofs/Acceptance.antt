-- Acceptance without the reader's algorithm, and that every refused file has a fault.
-- Assumes nothing.
use Prim.Native.Nat.{ℕ}
use mathlib.Core.Path.{◌≡◌, sym, ◌∙◌, ap}
use mathlib.Core.List.{List}
use native.Mathlib.Omega.{arith}
use Rattle.rules.specs.Plan.{Plan}
use Rattle.rules.specs.Reading.{accepted, refused, reading}
use Rattle.rules.specs.Print.{plan_text}
use Rattle.rules.specs.WellFormed.{WellFormed, Reachable}
use Rattle.rules.specs.Acceptance.{Acceptance}
use Rattle.rules.specs.Refusals.{Refusal}
use Rattle.rules.proofs.PlanBack.{read_printed}
use Rattle.rules.proofs.Accepted.{accepted_formed, accepted_printed}

pub acceptance : Acceptance
acceptance =
    record {
      formed = accepted_formed;
      printed = accepted_printed;
      read = read_printed;
      exactly = λ s. (λ a. let f = accepted_formed s a.0 a.1 in (a.0, f.0, f.1, accepted_printed s a.0 a.1), λ w. (w.0, ap reading (sym w.3) ∙ read_printed w.0 w.1 w.2));
    }

-- a refused file is not the print of a well-formed plan whose handover charge can be reached
pub refused_not_printed : (s : List ℕ) (r : Refusal) → reading s ≡ refused r → (p : Plan) → WellFormed p → Reachable p → plan_text p ≡ s → ⊥
refused_not_printed s r e p w h q =
    let both : refused r ≡ accepted p = sym e ∙ ap reading (sym q) ∙ read_printed p w h in
    let z : ◌≡◌ {A = ℕ} 0 1 = cc in
    omega arith
