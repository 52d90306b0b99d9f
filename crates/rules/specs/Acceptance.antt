-- Acceptance without the reader's algorithm: the accepted files are exactly the printed well-formed plans whose handover charge can be reached.
use Rattle.std.specs.Prelude.{ℕ, ◌≡◌, ◌↔◌, List}
use Rattle.rules.specs.Plan.{Plan}
use Rattle.rules.specs.Reading.{accepted, reading}
use Rattle.rules.specs.Print.{plan_text}
use Rattle.rules.specs.WellFormed.{WellFormed, Reachable}

pub record Acceptance : Type 0 where
  -- what reading guarantees of an accepted plan
  pub formed : (s : List ℕ) (p : Plan) → reading s ≡ accepted p → WellFormed p × Reachable p
  -- print an accepted plan and its bytes come back
  pub printed : (s : List ℕ) (p : Plan) → reading s ≡ accepted p → plan_text p ≡ s
  -- the printed form of a well-formed plan is accepted as that plan
  pub read : (p : Plan) → WellFormed p → Reachable p → reading (plan_text p) ≡ accepted p
  -- so the two are the same files
  pub exactly : (s : List ℕ) → ((p : Plan) × (reading s ≡ accepted p)) ↔ ((p : Plan) × WellFormed p × Reachable p × (plan_text p ≡ s))
