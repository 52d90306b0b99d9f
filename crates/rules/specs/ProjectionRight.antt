-- What the charge projection hands back, in plain facts (02, [1]: "the lowest c and the first tick that has it").
use Rattle.std.specs.Prelude.{ℕ, ◌<◌, ◌≤◌, ◌≡◌, ◌≢◌, ℤ, ◌≤ℤ◌}
use Rattle.rules.specs.declared.Projection.{Projection}

-- p is the projection of the charges c at ticks 0 to n
pub record ProjectionRight (c : ℕ → ℤ) (n : ℕ) (p : Projection) : Type 0 where
  pub last : p.last ≡ c n
  -- "the lowest c": no charge is under it
  pub least : (t : ℕ) → t ≤ n → p.lowest ≤ℤ c t
  -- its tick is one of these, and has it
  pub within : p.tick ≤ n
  pub has : c p.tick ≡ p.lowest
  -- "the first tick that has it"
  pub first : (t : ℕ) → t < p.tick → c t ≢ p.lowest
