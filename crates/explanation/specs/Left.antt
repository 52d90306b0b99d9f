-- Of each letter of a refusal: its first list of starts is not empty, since any one letter left out gives a start that meets the rest.
use Rattle.std.specs.Prelude.{ℕ, ◌-◌, ◌^◌, ◌<◌, ◌≤◌, ◌≡◌, true, length}
use Rattle.rules.specs.Plan.{Plan}
use Rattle.rules.specs.Conditions.{condition_count, has}
use Rattle.rules.specs.Outcomes.{outcome}
use Rattle.rules.specs.Calls.{runs}
use Rattle.rules.specs.declared.Outcome.TheVariants.{Refused}

abbrev pub OthersMet : Type 0
OthersMet = (p : Plan) (k m c : ℕ) → outcome p k ≡ Refused m → c < condition_count → has m c ≡ true → 1 ≤ length (runs p k (m - 2 ^ c))
