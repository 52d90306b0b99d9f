-- The parts of a text that are still to come.
use Rattle.std.specs.Prelude.{ℕ, List, [], Option, Some, None}
use Rattle.std.specs.Borrow.{Bor}
use Rattle.rules.specs.Lines.{split_on}

abbrev pub parts_left : ℕ → Option (Bor (List ℕ)) → List (List ℕ)
parts_left by None = []
parts_left by (Some rest) = split_on by rest.now
