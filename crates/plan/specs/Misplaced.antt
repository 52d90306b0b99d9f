-- An answer of the code as the definitions have it.
use Rattle.std.specs.Prelude.{Option, Some, None}
use Rattle.std.proofs.Math.Option.{Option as Maybe, none, some}

abbrev pub as_option : {A : Type 0} → Option A → Maybe A
as_option None = none
as_option (Some a) = some a
