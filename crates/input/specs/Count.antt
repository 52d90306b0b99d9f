-- How many bytes were read, also where a read failed.
use Rattle.std.specs.Prelude.{ℕ, Result, Ok, Err}
use Rattle.input.specs.declared.ReadFailed.{ReadFailed}

abbrev pub count_of : Result ℕ ReadFailed → ℕ
count_of (Ok count) = count
count_of (Err failed) = failed.count
