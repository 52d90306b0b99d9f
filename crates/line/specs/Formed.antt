-- Check 2 of a line: its word and how many fields it has.
use Rattle.std.specs.Prelude.{ℕ, Bool, ◌&&◌, List, [], eqb, length, get_or}
use Rattle.rules.specs.Bytes.{same}
use Rattle.rules.specs.Lines.{split_on}

-- of a line without its LF
unfoldable pub is_formed : List ℕ → ℕ → List ℕ → Bool
is_formed word count l = eqb (length (split_on 9 l)) count && same (get_or (split_on 9 l) 0 []) word
