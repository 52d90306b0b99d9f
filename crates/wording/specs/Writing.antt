-- A text that is written piece by piece, of which the lent slice gets the part from a given byte on.
use Rattle.std.specs.Prelude.{ℕ, ◌-◌, List, [], ◌∷◌, ◌++◌, length, take, drop}
use Rattle.wording.specs.declared.writing.Part.{Part}

-- the part of a text from byte `from` on that fits a room
unfoldable pub part : ℕ → ℕ → List ℕ → List ℕ
part from room text = take room (drop from text)

-- the name of the lent slice, how many of the bytes to come are passed over, the bytes kept, at the front of the slice, and those left behind them
pub record Written : Type 0 where
  pub lent : ℕ
  pub skip : ℕ
  pub bytes : List ℕ
  pub left : List ℕ

-- what is written
unfoldable pub written : Part → Written
written p = record { lent = p.out.ghost_name; skip = p.skip; bytes = take p.to p.out.now; left = drop p.to p.out.now }

-- w written behind them, as far as it fits the slice
unfoldable pub with_more : Written → List ℕ → Written
with_more p w =
    record {
      lent = p.lent;
      skip = p.skip - length w;
      bytes = p.bytes ++ take (length p.left) (drop p.skip w);
      left = drop (length w - p.skip) p.left;
    }

-- the pieces one behind the other
abbrev pub together : List (List ℕ) → List ℕ
together [] = []
together (w ∷ ws) = w ++ together ws
