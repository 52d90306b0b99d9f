-- Lines and fields (01, The plan file: "Lines end in LF (byte 10), the last one too; fields are parted by one tab (byte 9)").
use Rattle.std.specs.Prelude.{ℕ, ◌-◌, Bool, cond, List, [], ◌∷◌, ◌++◌, eqb, length, get_or, take}
use Rattle.rules.specs.Bytes.{bytes}

-- x put in front of the first part
unfoldable pub on_first : ℕ → List (List ℕ) → List (List ℕ)
on_first x [] = (x ∷ []) ∷ []
on_first x (part ∷ parts) = (x ∷ part) ∷ parts

-- the parts of s between the bytes b: one more than there are such bytes
unfoldable pub split_on : ℕ → List ℕ → List (List ℕ)
split_on b [] = [] ∷ []
split_on b (x ∷ s) = cond (eqb x b) ([] ∷ split_on b s) (on_first x (split_on b s))

-- the lines of a file, each with the LF that ends it; only the last can lack one
unfoldable pub lines : List ℕ → List (List ℕ)
lines [] = []
lines (x ∷ s) = cond (eqb x 10) ((x ∷ []) ∷ lines s) (on_first x (lines s))

-- the line has its LF
unfoldable pub ended : List ℕ → Bool
ended l = eqb (get_or l (length l - 1) 0) 10

-- its fields: the parts between tabs of all but its last byte
unfoldable pub fields : List ℕ → List (List ℕ)
fields l = split_on 9 (take (length l - 1) l)

-- field number i, from 0
abbrev pub field : List (List ℕ) → ℕ → List ℕ
field fs i = get_or fs i []

-- each part behind a byte b
unfoldable pub behind : ℕ → List (List ℕ) → List ℕ
behind b [] = []
behind b (w ∷ ws) = b ∷ (w ++ behind b ws)

-- the parts with a byte b between two of them
unfoldable pub parted : ℕ → List (List ℕ) → List ℕ
parted b [] = []
parted b (w ∷ ws) = w ++ behind b ws

-- the line of these fields, with its LF
unfoldable pub line_of : List (List ℕ) → List ℕ
line_of fs = parted 9 fs ++ bytes "\n"
