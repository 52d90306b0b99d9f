-- What a plan file is explained as: the text of its refusal, or of its places.
use Rattle.std.specs.Prelude.{ℕ, ◌≡◌, List, length}
use Rattle.rules.specs.Reading.{Reading, accepted, refused, reading}
use Rattle.rules.specs.Calls.{slice_after}
use Rattle.wording.specs.Writing.{part}
use Rattle.refusal.specs.Refused.{refused_text}
use Rattle.explanation.specs.Places.{accepted_text}

unfoldable pub explained_as : List ℕ → Reading → List ℕ
explained_as s (accepted p) = accepted_text p
explained_as s (refused r) = refused_text s r

unfoldable pub explained : List ℕ → List ℕ
explained s = explained_as s (reading s)

-- the call: the part of the text from byte `from` on that fits is written to the front of the lent slice, and its length answered
pub record ExplainCalled (s : List ℕ) (from : ℕ) (lent : List ℕ) (r : ℕ) (after : List ℕ) : Type 0 where
  pub count : r ≡ length (part from (length lent) (explained s))
  pub slice : after ≡ slice_after (part from (length lent) (explained s)) lent
