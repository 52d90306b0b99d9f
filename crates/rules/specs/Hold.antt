-- The ticks that an entry of a schedule holds (01: "holds the ticks s to s + d − 1").
use Rattle.std.specs.Prelude.{ℕ, Bool, ◌&&◌, leb, ltb}
use Rattle.rules.specs.Plan.{Entry, end}

unfoldable pub holds : ℕ → Entry → Bool
holds t e = leb e.start t && ltb t (end e)
