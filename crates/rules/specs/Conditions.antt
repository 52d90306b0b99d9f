-- The nine conditions by number, and sets of them (01, Calls: "W 1, D 2, U 4, S 8, E 16, P 32, B 64, V 128, H 256, added").
use Rattle.std.specs.Prelude.{ℕ, suc, ◌-◌, ◌^◌, ◌/◌, ◌%◌, Bool, false, cond, ◌||◌, not, List, [], ◌∷◌, eqb, get_or}
use Rattle.rules.specs.Bytes.{bytes}
use Rattle.rules.specs.Plan.{Header, Activity, Schedule}
use Rattle.rules.specs.Tests.{each}
use Rattle.rules.specs.MeetsW.{meets_w}
use Rattle.rules.specs.MeetsD.{meets_d}
use Rattle.rules.specs.MeetsU.{meets_u}
use Rattle.rules.specs.MeetsS.{meets_s}
use Rattle.rules.specs.MeetsE.{meets_e}
use Rattle.rules.specs.MeetsP.{meets_p}
use Rattle.rules.specs.MeetsB.{meets_b}
use Rattle.rules.specs.MeetsV.{meets_v}
use Rattle.rules.specs.MeetsH.{meets_h}

-- how many conditions there are, and the set of them all
abbrev pub condition_count : ℕ
condition_count = 9

abbrev pub all_conditions : ℕ
all_conditions = 2 ^ condition_count - 1

-- a test of a candidate at a start, beside those placed
abbrev pub Condition : Type 0
Condition = Header → Schedule → Activity → ℕ → Bool

unfoldable pub conditions : List Condition
conditions = meets_w ∷ meets_d ∷ meets_u ∷ meets_s ∷ meets_e ∷ meets_p ∷ meets_b ∷ meets_v ∷ meets_h ∷ []

unfoldable pub condition_letters : List ℕ
condition_letters = bytes "WDUSEPBVH"

-- condition number c, from 0, at the start s
unfoldable pub meets : Header → Schedule → Activity → ℕ → ℕ → Bool
meets h placed a c s = get_or conditions c (λ h placed a s. false) h placed a s

-- the set m has condition number c
unfoldable pub has : ℕ → ℕ → Bool
has m c = eqb (m / 2 ^ c % 2) 1

-- the start s meets every condition of the set m
unfoldable pub meets_set : (ℕ → ℕ → Bool) → ℕ → ℕ → Bool
meets_set test m s = each (λ c. not (has m c) || test c s) condition_count

-- of the letters given, those of the set m, where the first letter is that of condition number c
unfoldable pub letters_from : ℕ → List ℕ → ℕ → List ℕ
letters_from c [] m = []
letters_from c (x ∷ xs) m = cond (has m c) (x ∷ letters_from (suc c) xs m) (letters_from (suc c) xs m)

-- the letters of the set m
unfoldable pub letters_of : ℕ → List ℕ
letters_of m = letters_from 0 condition_letters m
