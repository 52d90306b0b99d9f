-- How reading goes on from field to field.
-- Assumes nothing.
use mathlib.Core.Path.{◌≡◌, refl}
use Prim.Native.Nat.{ℕ}
use lib.Seq.{drop-drop, get_or-drop}
use Rattle.rules.specs.Fields.{value, fault, ◌>>=◌, Read}
use Rattle.line.proofs.Lists.{windows_are, settings_are, numbers_are, mapped_value, mapped_fault}

-- a value goes on, a fault stays
pub value_goes_on : {A B : Type 0} (a : A) (next : A → Read B) → (value a >>= next) ≡ next a
unfolding ◌>>=◌
value_goes_on a next = refl

pub fault_stays : {A B : Type 0} (n : ℕ) (next : A → Read B) → (fault n >>= next) ≡ fault n
unfolding ◌>>=◌
fault_stays n next = refl

pub ruleset reading_on = (drop-drop, get_or-drop, value_goes_on, fault_stays)

pub ruleset lists_read = (windows_are, settings_are, numbers_are, mapped_value, mapped_fault)
