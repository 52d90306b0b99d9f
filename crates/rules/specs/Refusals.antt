-- The refusals by their numbers (01, When the planner says no; 13: 02, [2]).
use Rattle.std.specs.Prelude.{ℕ, Result, Ok, Err}
use Rattle.rules.specs.Fields.{Read, value, fault}
use Rattle.rules.specs.declared.Fault.{Fault}
use Rattle.rules.specs.declared.Fault.TheVariants.{TooLong, NotFormed, Malformed, OutOfRange, TooMany, Repeated, Misplaced, NotRising, OutOfReach, NoRoom, NoPlace, NoSet, OutOfWindow}
use Rattle.rules.specs.declared.Refusal.{Refusal as RefusalStruct}

abbrev pub number_of : Fault → ℕ
number_of TooLong = 1
number_of NotFormed = 2
number_of Malformed = 3
number_of OutOfRange = 4
number_of TooMany = 5
number_of Repeated = 6
number_of Misplaced = 7
number_of NotRising = 8
number_of OutOfReach = 9
number_of NoRoom = 10
number_of NoPlace = 11
number_of NoSet = 12
number_of OutOfWindow = 13

-- a refusal: its number and line
pub record Refusal : Type 0 where
  pub number : ℕ
  pub line : ℕ

-- the refusal that the code holds as a fault and a line
unfoldable pub refusal_view : RefusalStruct → Refusal
refusal_view r = record { number = number_of r.fault; line = r.line }

-- what a function that reads answers, in the definitions' terms: the value, or the number of the fault
unfoldable pub read_as : {A B : Type 0} → (A → B) → Result A Fault → Read B
read_as view (Ok a) = value (view a)
read_as view (Err f) = fault (number_of f)
