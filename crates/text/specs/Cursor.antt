-- A definition at a cursor, after what has been read: what private functions and invariants cite.
use Rattle.std.specs.Prelude.{ℕ, ◌+◌, cond, not, ◌&&◌, List, ◌++◌, map, leb, length, Option, Some, None}
use Rattle.rules.specs.Tests.{every}
use Rattle.rules.specs.Number.{is_digit, value_from}
use Rattle.rules.specs.Fields.{Read, value, fault, Kind, rising}
use Rattle.rules.specs.Refusals.{number_of}
use Rattle.rules.specs.declared.Fault.{Fault}

-- the value of the digits of s, read after digits whose value is v; None where a byte is no digit
unfoldable pub digits_from : ℕ → List ℕ → Option ℕ
digits_from v s = cond (every is_digit s) (Some (value_from v s)) None

-- the fault that was found before, or else what is read
unfoldable pub found : {A : Type 0} → Option Fault → Read A → Read A
found None r = r
found (Some f) r = fault (number_of f)

-- the items, where those of `before` were read and a fault 4 or 8 may have been found; the next is least or more
unfoldable pub items_from : {A : Type 0} → Kind A → Option Fault → ℕ → List A → List (List ℕ) → Read (List A)
items_from k before_fault least before parts =
    cond (not (every k.is_item parts)) (fault 3)
    (cond (not (every k.in_range (map k.item_of parts))) (fault 4)
    (found before_fault
    (cond (not (rising k.low k.high least (map k.item_of parts) && leb (length before + length parts) k.most)) (fault 8)
    (cond (not (every k.in_window (before ++ map k.item_of parts))) (fault 13)
    (value (before ++ map k.item_of parts))))))
