-- The first line's fields after the word `plan`, left to right (01, The plan file: "The first line has 12 fields").
use Rattle.std.specs.Prelude.{ℕ, List}
use Rattle.rules.specs.Plan.{Header}
use Rattle.rules.specs.Lines.{field}
use Rattle.rules.specs.Fields.{Read, value, ◌>>=◌, number_field}

unfoldable pub header_of : List (List ℕ) → Read Header
header_of fs = do
  horizon ← number_field 1 4096 (field fs 1)
  minute ← number_field 0 1439 (field fs 2)
  capacity ← number_field 1 1000000000 (field fs 3)
  floor ← number_field 0 capacity (field fs 4)
  first ← number_field floor capacity (field fs 5)
  rate ← number_field 0 1000000 (field fs 6)
  handover ← number_field 0 capacity (field fs 7)
  engines ← number_field 0 64 (field fs 8)
  peak ← number_field 0 1000000 (field fs 9)
  volume ← number_field 0 1000000000 (field fs 10)
  heater ← number_field 0 1000000 (field fs 11)
  value (record {
    horizon = horizon;
    minute = minute;
    capacity = capacity;
    floor = floor;
    first = first;
    rate = rate;
    handover = handover;
    engines = engines;
    peak = peak;
    volume = volume;
    heater = heater;
  })
