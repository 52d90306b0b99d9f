-- An activity line's fields after the word `act`, left to right (01, The plan file: "Every other line has 15 fields").
use Rattle.std.specs.Prelude.{ℕ, List}
use Rattle.rules.specs.Plan.{Header, Activity}
use Rattle.rules.specs.Lines.{field}
use Rattle.rules.specs.Fields.{Read, value, ◌>>=◌, number_field, list_field, numbers, window_kind, setting_kind}

unfoldable pub activity_of : Header → List (List ℕ) → Read Activity
activity_of h fs = do
  id ← number_field 0 65535 (field fs 1)
  priority ← number_field 0 65535 (field fs 2)
  duration ← number_field 1 h.horizon (field fs 3)
  preferred ← number_field 0 4095 (field fs 4)
  windows ← list_field window_kind (field fs 5)
  after ← list_field (numbers 65535 8) (field fs 6)
  units ← list_field (numbers 31 32) (field fs 7)
  needs ← list_field setting_kind (field fs 8)
  sets ← list_field setting_kind (field fs 9)
  engines ← number_field 0 64 (field fs 10)
  peak ← number_field 0 1000000 (field fs 11)
  draw ← number_field 0 1000000 (field fs 12)
  volume ← number_field 0 1000000000 (field fs 13)
  warm ← number_field 0 1 (field fs 14)
  value (record {
    id = id;
    priority = priority;
    duration = duration;
    preferred = preferred;
    windows = windows;
    after = after;
    units = units;
    needs = needs;
    sets = sets;
    engines = engines;
    peak = peak;
    draw = draw;
    volume = volume;
    warm = warm;
  })
