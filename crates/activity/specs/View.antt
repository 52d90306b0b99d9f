-- The specification's value of each struct of the code.
use Rattle.std.specs.Prelude.{ℕ, map}
use Rattle.rules.specs.Plan.{Header, Window, Setting, Activity}
use Rattle.items.specs.declared.Item.{Item}
use Rattle.activity.specs.declared.Header.{Header as HeaderStruct}
use Rattle.activity.specs.declared.Activity.{Activity as ActivityStruct}

unfoldable pub header_view : HeaderStruct → Header
header_view h =
    record {
      horizon = h.horizon;
      minute = h.minute;
      capacity = h.capacity;
      floor = h.floor;
      first = h.first;
      rate = h.rate;
      handover = h.handover;
      engines = h.engines;
      peak = h.peak;
      volume = h.volume;
      heater = h.heater;
    }

-- an item as a window, as a setting and as a number
abbrev pub window_of : Item → Window
window_of i = record { from = i.first; preferred = i.second; to = i.third }

abbrev pub setting_of : Item → Setting
setting_of i = record { variable = i.first; value = i.second }

abbrev pub number_of : Item → ℕ
number_of i = i.first

unfoldable pub activity_view : ActivityStruct → Activity
activity_view a =
    record {
      id = a.id;
      priority = a.priority;
      duration = a.duration;
      preferred = a.preferred;
      windows = map window_of a.windows;
      after = map number_of a.after;
      units = map number_of a.units;
      needs = map setting_of a.needs;
      sets = map setting_of a.sets;
      engines = a.engines;
      peak = a.peak;
      draw = a.draw;
      volume = a.volume;
      warm = a.warm;
    }
