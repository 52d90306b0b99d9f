-- The forms of an activity's lists.
use Rattle.std.specs.Prelude.{ℕ, true, false}
use Rattle.text.specs.declared.list.Form.{Form}
use Rattle.text.specs.declared.list.Shape.TheVariants.{One, Two, Three}

abbrev pub window_form : Form
window_form = record { shape = Three 58; most_first = 4095; most_others = 4095; spans = true; most = 4 }

abbrev pub number_form : ℕ → ℕ → Form
number_form hi most = record { shape = One; most_first = hi; most_others = hi; spans = false; most = most }

abbrev pub setting_form : Form
setting_form = record { shape = Two 61; most_first = 7; most_others = 255; spans = false; most = 4 }
