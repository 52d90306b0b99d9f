-- What is placed as the code holds it: the entry of each placed activity is a row of numbers, by place. The row behind them is the candidate's, which has no ticks yet.
use Rattle.std.specs.Prelude.{ℕ, zero, suc, ◌+◌, Bool, false, List, [], get_or}
use lib.Dec.{lit<}
use Rattle.placed.specs.declared.need.Need.{Need}
use Rattle.placed.specs.declared.row.Row.{Row}

-- the need and the row of nothing, which stand beyond the end of a list
abbrev pub no_need : Need
no_need = record { variable = 0; code = 0; known = lit< tt }

abbrev pub no_row : Row
no_row = record { id = 0; heat = 0; start = 0; end = 0; engines = 0; peak = 0; draw = 0; volume = 0; sets = []; needs = []; units = [] }

-- row i
abbrev pub row_in : List Row → ℕ → Row
row_in rows i = get_or rows i no_row

-- when it heats, starts and ends
abbrev pub id_at : List Row → ℕ → ℕ
id_at rows i = (row_in rows i).id

abbrev pub heat_at : List Row → ℕ → ℕ
heat_at rows i = (row_in rows i).heat

abbrev pub start_at : List Row → ℕ → ℕ
start_at rows i = (row_in rows i).start

abbrev pub end_at : List Row → ℕ → ℕ
end_at rows i = (row_in rows i).end

-- what it loads
abbrev pub engines_at : List Row → ℕ → ℕ
engines_at rows i = (row_in rows i).engines

abbrev pub peak_at : List Row → ℕ → ℕ
peak_at rows i = (row_in rows i).peak

abbrev pub draw_at : List Row → ℕ → ℕ
draw_at rows i = (row_in rows i).draw

abbrev pub volume_at : List Row → ℕ → ℕ
volume_at rows i = (row_in rows i).volume

-- the volumes of the first n rows, summed
unfoldable pub volumes_in : List Row → ℕ → ℕ
volumes_in rows zero = 0
volumes_in rows (suc n) = volume_at rows n + volumes_in rows n

-- what its sets give each of the eight variables, and its four needs. Values stand as codes: one more than the value, and 0 for none
abbrev pub set_at : List Row → ℕ → ℕ → ℕ
set_at rows i v = get_or (row_in rows i).sets v 0

abbrev pub need_variable_at : List Row → ℕ → ℕ → ℕ
need_variable_at rows i j = (get_or (row_in rows i).needs j no_need).variable

abbrev pub need_code_at : List Row → ℕ → ℕ → ℕ
need_code_at rows i j = (get_or (row_in rows i).needs j no_need).code

-- whether it has the unit u
abbrev pub unit_at : List Row → ℕ → ℕ → Bool
unit_at rows i u = get_or (row_in rows i).units u false
