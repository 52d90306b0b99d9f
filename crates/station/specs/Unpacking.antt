-- What the functions of include/planner.h read off the answers of the exported functions, for every byte string s. (`planner_refusal_text` and `planner_letter` are words alone; `planner_place_of` reads a report, and `planner_all_but` makes a set.)
use Rattle.std.specs.Prelude.{ℕ, ◌^◌, ◌<◌, ◌≤◌, ◌≡◌, ◌≢◌, List, length}
use Rattle.rules.specs.Calls.{Terms, Filled, outcome_call, report_call, starts_call}
use Rattle.rules.specs.declared.Interval.{Interval}
use Rattle.packing.specs.Packing.{refusal_in, line_in, placed_in, written_in, outcome_in, count_in}
use Rattle.station.specs.Exported.{OutcomeExported, ReportExported, StartsExported}

-- room enough for every report, in bytes, and for every list of runs: PLANNER_REPORT_MOST, PLANNER_RUNS_MOST
abbrev pub report_most : ℕ
report_most = 1584

abbrev pub runs_most : ℕ
runs_most = 2048

-- unpacking r gives the answer t of outcome back; a refusal has no mark, and the bits above are 0
pub record OutcomeUnpacked (t : Terms) (r : ℕ) : Type 0 where
  pub answer : outcome_in r ≡ t
  pub refusal : refusal_in r ≡ t.number
  pub line : line_in r ≡ t.line
  pub unmarked : refusal_in r ≢ 0 → placed_in r ≡ 0
  pub bits : r < 2 ^ 41

-- the same of a call that fills a slice: as many elements are written as r says, and there is no mark
pub record CountUnpacked {A : Type 0} (f : Filled A) (r : ℕ) : Type 0 where
  pub answer : count_in r ≡ f.terms
  pub refusal : refusal_in r ≡ f.terms.number
  pub line : line_in r ≡ f.terms.line
  pub written : written_in r ≡ length f.written
  pub bits : r < 2 ^ 40

pub record Unpacking (s : List ℕ) : Type 0 where
  pub outcome : (k r : ℕ) → OutcomeExported s k r → OutcomeUnpacked (outcome_call s k) r
  pub report : (lent after : List ℕ) (r : ℕ) → ReportExported s lent r after → CountUnpacked (report_call s (length lent)) r
  pub starts : (k m : ℕ) (lent after : List Interval) (r : ℕ) → StartsExported s k m lent r after → CountUnpacked (starts_call s k m (length lent)) r
  -- a slice of that room is never too short
  pub report_room : (room : ℕ) → report_most ≤ room → (report_call s room).terms.number ≢ 10
  pub starts_room : (k m room : ℕ) → runs_most ≤ room → (starts_call s k m room).terms.number ≢ 10
