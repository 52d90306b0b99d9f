-- What each refusal of a file, 1 to 9 and 13, says of it, in plain facts: what is wrong, and that all that is checked before it is right (01, When the planner says no; 13: 02, [2]).
use Rattle.std.specs.Prelude.{ℕ, zero, suc, ◌<◌, ◌≤◌, ◌≡◌, ◌≢◌, pos, length, get_or, ◌<ℤ◌}
use mathlib.Core.List.{List, [], Memᴰ}
use Rattle.rules.specs.Bytes.{bytes}
use Rattle.rules.specs.Plan.{Header, Activity, Plan, most_activities}
use Rattle.rules.specs.Lines.{lines, fields}
use Rattle.rules.specs.MeetsB.{charge}
use Rattle.rules.specs.Outcomes.{no_activity, activity_at}
use Rattle.rules.specs.Print.{header_text, activity_text, plan_text}
use Rattle.rules.specs.WellFormed.{HeaderFormed, ActivityFormed, WellFormed}
use Rattle.rules.specs.Forms.{LineFormed, LineFault, FieldsFault, plan_forms, act_forms}

-- line n of the file s, counted from 1
abbrev pub line_at : List ℕ → ℕ → List ℕ
line_at s zero = []
line_at s (suc i) = get_or (lines s) i []

-- the file begins with the lines of the header h and of the activities xs, in which nothing is wrong
pub record Begins (s : List ℕ) (h : Header) (xs : List Activity) : Type 0 where
  pub header : HeaderFormed h
  pub header_line : header_text h ≡ line_at s 1
  pub few : length xs ≤ most_activities
  pub each : (i : ℕ) → i < length xs → ActivityFormed h (get_or xs i no_activity)
  pub activity_line : (i : ℕ) → i < length xs → activity_text (get_or xs i no_activity) ≡ line_at s (suc (suc i))
  pub ids : (i j : ℕ) → i < j → j < length xs → (get_or xs i no_activity).id ≢ (get_or xs j no_activity).id

-- the line l after those of the header h and the activities xs, refused with number k: "2, 5, then fields left to right, .. then 6"
pub data ActivityFault (h : Header) (xs : List Activity) (l : List ℕ) : ℕ → Type 0 where
  act_line : LineFault (bytes "act") 15 l → ActivityFault h xs l 2
  -- "65th activity line"
  line_65 : LineFormed (bytes "act") 15 l → length xs ≡ most_activities → ActivityFault h xs l 5
  act_field : {k : ℕ} → LineFormed (bytes "act") 15 l → length xs < most_activities → FieldsFault (act_forms h.horizon) (fields l) k → ActivityFault h xs l k
  -- "id of an earlier line"
  same_id : length xs < most_activities → (a : Activity) → ActivityFormed h a → activity_text a ≡ l → (i : ℕ) → i < length xs → (get_or xs i no_activity).id ≡ a.id → ActivityFault h xs l 6

-- each id in `after` at the places before n is that of an activity at an earlier place
abbrev pub Named : Plan → ℕ → Type 0
Named p n = (k id : ℕ) → k < n → Memᴰ id (activity_at p k).after → (j : ℕ) × (j < k) × ((activity_at p j).id ≡ id)

-- refusal number k, but for 1, at line n of the file s
pub data FileFault (s : List ℕ) : ℕ → ℕ → Type 0 where
  -- "empty file, line 1"
  empty : s ≡ [] → FileFault s 2 1
  plan_line : LineFault (bytes "plan") 12 (line_at s 1) → FileFault s 2 1
  plan_field : {k : ℕ} → LineFormed (bytes "plan") 12 (line_at s 1) → FieldsFault (plan_forms (fields (line_at s 1))) (fields (line_at s 1)) k → FileFault s k 1
  -- "Then lines in order"
  activity : {k : ℕ} (h : Header) (xs : List Activity) → Begins s h xs → suc (length xs) < length (lines s) → ActivityFault h xs (line_at s (suc (suc (length xs)))) k → FileFault s k (suc (suc (length xs)))
  -- 7: "`after` names no activity at an earlier place; its line", "least place first": place k has line i + 2
  no_earlier : (p : Plan) (i k id : ℕ) → Begins s p.header p.activities → plan_text p ≡ s → i < length p.activities → k < length p.activities → get_or p.activities i no_activity ≡ activity_at p k → Named p k → Memᴰ id (activity_at p k).after → ((j : ℕ) → j < k → (activity_at p j).id ≢ id) → FileFault s 7 (suc (suc i))
  -- 9: "c(T) with nothing placed is under the handover charge; line 0"
  not_reachable : (p : Plan) → WellFormed p → plan_text p ≡ s → charge p.header [] p.header.horizon <ℤ pos p.header.handover → FileFault s 9 0

-- refusal number k at line n of the file s: "1 comes first"
pub data Fault (s : List ℕ) : ℕ → ℕ → Type 0 where
  too_long : 60000 < length s → Fault s 1 0
  in_file : {k n : ℕ} → length s ≤ 60000 → FileFault s k n → Fault s k n
