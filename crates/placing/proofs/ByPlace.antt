-- What is placed grows place by place as document 01 says, and stays one that the conditions can be tested beside.
-- Assumes nothing.
use Prim.Native.Nat.{ℕ, ◌+◌, ◌<◌, ◌≤◌}
use mathlib.Core.Path.{◌≡◌, refl, sym, ◌∙◌, ap, subst}
use mathlib.Core.List.{List, [], ◌∷◌, Memᴰ}
use mathlib.Core.List.Memᴰ
use native.Mathlib.Numerals.{add-one}
use native.Mathlib.Omega.{arith}
use lib.IntN.{pos}
use lib.ListN.{length, get_or, set, take}
use lib.Seq.{get_or-set_same, get_or-set_other}
use lib.Signed.{◌≤ℤ◌}
use borrow.Author.Count.{below_more}
use Rattle.rules.specs.Plan.{Header, Activity, Entry, Schedule, at, end}
use Rattle.rules.specs.MeetsB.{charge}
use Rattle.rules.specs.WellFormed.{HeaderFormed, ActivityFormed}
use Rattle.rules.specs.Outcomes.{starts, activity_at, reply, added, placed, outcome}
use Rattle.rules.specs.Conditions.{meets}
use Rattle.rules.specs.Demand.{Right}
use Rattle.rules.specs.Runs.{runs_from}
use Rattle.rules.specs.Calls.{runs}
use Rattle.rules.specs.declared.Outcome.{Outcome}
use Rattle.rules.specs.declared.Outcome.TheVariants.{Placed, Refused}
use Rattle.rules.proofs.Answers.{replied}
use Rattle.rules.proofs.Kept.{none_kept, more_kept}
use Rattle.activity.specs.View.{header_view, activity_view}
use Rattle.activity.specs.declared.Activity.{Activity as ActivityStruct}
use Rattle.plan.specs.View.{plan_view}
use Rattle.plan.specs.declared.Plan.{Plan as PlanStruct}
use Rattle.plan.proofs.Places.{placeable}
use Rattle.sets.specs.Table.{Table}
use Rattle.placed.specs.declared.row.Row.{Row}
use Rattle.placed.specs.Written.{SameBelow}
use Rattle.placed.specs.Held.{CandidateAt, Held, Reached}
use Rattle.placed.proofs.Rows.{rows_none}
use Rattle.placed.proofs.Filling.{held_beside}
use Rattle.conditions.specs.Ready.{Beside}
use Rattle.schedule.specs.Search.{meets_in}
use Rattle.schedule.proofs.Tabled.{table_runs, first_runs}
use Rattle.placing.specs.declared.next.Placing.{Placing}
use Rattle.placing.specs.Places.{PlacedTo, TableAt}

-- a right answer's start, or its letters, are a small number
pub right_small : (h : Header) (ps : Schedule) (a : Activity) (o : Outcome) → h.horizon ≤ 4096 → Right h ps a o → ((s : ℕ) → o ≡ Placed s → s < 32768) × ((m : ℕ) → o ≡ Refused m → m < 32768)
right_small h ps a o l R = ((λ s e. omega (arith, (R.placed s e).valid.start)), (λ m e. omega (arith, (R.refused m e).small)))

-- ---- nothing placed, and one more rightly answered
reached_none : (h : Header) → HeaderFormed h → pos h.handover ≤ℤ charge h [] h.horizon → Reached h []
reached_none h F R = record { header = F; kept = none_kept h F R; formed = λ e m. absurd (Memᴰ.not-nil m); in_time = λ e m. absurd (Memᴰ.not-nil m) }

each_more : (P : Entry → Type 0) (e : Entry) (ps : Schedule) → P e → ((d : Entry) → Memᴰ d ps → P d) → (d : Entry) → Memᴰ d (e ∷ ps) → P d
each_more P e ps x f d (Memᴰ.head q) = subst P (sym q) x
each_more P e ps x f d (Memᴰ.tail m) = f d m

reached_more : (h : Header) (ps : Schedule) (a : Activity) (o : Outcome) → ActivityFormed h a → Right h ps a o → Reached h ps → Reached h (added o a ps)
unfolding added
reached_more h ps a (Placed s) F R K =
    let v = (R.placed s refl).valid in
    record {
      header = K.header;
      kept = more_kept h ps a s v K.kept;
      formed = each_more (λ e. ActivityFormed h e.activity) (at a s) ps F K.formed;
      in_time = each_more (λ e. end e ≤ h.horizon) (at a s) ps v.start K.in_time;
    }
reached_more h ps a (Refused m) F R K = K

-- the activity of a place is well-formed
pub formed : (p : PlanStruct) (k : ℕ) (a : ActivityStruct) → k < length (plan_view p).activities → activity_view a ≡ activity_at (plan_view p) k → ActivityFormed (header_view p.header) (activity_view a)
unfolding plan_view
formed p k a inside view = rw view ((placeable p).each k inside)

pub header_formed : (p : PlanStruct) → HeaderFormed (header_view p.header)
unfolding plan_view
header_formed p = (placeable p).header

module _ (p : PlanStruct) where
  pub placed_none : (x : Placing) → x.placed.count ≡ 0 → PlacedTo p 0 x
  unfolding placed
  placed_none x e =
      let G = placeable p in
      record {
        held = rw e (rows_none _);
        few = omega arith;
        reached = reached_none (plan_view p).header G.header G.reachable;
        answered = λ i h. absurd (omega arith);
      }

  -- ---- a candidate beside those placed at earlier places
  module _ (k : ℕ) (a : ActivityStruct) (x : Placing) (inside : k < length (plan_view p).activities) (view : activity_view a ≡ activity_at (plan_view p) k) (S : PlacedTo p k x) where
    -- its row is written behind theirs
    pub beside : (rows : List Row) (n : ℕ) → n ≡ x.placed.count → CandidateAt rows n (activity_view a) → SameBelow x.placed.count x.placed.rows rows → Beside p.header a rows n (placed (plan_view p) k)
    unfolding plan_view
    beside rows n e row same =
        record {
          few = omega (arith, S.few, inside, (placeable p).few);
          held = rw e (held_beside _ x.placed.rows rows x.placed.count _ same S.held);
          row = row;
          reached = S.reached;
          candidate = formed p k a inside view;
        }

    -- its answer is the outcome of the place
    outcome_is : (o : Outcome) → o ≡ reply (header_view p.header) (placed (plan_view p) k) (activity_view a) → o ≡ outcome (plan_view p) k
    unfolding outcome plan_view
    outcome_is o e = rw (← view) e

    -- which is right
    pub right : (o : Outcome) → o ≡ reply (header_view p.header) (placed (plan_view p) k) (activity_view a) → Right (header_view p.header) (placed (plan_view p) k) (activity_view a) o
    right o e = rw e (replied (header_view p.header) (placed (plan_view p) k) (activity_view a))

    pub placed_next : (o : Outcome) (y : Placing) → o ≡ reply (header_view p.header) (placed (plan_view p) k) (activity_view a) → y.placed.count ≤ x.placed.count + 1
        → Held (header_view p.header) y.placed.rows y.placed.count (added o (activity_view a) (placed (plan_view p) k)) → length x.answers ≡ 64 → y.answers ≡ set x.answers k o → PlacedTo p (k + 1) y
    unfolding placed plan_view
    placed_next o y e l H z q =
        let here : placed (plan_view p) (k + 1) ≡ added o (activity_view a) (placed (plan_view p) k) = rw (add-one, ← view, e) refl in
        record {
          held = rw here H;
          few = omega (arith, S.few);
          reached = rw here (reached_more (header_view p.header) (placed (plan_view p) k) (activity_view a) o (formed p k a inside view) (right o e) S.reached);
          answered =
              rw q
              (below_more (λ i. get_or (set x.answers k o) i (Placed 0) ≡ outcome (plan_view p) i) k
              (λ i h. get_or-set_other x.answers k i o (Placed 0) (omega arith) ∙ S.answered i h)
              (get_or-set_same x.answers k o (Placed 0) (omega (arith, inside, (placeable p).few)) ∙ outcome_is o e));
        }

    -- and its table is that of the place
    pub table_is : (table : List ℕ) → Table (meets (header_view p.header) (placed (plan_view p) k) (activity_view a)) (starts (header_view p.header) (activity_view a)) table → TableAt p k table
    unfolding plan_view
    table_is table T = rw (← view) T

-- the runs in the table of a place are the runs at that place
pub runs_are : (q : PlanStruct) (k : ℕ) (table : List ℕ) → TableAt q k table → (m n : ℕ) → n ≡ starts (plan_view q).header (activity_at (plan_view q) k) → runs_from (meets_in table m) 0 n ≡ runs (plan_view q) k m
unfolding runs
runs_are q k table T m n e = ap (runs_from (meets_in table m) 0) e ∙ table_runs _ _ table T m

-- and of its first n entries, as a list of their own
pub first_runs_are : (q : PlanStruct) (k : ℕ) (table : List ℕ) → TableAt q k table → (m n : ℕ) → n ≡ starts (plan_view q).header (activity_at (plan_view q) k) → n ≤ length table → runs_from (meets_in (take n table) m) 0 (length (take n table)) ≡ runs (plan_view q) k m
first_runs_are q k table T m n e long = first_runs n table long m ∙ runs_are q k table T m n e
