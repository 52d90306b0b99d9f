-- A condition picked by its number: what its test needs, and that it is the definition's.
-- Assumes nothing.
use Prim.Native.Nat.{ℕ, ◌+◌, ◌^◌, ◌<◌, ◌≤◌}
use mathlib.Core.Path.{◌≡◌, refl, sym, ◌∙◌, ap, subst}
use mathlib.Core.Bool.{Bool, true}
use mathlib.Core.List.{List}
use native.Mathlib.Omega.{arith}
use lib.Dec.{leb}
use lib.ListN.{length, get_or}
use Rattle.std.proofs.Common.{map}
use Rattle.std.proofs.lemmas.List.{length-map, take_all}
use Rattle.rules.specs.Plan.{Header, Activity, Schedule}
use Rattle.rules.specs.Tests.{total, every}
use Rattle.rules.specs.Conditions.{condition_count, all_conditions, conditions, meets}
use Rattle.rules.specs.Outcomes.{starts}
use Rattle.rules.specs.WellFormed.{HeaderFormed}
use Rattle.rules.specs.Warmup.{warmup, warmup_at}
use Rattle.rules.specs.MeetsW.{allowed, meets_w}
use Rattle.rules.specs.MeetsD.{ended_by, meets_d}
use Rattle.rules.specs.MeetsV.{total_volume, volume_kept, meets_v}
use Rattle.rules.specs.MeetsH.{meets_h}
use Rattle.activity.specs.View.{window_of, number_of, header_view, activity_view}
use Rattle.activity.specs.declared.Header.{Header as HeaderStruct}
use Rattle.activity.specs.declared.Activity.{Activity as ActivityStruct}
use Rattle.sets.specs.Sets.{bit_of}
use Rattle.sets.specs.Table.{Marked, Markable}
use Rattle.sets.proofs.Bits.{bit_is}
use Rattle.sets.proofs.Marking.{same_marked}
use Rattle.placed.specs.declared.row.Row.{Row}
use Rattle.placed.specs.Tables.{engines_at, peak_at, draw_at, volume_at, volumes_in}
use Rattle.placed.specs.Held.{TicksAt, AmountsAt, Rows}
use Rattle.placed.specs.Bounds.{AmountsBounded}
use Rattle.placed.proofs.Rows.{rows_map, volumes_are}
use Rattle.placed.proofs.Bounding.{amounts_beside}
use Rattle.load.specs.Clear.{fits, clear_for}
use Rattle.load.specs.Loads.{load_in, sharing}
use Rattle.load.proofs.Meets.{units_meet, engines_meet, peaks_meet}
use Rattle.state.specs.State.{state_met}
use Rattle.state.proofs.StateMeets.{state_meets}
use Rattle.charge.specs.Charge.{drawn_in, kept_by}
use Rattle.charge.proofs.Charged.{charge_kept_lem}
use Rattle.trial.specs.Trial.{kept_at}
use Rattle.trial.proofs.ConditionB.{charge_meets}
use Rattle.direct.specs.Ended.{ready_from}
use Rattle.conditions.specs.Ready.{Beside}
use Rattle.direct.proofs.Ended.{ready_is}

-- what condition number k marks is what condition number c does where c is k
pub picked : (h : Header) (placed : Schedule) (a : Activity) (c k by n : ℕ) (old new : List ℕ) (test : ℕ → Bool) → c < condition_count → c ≡ k → by ≡ bit_of c → ((s : ℕ) → s < n → test s ≡ meets h placed a k s) → Marked test by n old new → Marked (meets h placed a c) (2 ^ c) n old new
picked h placed a c k by n old new test l e b f m =
    subst (λ (x : ℕ). Marked (meets h placed a c) x n old new) (b ∙ bit_is c l)
    (same_marked (meets h placed a c) by test n old new (λ s j. f s j ∙ ap (λ (x : ℕ). meets h placed a x s) (sym e)) m)

-- what the tests need
pub record Needs (h : HeaderStruct) (a : ActivityStruct) (rows : List Row) (n count : ℕ) : Type 0 where
  pub few : n < 64
  pub amounts : AmountsBounded rows (n + 1)
  pub header : HeaderFormed (header_view h)
  pub kept : kept_by h (drawn_in h rows n) ≡ true
  -- the candidate lasts at least a tick, and its last start ends with the plan
  pub lasts : 1 ≤ a.duration
  pub count_few : count + a.duration ≤ 4097
  pub count_end : count + a.duration ≤ h.horizon + 1
  pub markable : (by : ℕ) (table : List ℕ) → by ≤ all_conditions → count ≤ length table → ((k : ℕ) → get_or table k 0 ≤ all_conditions) → Markable by count table

module _ (h : HeaderStruct) (a : ActivityStruct) (rows : List Row) (n count : ℕ) (e : count ≡ starts (header_view h) (activity_view a)) (placed : Schedule) (B : Beside h a rows n placed) where
  amounts_ok : AmountsBounded rows (n + 1)
  amounts_ok = amounts_beside (header_view h) rows n placed B.held B.reached (activity_view a) B.row B.candidate

  lasts : 1 ≤ a.duration
  unfolding activity_view
  lasts = B.candidate.duration.0

  count_end : count + a.duration ≤ h.horizon + 1
  unfolding starts header_view activity_view
  count_end = omega (arith, B.candidate.duration.1)

  count_few : count + a.duration ≤ 4097
  unfolding header_view
  count_few = omega (arith, count_end, B.reached.header.horizon.1)

  markable : (by : ℕ) (table : List ℕ) → by ≤ all_conditions → count ≤ length table → ((k : ℕ) → get_or table k 0 ≤ all_conditions) → Markable by count table
  markable by table b l f = record { few = omega (arith, lasts, count_few); long = l; free = λ k. omega (arith, f k) }

  charged : Rows (λ i x. TicksAt (header_view h) rows i x × AmountsAt rows i x.activity) n placed
  charged = rows_map _ _ n placed (λ i x k m r. (r.ticks_say, r.row.amounts_say)) B.held

  kept_ok : kept_by h (drawn_in h rows n) ≡ true
  kept_ok = charge_kept_lem h rows n placed charged ∙ B.reached.kept.charge

  pub needs : Needs h a rows n count
  needs = record { few = B.few; amounts = amounts_ok; header = B.reached.header; kept = kept_ok; lasts = lasts; count_few = count_few; count_end = count_end; markable = markable }

  -- ---- each test is its condition
  ends : (s : ℕ) → s < count → s + (activity_view a).duration ≤ (header_view h).horizon
  unfolding activity_view header_view
  ends s k = omega (arith, count_end)

  pub windows_are : (s : ℕ) → s < count → allowed (map window_of a.windows) s ≡ meets (header_view h) placed (activity_view a) 0 s
  unfolding meets conditions meets_w activity_view
  windows_are s k = refl

  pub after_are : (s : ℕ) → s < count → leb (ready_from rows n (map number_of a.after) (length a.after)) s ≡ meets (header_view h) placed (activity_view a) 1 s
  unfolding meets conditions meets_d activity_view
  after_are s k =
      let ids = map number_of a.after in
      let long : length ids ≡ length a.after = length-map a.after number_of in
      ready_is (header_view h) rows n placed (rows_map _ _ n placed (λ i x k m r. r.ticks_say) B.held) ids (length a.after) s (omega (arith, count_few)) (omega arith)
      ∙ ap (λ (l : List ℕ). every (ended_by placed s) l) (take_all (length a.after) ids (omega arith))

  pub units_are : (s : ℕ) → s < count → clear_for (fits (load_in rows (sharing rows n) n) 0 0) a.duration s ≡ meets (header_view h) placed (activity_view a) 2 s
  unfolding meets conditions activity_view
  units_are s k = units_meet (header_view h) rows n placed (activity_view a) (rows_map _ _ n placed (λ i x k m r. (r.ticks_say, r.row.units_say)) B.held) B.row.units_say B.reached B.candidate s (ends s k)

  pub state_is : (s : ℕ) → s < count → state_met rows n a.duration s ≡ meets (header_view h) placed (activity_view a) 3 s
  unfolding meets conditions activity_view
  state_is s k = state_meets (header_view h) rows n placed (activity_view a) (rows_map _ _ n placed (λ i x k m r. (r.ticks_say, r.row.settings_say)) B.held) B.row.settings_say B.reached B.candidate s (ends s k)

  pub engines_are : (s : ℕ) → s < count → clear_for (fits (load_in rows (engines_at rows) n) (engines_at rows n) h.engines) a.duration s ≡ meets (header_view h) placed (activity_view a) 4 s
  unfolding meets conditions header_view activity_view
  engines_are s k = engines_meet (header_view h) rows n placed (activity_view a) charged B.row.amounts_say B.reached B.candidate s (ends s k)

  pub peaks_are : (s : ℕ) → s < count → clear_for (fits (load_in rows (peak_at rows) n) (peak_at rows n) h.peak) a.duration s ≡ meets (header_view h) placed (activity_view a) 5 s
  unfolding meets conditions header_view activity_view
  peaks_are s k = peaks_meet (header_view h) rows n placed (activity_view a) charged B.row.amounts_say B.reached B.candidate s (ends s k)

  pub charge_is : (s : ℕ) → s < count → kept_at h (drawn_in h rows n) a.duration (draw_at rows n) a.warm s ≡ meets (header_view h) placed (activity_view a) 6 s
  unfolding meets conditions activity_view
  charge_is s k = charge_meets h rows n placed charged (activity_view a) B.row.amounts_say s

  pub volume_is : (s : ℕ) → s < count → leb (volume_at rows n + volumes_in rows n) h.volume ≡ meets (header_view h) placed (activity_view a) 7 s
  unfolding meets conditions meets_v volume_kept total_volume total header_view
  volume_is s k = rw (B.row.amounts_say.volume, volumes_are rows n placed (rows_map _ _ n placed (λ i x k m r. r.row.amounts_say) B.held)) refl

  pub warmup_is : (s : ℕ) → s < count → leb (warmup_at h.minute s a.warm) s ≡ meets (header_view h) placed (activity_view a) 8 s
  unfolding meets conditions meets_h warmup header_view activity_view
  warmup_is s k = refl
