-- The test of S over the rows is condition S of the schedule that their rows say.
-- Assumes nothing.
use Prim.Native.Nat.{ℕ, zero, suc, ◌+◌, ◌≤◌, ◌<◌}
use mathlib.Core.Path.{◌≡◌, refl, sym, ap, ◌∙◌}
use mathlib.Core.Logic.{◌⊎◌, inl, inr}
use mathlib.Core.Bool.{Bool, true, false, cond, ◌&&◌, not}
use mathlib.Core.List.{List, [], ◌∷◌, Memᴰ}
use mathlib.Core.Option.{Option, none, some}
use native.Mathlib.Decide.{dec_lt}
use native.Mathlib.Omega.{arith}
use native.Mathlib.Nat.{not-suc-le-zero}
use lib.Dec.{leb, ltb, eqb, eqb-suc-zero, eqb-suc-suc}
use lib.ListN.{length}
use borrow.Author.Tests.{leb-true, leb-false, ltb-true, ltb-false, le-leb, lt-leb, lt-ltb, le-ltb, not-true, not-false}
use Rattle.rules.specs.Plan.{Header, Setting, Activity, Entry, Schedule, at, end}
use Rattle.rules.specs.Tests.{each, every}
use Rattle.rules.specs.Hold.{holds}
use Rattle.rules.specs.WellFormed.{SettingsFormed, ActivityFormed}
use Rattle.rules.specs.MeetsS.{Standing, given, over, standing, met, needs_kept, meets_s}
use Rattle.rules.proofs.Tests.{each_at, each_all, every_mem, and_left, and_right, and_both, both_ways}
use Rattle.rules.proofs.Every.{every_all}
use Rattle.rules.proofs.Local.{bool_ext, holds_of, holds_from, holds_till, met_by_edges}
use Rattle.placed.specs.declared.row.Row.{Row}
use Rattle.placed.specs.Tables.{start_at, end_at, set_at, need_variable_at, need_code_at}
use Rattle.placed.specs.Bounds.{never}
use Rattle.placed.specs.Held.{code_of, setting_at, TicksAt, SettingsAt, Rows, Reached}
use Rattle.placed.proofs.Rows.{row_at, row_of}
use Rattle.state.specs.declared.standing.StandingValue.{StandingValue}
use Rattle.state.specs.Standing.{later_value, standing_by}
use Rattle.state.specs.Own.{change_at, unmet_at, judged, own_met}
use Rattle.state.specs.Spoils.{can_spoil, spoils_from, spoil_at, spoilt_by, placed_met}
use Rattle.state.specs.State.{state_met}
use Rattle.state.proofs.Needs.{judged_none}
use Rattle.state.proofs.Added.{met_before, spoil_of, spoils_not, spoils_at, held_all, held_at}

-- ---- rows by their numbers
element_in : (xs : List Setting) (j : ℕ) → j < length xs → Memᴰ (setting_at xs j) xs
element_in [] j h = absurd (not-suc-le-zero h)
element_in (x ∷ xs) zero h = Memᴰ.head refl
element_in (x ∷ xs) (suc j) h = Memᴰ.tail (element_in xs j (omega arith))

every_number : (p : Setting → Bool) (xs : List Setting) → ((j : ℕ) → j < length xs → p (setting_at xs j) ≡ true) → every p xs ≡ true
unfolding every
every_number p [] f = refl
every_number p (x ∷ xs) f = and_both (f 0 (omega arith)) (every_number p xs (λ j h. f (suc j) (omega arith)))

-- ---- the value that stands
abbrev coded : Standing → StandingValue
coded b = record { since = b.since; code = suc b.value }

later_is : (e : Entry) (o : Option ℕ) (t : ℕ) (b : Standing) → later_value (end e) (code_of o) t (coded b) ≡ coded (over e o t b)
unfolding later_value over
later_is e none t b = refl
later_is e (some k) t b = rw (eqb-suc-zero k) (go (leb (end e) t && leb b.since (end e)))
  where
    go : (x : Bool) → cond x (record { since = end e; code = suc k }) (coded b) ≡ coded (cond x (record { since = end e; value = k }) b)
    go true = refl
    go false = refl

-- row i says the entry e
abbrev Said : Header → List Row → ℕ → Entry → Type 0
Said h rows i e = TicksAt h rows i e × SettingsAt rows i e.activity

stands_is : (h : Header) (rows : List Row) (v t : ℕ) → v < 8 → (n : ℕ) (placed : Schedule) → Rows (Said h rows) n placed → standing_by rows v t n ≡ coded (standing placed v t)
unfolding standing_by standing Rows
stands_is h rows v t k zero (e ∷ placed) r = elim r [ ]
stands_is h rows v t k (suc n) [] r = elim r [ ]
stands_is h rows v t k zero [] r = refl
stands_is h rows v t k (suc n) (e ∷ placed) r =
    (λ i. later_value (r.0.0.ends i) (r.0.1.sets v k i) t (stands_is h rows v t k n placed r.1 i))
    ∙ later_is e (given e.activity.sets v) t (standing placed v t)

-- ---- the needs of a row
module _ (rows : List Row) (i : ℕ) (a : Activity) (S : SettingsAt rows i a) (F : SettingsFormed a.needs) (j : ℕ) where
  module _ (k : j < length a.needs) where
    few : j < 4
    few = omega (arith, F.few)

    small : (setting_at a.needs j).variable < 8
    small = omega (arith, (F.in_range (setting_at a.needs j) (element_in a.needs j k)).0)

    variable_is : need_variable_at rows i j ≡ (setting_at a.needs j).variable
    variable_is = S.need_variables j few

    code_is : need_code_at rows i j ≡ suc (setting_at a.needs j).value
    code_is = S.need_codes j few ∙ ap (λ (b : Bool). cond b (suc (setting_at a.needs j).value) 0) (lt-ltb j (length a.needs) k)

  -- past its needs there is none
  code_none : j < 4 → length a.needs ≤ j → need_code_at rows i j ≡ 0
  code_none l k = S.need_codes j l ∙ ap (λ (b : Bool). cond b (suc (setting_at a.needs j).value) 0) (le-ltb j (length a.needs) k)

-- ---- the first tick of effect that spoils
spoil_is : (o : Option ℕ) (value since : ℕ) → cond (can_spoil (code_of o) (suc value)) since never ≡ spoil_of o value since
unfolding can_spoil
spoil_is none value since = refl
spoil_is (some k) value since = rw (eqb-suc-zero k, eqb-suc-zero value, eqb-suc-suc k value) (go (eqb k value))
  where
    go : (x : Bool) → cond (not x) since never ≡ cond x never since
    go true = refl
    go false = refl

spoil_none : (code since : ℕ) → cond (can_spoil code 0) since never ≡ never
unfolding can_spoil
spoil_none code since = go (eqb code 0)
  where
    go : (x : Bool) → cond (not x && false && not x) since never ≡ never
    go true = refl
    go false = refl

module _ (h : Header) (rows : List Row) (n : ℕ) (placed : Schedule) (a : Activity) (held : Rows (Said h rows) n placed) (S : SettingsAt rows n a) (R : Reached h placed) (F : ActivityFormed h a) where
  -- the value that stands of the variable of a need
  stands : (i : ℕ) (b : Activity) → SettingsAt rows i b → SettingsFormed b.needs → (j : ℕ) → j < length b.needs → (t : ℕ) → standing_by rows (need_variable_at rows i j) t n ≡ coded (standing placed (setting_at b.needs j).variable t)
  stands i b T G j k t =
      ap (λ v. standing_by rows v t n) (variable_is rows i b T G j k)
      ∙ stands_is h rows (setting_at b.needs j).variable t (small rows i b T G j k) n placed held

  module _ (s : ℕ) (in_time : s + a.duration ≤ h.horizon) where
    abbrev c : Entry
    c = at a s

    abbrev effect : ℕ
    effect = s + a.duration

    -- ---- the candidate's needs
    abbrev unmet : ℕ → ℕ → Bool
    unmet j k = unmet_at rows n j s effect k

    module _ (j : ℕ) (l : j < length a.needs) where
      abbrev need : Setting
      need = setting_at a.needs j

      met_is : (t : ℕ) → eqb (standing_by rows (need_variable_at rows n j) t n).code (need_code_at rows n j) ≡ met placed t need
      unfolding met
      met_is t = (λ i. eqb (stands n a S F.needs j l t i).code (code_is rows n a S F.needs j l i)) ∙ eqb-suc-suc (standing placed need.variable t).value need.value

      -- what the test says of a tick that the candidate holds
      judged_at : (t k : ℕ) → change_at rows n k s ≡ t → holds t c ≡ true → unmet j k ≡ false → met placed t need ≡ true
      unfolding unmet_at
      judged_at t k e q f =
          not-false (met placed t need)
          (sym (rw (e, le-leb _ _ (holds_from t c q), lt-ltb _ _ (holds_till t c q)) (ap not (met_is t))) ∙ f)

      own_all : ((k : ℕ) → k < suc n → unmet j k ≡ false) → (t : ℕ) → holds t c ≡ true → met placed t need ≡ true
      unfolding change_at
      own_all f =
          met_by_edges placed c need
          (judged_at s n (rw (le-ltb n n (omega arith)) refl) (holds_of s c (omega arith) (omega (arith, F.duration))) (f n (omega arith)))
          (λ d m q.
          let w = row_of (Said h rows) n placed held d m in
          judged_at (end d) w.0 (rw (lt-ltb w.0 n w.1) w.2.0.ends) q (f w.0 (omega (arith, w.1))))

      own_none : ((t : ℕ) → holds t c ≡ true → met placed t need ≡ true) → (k : ℕ) → unmet j k ≡ false
      unfolding unmet_at
      own_none f k = go (leb s (change_at rows n k s)) refl (ltb (change_at rows n k s) effect) refl
        where
          go : (x : Bool) → leb s (change_at rows n k s) ≡ x → (y : Bool) → ltb (change_at rows n k s) effect ≡ y → x && y && not (eqb (standing_by rows (need_variable_at rows n j) (change_at rows n k s) n).code (need_code_at rows n j)) ≡ false
          go true p true q = ap not (met_is (change_at rows n k s) ∙ f (change_at rows n k s) (holds_of _ c (leb-true _ _ p) (ltb-true _ _ q)))
          go true p false q = refl
          go false p y q = refl

      judged_is : judged rows n j ≡ suc n
      unfolding judged
      judged_is = rw (code_is rows n a S F.needs j l, eqb-suc-zero) refl

    abbrev holds_all : Entry → Setting → Bool
    holds_all e m = each (λ i. met (c ∷ placed) (e.start + i) m) e.activity.duration

    abbrev own : Bool
    own = own_met rows n s effect

    own_yes : own ≡ true → every (holds_all c) a.needs ≡ true
    unfolding own_met
    own_yes q =
        every_number (holds_all c) a.needs
        (λ j l. held_all (c ∷ placed) c (need j l)
        (λ t r.
        met_before placed c t (need j l) (holds_till t c r)
        ∙ own_all j l (λ k m. not-true _ (each_at (λ k. not (unmet j k)) (judged rows n j) k (each_at _ 4 j q (few rows n a S F.needs j l)) (omega (arith, judged_is j l)))) t r))

    own_no : every (holds_all c) a.needs ≡ true → own ≡ true
    unfolding own_met
    own_no q = each_all _ 4 (λ j l. each_all _ (judged rows n j) (λ k m. ap not (go j l k m (dec_lt j (length a.needs)))))
      where
        go : (j : ℕ) → j < 4 → (k : ℕ) → k < judged rows n j → Dec (j < length a.needs) → unmet j k ≡ false
        go j l k m (yes g) =
            own_none j g
            (λ t r. sym (met_before placed c t (need j g) (holds_till t c r)) ∙ held_at (c ∷ placed) c (need j g) (every_mem (holds_all c) a.needs q (element_in a.needs j g)) t r)
            k
        go j l k m (no g) = absurd (omega (arith, judged_none rows n j (code_none rows n a S F.needs j l (omega arith))))

    -- ---- the needs of the placed
    abbrev spoilt : ℕ → ℕ → Bool
    spoilt p j = spoilt_by (spoil_at rows n p j) (end_at rows p) effect

    module _ (p : ℕ) (e : Entry) (m : Memᴰ e placed) (E : Said h rows p e) (j : ℕ) where
      module _ (l : j < length e.activity.needs) where
        abbrev want : Setting
        want = setting_at e.activity.needs j

        formed : SettingsFormed e.activity.needs
        formed = (R.formed e m).needs

        from_is : spoil_at rows n p j ≡ spoil_of (given a.sets want.variable) want.value (standing placed want.variable e.start).since
        unfolding spoils_from
        from_is =
            (λ i. cond (can_spoil (set_is i) (code_is rows p e.activity E.1 formed j l i)) (since_is i) never)
            ∙ spoil_is (given a.sets want.variable) want.value (standing placed want.variable e.start).since
          where
            set_is : set_at rows n (need_variable_at rows p j) ≡ code_of (given a.sets want.variable)
            set_is = ap (set_at rows n) (variable_is rows p e.activity E.1 formed j l) ∙ S.sets want.variable (small rows p e.activity E.1 formed j l)

            since_is : (standing_by rows (need_variable_at rows p j) (start_at rows p) n).since ≡ (standing placed want.variable e.start).since
            since_is = ap (λ t. (standing_by rows (need_variable_at rows p j) t n).since) E.0.start ∙ ap (λ (b : StandingValue). b.since) (stands p e.activity E.1 formed j l e.start)

        -- beside the placed it is met
        kept : (t : ℕ) → holds t e ≡ true → met placed t want ≡ true
        unfolding needs_kept
        kept = held_at placed e want (every_mem (λ w. each (λ i. met placed (e.start + i) w) e.activity.duration) e.activity.needs (every_mem (λ e. every (λ w. each (λ i. met placed (e.start + i) w) e.activity.duration) e.activity.needs) placed R.kept.needs m) (element_in e.activity.needs j l))

        placed_all : spoilt p j ≡ false → (t : ℕ) → holds t e ≡ true → met (c ∷ placed) t want ≡ true
        unfolding spoilt_by
        placed_all f = spoils_not placed c e want kept (go (leb (spoil_at rows n p j) effect) refl (ltb effect (end_at rows p)) refl f)
          where
            go : (x : Bool) → leb (spoil_at rows n p j) effect ≡ x → (y : Bool) → ltb effect (end_at rows p) ≡ y → x && y ≡ false → (end c < spoil_of (given a.sets want.variable) want.value (standing placed want.variable e.start).since) ⊎ (end e ≤ end c)
            go true q true r f = absurd (both_ways refl f)
            go true q false r f = inr (omega (arith, ltb-false effect (end_at rows p) r, E.0.ends))
            go false q y r f = inl (omega (arith, leb-false (spoil_at rows n p j) effect q, from_is))

        placed_none : ((t : ℕ) → holds t e ≡ true → met (c ∷ placed) t want ≡ true) → spoilt p j ≡ false
        unfolding spoilt_by
        placed_none f = go (leb (spoil_at rows n p j) effect) refl (ltb effect (end_at rows p)) refl
          where
            go : (x : Bool) → leb (spoil_at rows n p j) effect ≡ x → (y : Bool) → ltb effect (end_at rows p) ≡ y → x && y ≡ false
            go true q true r =
                let w = spoils_at placed c e want kept (omega (arith, (R.formed e m).duration)) (omega (arith, R.in_time e m, R.header.horizon)) (omega (arith, leb-true (spoil_at rows n p j) effect q, from_is)) (omega (arith, ltb-true effect (end_at rows p) r, E.0.ends)) in
                absurd (both_ways (f w.0 w.1) w.2)
            go true q false r = refl
            go false q y r = refl

      -- past its needs an activity has none to spoil
      past_none : j < 4 → length e.activity.needs ≤ j → spoilt p j ≡ false
      unfolding spoilt_by spoils_from
      past_none l k =
          rw (code_none rows p e.activity E.1 (R.formed e m).needs j l k, spoil_none, lt-leb never effect (omega (arith, R.header.horizon))) refl

    abbrev rest : Bool
    rest = placed_met (spoil_at rows n) (end_at rows) n effect

    rest_yes : rest ≡ true → every (λ e. every (holds_all e) e.activity.needs) placed ≡ true
    unfolding placed_met
    rest_yes q =
        every_all _ placed
        (λ e m.
        let w = row_of (Said h rows) n placed held e m in
        every_number (holds_all e) e.activity.needs
        (λ j l. held_all (c ∷ placed) e (setting_at e.activity.needs j)
        (placed_all w.0 e m w.2 j l (not-true _ (each_at (λ j. not (spoilt w.0 j)) 4 j (each_at (λ p. each (λ j. not (spoilt p j)) 4) n w.0 q w.1) (few rows w.0 e.activity w.2.1 (R.formed e m).needs j l))))))

    rest_no : every (λ e. every (holds_all e) e.activity.needs) placed ≡ true → rest ≡ true
    unfolding placed_met
    rest_no q =
        each_all _ n
        (λ p k.
        let w = row_at (Said h rows) n placed held p k in
        each_all _ 4 (λ j l. ap not (go p w.0 w.1 w.2 j l (dec_lt j (length w.0.activity.needs)))))
      where
        go : (p : ℕ) (e : Entry) → Memᴰ e placed → Said h rows p e → (j : ℕ) → j < 4 → Dec (j < length e.activity.needs) → spoilt p j ≡ false
        go p e m E j l (yes g) =
            placed_none p e m E j g
            (held_at (c ∷ placed) e (setting_at e.activity.needs j) (every_mem (holds_all e) e.activity.needs (every_mem (λ e. every (holds_all e) e.activity.needs) placed q m) (element_in e.activity.needs j g)))
        go p e m E j l (no g) = past_none p e m E j l (omega arith)

    state_is : state_met rows n a.duration s ≡ meets_s h placed a s
    unfolding state_met meets_s needs_kept every
    state_is =
        bool_ext _ _
        (λ q. and_both (own_yes (and_left _ _ q)) (rest_yes (and_right own rest q)))
        (λ q. and_both (own_no (and_left _ _ q)) (rest_no (and_right (every (holds_all c) a.needs) _ q)))

pub state_meets : (h : Header) (rows : List Row) (n : ℕ) (placed : Schedule) (a : Activity)
    → Rows (λ i e. TicksAt h rows i e × SettingsAt rows i e.activity) n placed
    → SettingsAt rows n a → Reached h placed → ActivityFormed h a
    → (s : ℕ) → s + a.duration ≤ h.horizon → state_met rows n a.duration s ≡ meets_s h placed a s
state_meets = state_is
