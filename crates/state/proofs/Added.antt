-- Laws of condition S with a candidate added: its own needs are those beside the placed, and its sets spoil a placed need exactly when they take effect in a range of ticks.
-- Assumes nothing.
use Prim.Native.Nat.{ℕ, ◌+◌, ◌-◌, ◌≤◌, ◌<◌, max}
use mathlib.Core.Path.{◌≡◌, refl, ap, ◌∙◌, subst}
use mathlib.Core.Logic.{◌⊎◌, inl, inr}
use mathlib.Core.Bool.{Bool, true, false, cond, ◌&&◌}
use mathlib.Core.List.{[], ◌∷◌}
use mathlib.Core.Option.{Option, none, some}
use native.Mathlib.Decide.{dec_le}
use native.Mathlib.Omega.{arith}
use lib.Dec.{leb, eqb}
use borrow.Author.Tests.{leb-true, leb-false, le-leb, lt-leb, eq-eqb, ne_eqb, eqb-true, eqb-false}
use Rattle.rules.specs.Plan.{Setting, Entry, Schedule, end}
use Rattle.rules.specs.Tests.{each}
use Rattle.rules.specs.Hold.{holds}
use Rattle.rules.specs.MeetsS.{Standing, given, over, standing, met}
use Rattle.rules.proofs.Tests.{each_at, each_all}
use Rattle.rules.proofs.Local.{holds_of, holds_from, holds_till}
use Rattle.placed.specs.Bounds.{never}

-- ---- the tick from which a value stands
over_since : (e : Entry) (k t : ℕ) (b : Standing) → (over e (some k) t b).since ≡ cond (leb (end e) t) (max (end e) b.since) b.since
unfolding over
over_since e k t b = go (leb (end e) t) (leb b.since (end e)) refl
  where
    go : (x y : Bool) → leb b.since (end e) ≡ y → (cond {A = Standing} (x && y) (record { since = end e; value = k }) b).since ≡ cond x (max (end e) b.since) b.since
    go true true q = omega (arith, leb-true b.since (end e) q)
    go true false q = omega (arith, leb-false b.since (end e) q)
    go false y q = refl

by_over : (e : Entry) (o : Option ℕ) (t : ℕ) (b : Standing) → b.since ≤ t → (over e o t b).since ≤ t
unfolding over
by_over e none t b h = h
by_over e (some k) t b h = rw (over_since e k t b) (go (leb (end e) t) refl)
  where
    go : (x : Bool) → leb (end e) t ≡ x → cond x (max (end e) b.since) b.since ≤ t
    go true q = omega (arith, leb-true (end e) t q)
    go false q = h

-- it is no later than the tick
pub since_by : (placed : Schedule) (v t : ℕ) → (standing placed v t).since ≤ t
unfolding standing
since_by [] v t = omega arith
since_by (e ∷ placed) v t = by_over e (given e.activity.sets v) t (standing placed v t) (since_by placed v t)

mono_over : (e : Entry) (o : Option ℕ) (t u : ℕ) (b d : Standing) → t ≤ u → b.since ≤ d.since → (over e o t b).since ≤ (over e o u d).since
unfolding over
mono_over e none t u b d l h = h
mono_over e (some k) t u b d l h = rw (over_since e k t b, over_since e k u d) (go (leb (end e) t) refl (leb (end e) u) refl)
  where
    go : (x : Bool) → leb (end e) t ≡ x → (y : Bool) → leb (end e) u ≡ y → cond x (max (end e) b.since) b.since ≤ cond y (max (end e) d.since) d.since
    go true q true r = omega arith
    go true q false r = omega (arith, leb-true (end e) t q, leb-false (end e) u r)
    go false q true r = omega arith
    go false q false r = h

-- it is no earlier at a later tick
pub since_later : (placed : Schedule) (v t u : ℕ) → t ≤ u → (standing placed v t).since ≤ (standing placed v u).since
unfolding standing
since_later [] v t u l = omega arith
since_later (e ∷ placed) v t u l = mono_over e (given e.activity.sets v) t u _ _ l (since_later placed v t u l)

-- ---- the value that stands with one entry more
over_not : (c : Entry) (o : Option ℕ) (t : ℕ) (b : Standing) → t < end c → over c o t b ≡ b
unfolding over
over_not c none t b h = refl
over_not c (some k) t b h = rw (lt-leb (end c) t h) refl

over_past : (c : Entry) (o : Option ℕ) (t : ℕ) (b : Standing) → end c < b.since → over c o t b ≡ b
unfolding over
over_past c none t b h = refl
over_past c (some k) t b h = rw (lt-leb b.since (end c) h) (go (leb (end c) t))
  where
    go : (x : Bool) → cond (x && false) (record { since = end c; value = k }) b ≡ b
    go true = refl
    go false = refl

module _ (placed : Schedule) (c : Entry) (t : ℕ) (n : Setting) where
  -- before its end
  pub met_before : t < end c → met (c ∷ placed) t n ≡ met placed t n
  unfolding met standing
  met_before h = ap (λ (x : Standing). eqb x.value n.value) (over_not c (given c.activity.sets n.variable) t (standing placed n.variable t) h)

  -- where a later set stands
  met_past : end c < (standing placed n.variable t).since → met (c ∷ placed) t n ≡ met placed t n
  unfolding met standing
  met_past h = ap (λ (x : Standing). eqb x.value n.value) (over_past c (given c.activity.sets n.variable) t (standing placed n.variable t) h)

  -- where it sets nothing
  met_none : given c.activity.sets n.variable ≡ none → met (c ∷ placed) t n ≡ met placed t n
  unfolding met standing over
  met_none e = rw e refl

  -- where it sets what is needed
  met_same : given c.activity.sets n.variable ≡ some n.value → met placed t n ≡ true → met (c ∷ placed) t n ≡ true
  unfolding met standing over
  met_same e q = rw e (go (leb (end c) t && leb (standing placed n.variable t).since (end c)))
    where
      go : (x : Bool) → eqb (cond {A = Standing} x (record { since = end c; value = n.value }) (standing placed n.variable t)).value n.value ≡ true
      go true = eq-eqb n.value n.value refl
      go false = q

  -- where its set stands with another value
  met_other : (k : ℕ) → given c.activity.sets n.variable ≡ some k → (k ≡ n.value → ⊥) → end c ≤ t → (standing placed n.variable t).since ≤ end c → met (c ∷ placed) t n ≡ false
  unfolding met standing over
  met_other k e f h l = rw (e, le-leb _ _ h, le-leb _ _ l) (ne_eqb k n.value f)

-- ---- a placed need
-- the first tick of effect at which a set spoils a need of `value`, where another set stands from `since` at the needing activity's start
abbrev pub spoil_of : Option ℕ → ℕ → ℕ → ℕ
spoil_of none value since = never
spoil_of (some k) value since = cond (eqb k value) never since

module _ (placed : Schedule) (c p : Entry) (n : Setting) (kept : (t : ℕ) → holds t p ≡ true → met placed t n ≡ true) where
  abbrev from : Option ℕ → ℕ
  from o = spoil_of o n.value (standing placed n.variable p.start).since

  -- a set that takes effect outside the range spoils nothing
  pub spoils_not : (end c < from (given c.activity.sets n.variable)) ⊎ (end p ≤ end c) → (t : ℕ) → holds t p ≡ true → met (c ∷ placed) t n ≡ true
  spoils_not w t q = go (given c.activity.sets n.variable) refl w
    where
      late : end c < (standing placed n.variable p.start).since → met (c ∷ placed) t n ≡ true
      late l = met_past placed c t n (omega (arith, since_later placed n.variable p.start t (holds_from t p q))) ∙ kept t q

      go : (o : Option ℕ) → given c.activity.sets n.variable ≡ o → (end c < from o) ⊎ (end p ≤ end c) → met (c ∷ placed) t n ≡ true
      go none e w = met_none placed c t n e ∙ kept t q
      go (some k) e (inr l) = met_before placed c t n (omega (arith, holds_till t p q)) ∙ kept t q
      go (some k) e (inl l) = same (eqb k n.value) refl l
        where
          same : (x : Bool) → eqb k n.value ≡ x → end c < cond x never (standing placed n.variable p.start).since → met (c ∷ placed) t n ≡ true
          same true r l = met_same placed c t n (e ∙ ap some (eqb-true k n.value r)) (kept t q)
          same false r l = late l

  -- one that takes effect in the range spoils the need at a tick that p holds
  pub spoils_at : p.start < end p → end p < never → from (given c.activity.sets n.variable) ≤ end c → end c < end p → (t : ℕ) × (holds t p ≡ true) × (met (c ∷ placed) t n ≡ false)
  spoils_at h m l k = go (given c.activity.sets n.variable) refl l
    where
      stands : (standing placed n.variable p.start).since ≤ end c → (standing placed n.variable (max p.start (end c))).since ≤ end c
      stands a = by (dec_le p.start (end c))
        where
          by : Dec (p.start ≤ end c) → (standing placed n.variable (max p.start (end c))).since ≤ end c
          by (yes g) = let z : end c ≡ max p.start (end c) = omega arith in subst (λ (u : ℕ). (standing placed n.variable u).since ≤ end c) z (since_by placed n.variable (end c))
          by (no g) = let z : p.start ≡ max p.start (end c) = omega arith in subst (λ (u : ℕ). (standing placed n.variable u).since ≤ end c) z a

      go : (o : Option ℕ) → given c.activity.sets n.variable ≡ o → from o ≤ end c → (t : ℕ) × (holds t p ≡ true) × (met (c ∷ placed) t n ≡ false)
      go none e w = absurd (omega arith)
      go (some i) e w = other (eqb i n.value) refl w
        where
          other : (x : Bool) → eqb i n.value ≡ x → cond x never (standing placed n.variable p.start).since ≤ end c → (t : ℕ) × (holds t p ≡ true) × (met (c ∷ placed) t n ≡ false)
          other true r w = absurd (omega arith)
          other false r w = (
            max p.start (end c),
            holds_of (max p.start (end c)) p (omega arith) (omega arith),
            met_other placed c (max p.start (end c)) n i e (eqb-false i n.value r) (omega arith) (stands w),
          )

-- ---- each tick that an entry holds
module _ (placed : Schedule) (e : Entry) (n : Setting) where
  pub held_all : ((t : ℕ) → holds t e ≡ true → met placed t n ≡ true) → each (λ i. met placed (e.start + i) n) e.activity.duration ≡ true
  held_all f = each_all _ _ (λ i k. f (e.start + i) (holds_of (e.start + i) e (omega arith) (omega arith)))

  pub held_at : each (λ i. met placed (e.start + i) n) e.activity.duration ≡ true → (t : ℕ) → holds t e ≡ true → met placed t n ≡ true
  held_at q t h =
      let a : e.start ≤ t = holds_from t e h in
      let b : t < end e = holds_till t e h in
      let z : e.start + (t - e.start) ≡ t = omega arith in
      subst (λ (u : ℕ). met placed u n ≡ true) z (each_at (λ i. met placed (e.start + i) n) e.activity.duration (t - e.start) q (omega arith))
