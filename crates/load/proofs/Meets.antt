-- U, E and P: a start meets them exactly when, with the candidate, the load of each of its ticks is within the limit.
-- Assumes nothing.
use Prim.Native.Nat.{ℕ, zero, suc, ◌+◌, ◌-◌, ◌<◌, ◌≤◌}
use mathlib.Core.Path.{◌≡◌, refl, ◌∙◌, ap, subst}
use mathlib.Core.Bool.{Bool, true, false, cond, ◌&&◌, not}
use mathlib.Core.List.{List, [], ◌∷◌, Memᴰ}
use native.Mathlib.Omega.{arith}
use lib.Dec.{leb}
use borrow.Author.Tests.{le-leb, leb-true}
use Rattle.rules.specs.Plan.{Header, Activity, Entry, Schedule, at}
use Rattle.rules.specs.Tests.{ever, total}
use Rattle.rules.specs.Hold.{holds}
use Rattle.rules.specs.Load.{load, load_kept}
use Rattle.rules.specs.MeetsU.{share, clash, meets_u}
use Rattle.rules.specs.MeetsE.{engines_kept, meets_e}
use Rattle.rules.specs.MeetsP.{peaks_kept, meets_p}
use Rattle.rules.specs.WellFormed.{ActivityFormed}
use Rattle.rules.proofs.Tests.{each_at, each_all, ever_at, and_left, and_right, and_both, both_ways, every_mem, not_ever}
use Rattle.rules.proofs.Every.{every_all}
use Rattle.rules.proofs.Local.{bool_ext, holds_of, holds_from, holds_till, load_kept_more, load_kept_own}
use Rattle.placed.specs.declared.row.Row.{Row}
use Rattle.placed.specs.Tables.{engines_at, peak_at}
use Rattle.placed.specs.Held.{TicksAt, AmountsAt, UnitsAt, Rows, Reached}
use Rattle.placed.proofs.Rows.{rows_map}
use Rattle.load.specs.Loads.{load_in, sharing}
use Rattle.load.specs.Clear.{fits, clear_for}
use Rattle.load.proofs.Loading.{clear_same}
use Rattle.load.proofs.Units.{share_unit_is}

-- the rows' weights are a quantity of the placed
abbrev Weighing : Header → List Row → (ℕ → ℕ) → (Activity → ℕ) → ℕ → Entry → Type 0
Weighing h rows weights quantity i e = TicksAt h rows i e × (weights i ≡ quantity e.activity)

-- the load of the rows is that of the schedule
load_is : (h : Header) (rows : List Row) (weights : ℕ → ℕ) (quantity : Activity → ℕ) (n : ℕ) (placed : Schedule) (t : ℕ) → Rows (Weighing h rows weights quantity) n placed → load_in rows weights n t ≡ load quantity placed t
unfolding Rows load_in load total holds
load_is h rows weights quantity zero (e ∷ placed) t r = elim r [ ]
load_is h rows weights quantity (suc n) [] t r = elim r [ ]
load_is h rows weights quantity zero [] t r = refl
load_is h rows weights quantity (suc n) (e ∷ placed) t r = rw (r.0.0.start, r.0.0.ends, r.0.1, load_is h rows weights quantity n placed t r.1)

-- E and P: beside a schedule that keeps the limit, over any quantity
module _ (quantity : Activity → ℕ) (limit : ℕ) (h : Header) (placed : Schedule) (a : Activity) where
  kept_is : (s : ℕ) → load_kept quantity limit h placed ≡ true → s + a.duration ≤ h.horizon → clear_for (fits (load quantity placed) (quantity a) limit) a.duration s ≡ load_kept quantity limit h (at a s ∷ placed)
  unfolding clear_for fits
  kept_is s q l = bool_ext _ _
      (λ e. load_kept_more quantity limit h placed a s q (λ i k. leb-true _ _ (each_at (λ i. leb (quantity a + load quantity placed (s + i)) limit) a.duration i e k)))
      (λ e. each_all _ a.duration (λ i k. le-leb _ _ (load_kept_own quantity limit h placed a s l e i k)))

  pub load_meets : (rows : List Row) (weights : ℕ → ℕ) (n : ℕ) → Rows (Weighing h rows weights quantity) n placed → weights n ≡ quantity a → load_kept quantity limit h placed ≡ true → (s : ℕ) → s + a.duration ≤ h.horizon → clear_for (fits (load_in rows weights n) (weights n) limit) a.duration s ≡ load_kept quantity limit h (at a s ∷ placed)
  load_meets rows weights n r w q s l =
      clear_same _ _ (weights n) limit a.duration s (λ t. load_is h rows weights quantity n placed t r)
      ∙ ap (λ (x : ℕ). clear_for (fits (load quantity placed) x limit) a.duration s) w
      ∙ kept_is s q l

module _ (h : Header) (rows : List Row) (n : ℕ) (placed : Schedule) (a : Activity) (held : Rows (λ i e. TicksAt h rows i e × AmountsAt rows i e.activity) n placed) (candidate : AmountsAt rows n a) (reached : Reached h placed) (formed : ActivityFormed h a) where
  pub engines_meet : (s : ℕ) → s + a.duration ≤ h.horizon → clear_for (fits (load_in rows (engines_at rows) n) (engines_at rows n) h.engines) a.duration s ≡ meets_e h placed a s
  unfolding meets_e engines_kept
  engines_meet = load_meets (λ x. x.engines) h.engines h placed a rows (engines_at rows) n (rows_map _ _ n placed (λ i e k m p. (p.0, p.1.engines)) held) candidate.engines reached.kept.engines

  pub peaks_meet : (s : ℕ) → s + a.duration ≤ h.horizon → clear_for (fits (load_in rows (peak_at rows) n) (peak_at rows n) h.peak) a.duration s ≡ meets_p h placed a s
  unfolding meets_p peaks_kept
  peaks_meet = load_meets (λ x. x.peak) h.peak h placed a rows (peak_at rows) n (rows_map _ _ n placed (λ i e k m p. (p.0, p.1.peak)) held) candidate.peak reached.kept.peaks

-- U: no tick of the candidate is held by one that shares a unit
module _ (quantity : Activity → ℕ) (t : ℕ) where
  -- one that holds the tick adds its own
  load_of : (placed : Schedule) (e : Entry) → Memᴰ e placed → holds t e ≡ true → quantity e.activity ≤ load quantity placed t
  unfolding load total
  load_of [] e m k = elim m [ ]
  load_of (d ∷ placed) e (Memᴰ.head q) k =
      let same : cond (holds t e) (quantity e.activity) 0 ≡ cond (holds t d) (quantity d.activity) 0 = ap (λ (x : Entry). cond (holds t x) (quantity x.activity) 0) q in
      let own : cond (holds t e) (quantity e.activity) 0 ≡ quantity e.activity = rw k in
      omega arith
  load_of (d ∷ placed) e (Memᴰ.tail m) k = omega (arith, load_of placed e m k)

  -- none adds anything
  load_zero : (placed : Schedule) → ((e : Entry) → Memᴰ e placed → cond (holds t e) (quantity e.activity) 0 ≡ 0) → load quantity placed t ≡ 0
  unfolding load total
  load_zero [] f = refl
  load_zero (d ∷ placed) f = omega (arith, f d (Memᴰ.head refl), load_zero placed (λ e m. f e (Memᴰ.tail m)))

-- 1 where b shares a unit with a
abbrev shares : Activity → Activity → ℕ
shares a b = cond (share (at a 0) (at b 0)) 1 0

module _ (h : Header) (placed : Schedule) (a : Activity) (s : ℕ) (l : s + a.duration ≤ h.horizon) where
  clash_none : (e : Entry) → Memᴰ e placed → ((t : ℕ) → s ≤ t → t < s + a.duration → load (shares a) placed t ≤ 0) → not (clash h (at a s) e) ≡ true
  unfolding clash share
  clash_none e m f = go (share (at a s) e) refl
    where
      go : (b : Bool) → share (at a s) e ≡ b → not (b && ever (λ t. holds t (at a s) && holds t e) h.horizon) ≡ true
      go false q = refl
      go true q = ap not (not_ever _ h.horizon (λ t k c.
          let own : holds t (at a s) ≡ true = and_left _ _ c in
          let other : holds t e ≡ true = and_right (holds t (at a s)) _ c in
          let one : shares a e.activity ≡ 1 = ap (λ (x : Bool). cond x 1 0) q in
          omega (arith, f t (holds_from t (at a s) own) (holds_till t (at a s) own), load_of (shares a) t placed e m other)))

  share_none : (t : ℕ) → s ≤ t → t < s + a.duration → (e : Entry) → not (clash h (at a s) e) ≡ true → cond (holds t e) (shares a e.activity) 0 ≡ 0
  unfolding clash share
  share_none t x y e n = go (holds t e) refl (share (at a s) e) refl
    where
      go : (b : Bool) → holds t e ≡ b → (c : Bool) → share (at a s) e ≡ c → ◌≡◌ {A = ℕ} (cond b (cond c 1 0) 0) 0
      go false p c q = refl
      go true p false q = refl
      go true p true q =
          let hit : ever (λ t. holds t (at a s) && holds t e) h.horizon ≡ true = ever_at _ h.horizon t (omega arith) (and_both (holds_of t (at a s) x y) p) in
          absurd (both_ways n (ap not (and_both q hit)))

  shares_none : clear_for (fits (load (shares a) placed) 0 0) a.duration s ≡ meets_u h placed a s
  unfolding clear_for fits meets_u
  shares_none = bool_ext _ _
      (λ e. every_all (λ x. not (clash h (at a s) x)) placed (λ x m. clash_none x m (λ t k j. let z : s + (t - s) ≡ t = omega arith in
      subst (λ (u : ℕ). load (shares a) placed u ≤ 0) z (omega (arith, leb-true (0 + load (shares a) placed (s + (t - s))) 0 (each_at (λ i. leb (0 + load (shares a) placed (s + i)) 0) a.duration (t - s) e (omega arith)))))))
      (λ e. each_all (λ i. leb (0 + load (shares a) placed (s + i)) 0) a.duration (λ i k. le-leb (0 + load (shares a) placed (s + i)) 0 (omega (arith, load_zero (shares a) (s + i) placed (λ x m. share_none (s + i) (omega arith) (omega arith) x (every_mem (λ y. not (clash h (at a s) y)) placed e m))))))

module _ (h : Header) (rows : List Row) (n : ℕ) (placed : Schedule) (a : Activity) (held : Rows (λ i e. TicksAt h rows i e × UnitsAt rows i e.activity) n placed) (candidate : UnitsAt rows n a) (reached : Reached h placed) (formed : ActivityFormed h a) where
  pub units_meet : (s : ℕ) → s + a.duration ≤ h.horizon → clear_for (fits (load_in rows (sharing rows n) n) 0 0) a.duration s ≡ meets_u h placed a s
  unfolding sharing share
  units_meet s l =
      clear_same _ _ 0 0 a.duration s (λ t. load_is h rows (sharing rows n) (shares a) n placed t (rows_map _ _ n placed (λ i e k m p. (p.0, ap (λ (b : Bool). cond b 1 0) (share_unit_is rows i n a e.activity p.1 candidate (λ u m. formed.units.in_range u m)))) held))
      ∙ shares_none h placed a s l
