-- What the six tests over a whole schedule say of it.
use Prim.Native.Nat.{ℕ, zero, suc, ◌+◌, ◌-◌, ◌<◌, ◌≤◌}
use mathlib.Core.Path.{◌≡◌, subst}
use mathlib.Core.Bool.{true, not, ◌&&◌}
use mathlib.Core.List.{[], ◌∷◌, Memᴰ}
use native.Mathlib.Omega.{arith}
use native.Mathlib.Nat.{not-suc-le-zero}
use lib.Dec.{T, leb}
use lib.ListN.{length}
use borrow.Author.Tests.{leb-true, ltb-true, eqb-true, not-true}
use Rattle.rules.specs.Plan.{Header, Setting, Entry, Schedule, end}
use Rattle.rules.specs.Tests.{each, every}
use Rattle.rules.specs.Hold.{holds}
use Rattle.rules.specs.MeetsU.{share, clash, meets_u, units_kept}
use Rattle.rules.specs.MeetsS.{standing, met, needs_kept}
use Rattle.rules.specs.MeetsE.{engines_kept}
use Rattle.rules.specs.MeetsP.{peaks_kept}
use Rattle.rules.specs.MeetsV.{volume_kept}
use Rattle.rules.specs.Demand.{nth, Limits}
use Rattle.rules.proofs.Tests.{each_at, ever_at, every_at, every_mem, and_left, and_right, and_both, both_ways}
use Rattle.rules.specs.Kept.{Kept}
use Rattle.rules.proofs.Local.{load_kept_lem}
use Rattle.rules.proofs.Projecting.{kept_when}

-- a test of U
clear : (h : Header) (p q : Entry) (t : ℕ) → not (clash h p q) ≡ true → t < h.horizon → share p q ≡ true → holds t p ≡ true → holds t q ≡ true → ⊥
unfolding clash
clear h p q t e k s a b = both_ways (and_both s (ever_at (λ t. holds t p && holds t q) h.horizon t k (and_both a b))) (not-true _ e)

apart_at : (h : Header) (ps : Schedule) → units_kept h ps ≡ true → (i j t : ℕ) → i < j → j < length ps → t < h.horizon → share (nth ps i) (nth ps j) ≡ true → holds t (nth ps i) ≡ true → holds t (nth ps j) ≡ true → ⊥
unfolding units_kept meets_u
apart_at h [] e i j t l m k = absurd (not-suc-le-zero m)
apart_at h (p ∷ ps) e zero zero t l m k = absurd (not-suc-le-zero l)
apart_at h (p ∷ ps) e zero (suc j) t l m k = clear h p (nth ps j) t (every_at (λ q. not (clash h p q)) ps _ j (and_left _ _ e) (omega arith)) k
apart_at h (p ∷ ps) e (suc i) zero t l m k = absurd (not-suc-le-zero l)
apart_at h (p ∷ ps) e (suc i) (suc j) t l m k = apart_at h ps (and_right (every (λ q. not (clash h p q)) ps) _ e) i j t (omega arith) (omega arith) k

met_at : (h : Header) (ps : Schedule) → needs_kept h ps ≡ true → (i t : ℕ) → i < length ps → holds t (nth ps i) ≡ true → (n : Setting) → Memᴰ n (nth ps i).activity.needs → (standing ps n.variable t).value ≡ n.value
unfolding needs_kept met holds
met_at h ps e i t k f n m =
    let p = nth ps i in
    let from : p.start ≤ t = leb-true _ _ (and_left _ _ f) in
    let till : t < end p = ltb-true _ _ (and_right (leb p.start t) _ f) in
    let own : every (λ n. each (λ i. met ps (p.start + i) n) p.activity.duration) p.activity.needs ≡ true =
    every_at (λ p. every (λ n. each (λ i. met ps (p.start + i) n) p.activity.duration) p.activity.needs) ps _ i e k in
    let then : met ps (p.start + (t - p.start)) n ≡ true =
    each_at (λ i. met ps (p.start + i) n) p.activity.duration (t - p.start) (every_mem _ p.activity.needs own m) (omega arith) in
    let same : p.start + (t - p.start) ≡ t = omega arith in
    eqb-true _ _ (subst (λ (u : ℕ). met ps u n ≡ true) same then)

-- a tick that one holds lies in the plan if it ends by the horizon
in_plan : (h : Header) (e : Entry) (t : ℕ) → end e ≤ h.horizon → holds t e ≡ true → t < h.horizon
unfolding holds
in_plan h e t l f = let till : t < end e = ltb-true _ _ (and_right (leb e.start t) _ f) in omega arith

pub limits : (h : Header) (ps : Schedule) → Kept h ps → ((i : ℕ) → i < length ps → end (nth ps i) ≤ h.horizon) → Limits h ps
unfolding engines_kept peaks_kept volume_kept
limits h ps K T =
    record {
      in_time = T;
      units = λ i j t l m s a b. apart_at h ps K.units i j t l m (in_plan h (nth ps j) t (T j m) b) s a b;
      needs = met_at h ps K.needs;
      engines = (load_kept_lem _ _ h ps).0 K.engines;
      peaks = (load_kept_lem _ _ h ps).0 K.peaks;
      charge = (kept_when h ps).0 K.charge;
      volume = leb-true _ _ K.volume;
    }
