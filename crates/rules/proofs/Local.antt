-- What the conditions U, S, E and P say at fewer ticks, and the law of a sum that E and P share.
-- Assumes nothing.
use Prim.Native.Nat.{ℕ, ◌+◌, ◌-◌, ◌<◌, ◌≤◌, max}
use mathlib.Core.Path.{◌≡◌, refl, sym, ◌∙◌, ap, subst}
use mathlib.Core.Logic.{◌↔◌}
use mathlib.Core.Bool.{Bool, true, false, cond, ◌&&◌}
use mathlib.Core.List.{[], ◌∷◌, Memᴰ}
use mathlib.Core.Option.{Option, none, some}
use native.Mathlib.Omega.{arith}
use lib.Dec.{leb, ltb, eqb}
use borrow.Author.Tests.{leb-true, ltb-true, le-leb, lt-ltb}
use Rattle.rules.specs.Plan.{Header, Activity, Setting, Entry, Schedule, at, end}
use Rattle.rules.specs.Tests.{ever, total}
use Rattle.rules.specs.Hold.{holds}
use Rattle.rules.specs.Load.{load, load_kept}
use Rattle.rules.specs.MeetsS.{Standing, given, over, standing, met}
use Rattle.rules.proofs.Tests.{each_at, each_all, ever_at, ever_found, and_left, and_right, and_both}
use Rattle.rules.proofs.Cases.{by_order}

pub bool_ext : (a b : Bool) → (a ≡ true → b ≡ true) → (b ≡ true → a ≡ true) → a ≡ b
bool_ext true b f g = sym (f refl)
bool_ext false true f g = g refl
bool_ext false false f g = refl

-- ---- the ticks that an entry holds
pub holds_of : (t : ℕ) (e : Entry) → e.start ≤ t → t < end e → holds t e ≡ true
unfolding holds
holds_of t e a b = and_both (le-leb _ _ a) (lt-ltb _ _ b)

pub holds_from : (t : ℕ) (e : Entry) → holds t e ≡ true → e.start ≤ t
unfolding holds
holds_from t e q = leb-true _ _ (and_left _ _ q)

pub holds_till : (t : ℕ) (e : Entry) → holds t e ≡ true → t < end e
unfolding holds
holds_till t e q = ltb-true _ _ (and_right (leb e.start t) _ q)

-- ---- E and P, over any quantity
-- an activity added never makes the load lower
pub load_more : (quantity : Activity → ℕ) (placed : Schedule) (e : Entry) (t : ℕ) → load quantity placed t ≤ load quantity (e ∷ placed) t
unfolding load total
load_more quantity placed e t = omega arith

module _ (quantity : Activity → ℕ) (limit : ℕ) (h : Header) where
  -- the test says that the sum is at most the limit in each tick of the plan
  pub load_kept_lem : (placed : Schedule) → (load_kept quantity limit h placed ≡ true) ↔ ((t : ℕ) → t < h.horizon → load quantity placed t ≤ limit)
  unfolding load_kept
  load_kept_lem placed = (
    λ q t k. leb-true _ _ (each_at (λ t. leb (load quantity placed t) limit) h.horizon t q k),
    λ f. each_all _ _ (λ t k. le-leb _ _ (f t k)),
  )

  -- beside a schedule that keeps the limit, only the candidate's own ticks need a test
  module _ (placed : Schedule) (a : Activity) (s : ℕ) where
    pub load_kept_more : load_kept quantity limit h placed ≡ true → ((i : ℕ) → i < a.duration → quantity a + load quantity placed (s + i) ≤ limit) → load_kept quantity limit h (at a s ∷ placed) ≡ true
    unfolding load total
    load_kept_more q own = (load_kept_lem (at a s ∷ placed)).1 (λ t k. go t k (holds t (at a s)) refl)
      where
        go : (t : ℕ) → t < h.horizon → (b : Bool) → holds t (at a s) ≡ b → cond b (quantity a) 0 + load quantity placed t ≤ limit
        go t k true r =
            let from : s ≤ t = holds_from t (at a s) r in
            let till : t < s + a.duration = holds_till t (at a s) r in
            let same : s + (t - s) ≡ t = omega arith in
            subst (λ (u : ℕ). quantity a + load quantity placed u ≤ limit) same (own (t - s) (omega arith))
        go t k false r = omega (arith, (load_kept_lem placed).0 q t k)

    pub load_kept_own : s + a.duration ≤ h.horizon → load_kept quantity limit h (at a s ∷ placed) ≡ true → (i : ℕ) → i < a.duration → quantity a + load quantity placed (s + i) ≤ limit
    unfolding load total
    load_kept_own l q i k =
        subst (λ (b : Bool). cond b (quantity a) 0 + load quantity placed (s + i) ≤ limit) (holds_of (s + i) (at a s) (omega arith) (omega arith)) ((load_kept_lem (at a s ∷ placed)).0 q (s + i) (omega arith))

-- ---- U
-- two that hold some ticks, all of the plan, hold one tick exactly when each starts before the other's end
pub meet_when : (h : Header) (d e : Entry) → d.start < end d → e.start < end e → end d ≤ h.horizon → end e ≤ h.horizon → ever (λ t. holds t d && holds t e) h.horizon ≡ (ltb d.start (end e) && ltb e.start (end d))
meet_when h d e ld le hd he = bool_ext _ _ there back
  where
    there : ever (λ t. holds t d && holds t e) h.horizon ≡ true → (ltb d.start (end e) && ltb e.start (end d)) ≡ true
    there q =
        let w = ever_found (λ t. holds t d && holds t e) h.horizon q in
        let t = w.0 in
        let a : holds t d ≡ true = and_left _ _ w.2 in
        let b : holds t e ≡ true = and_right (holds t d) _ w.2 in
        and_both (lt-ltb d.start (end e) (omega (arith, holds_from t d a, holds_till t e b))) (lt-ltb e.start (end d) (omega (arith, holds_from t e b, holds_till t d a)))

    back : (ltb d.start (end e) && ltb e.start (end d)) ≡ true → ever (λ t. holds t d && holds t e) h.horizon ≡ true
    back q =
        let a : d.start < end e = ltb-true _ _ (and_left _ _ q) in
        let b : e.start < end d = ltb-true _ _ (and_right (ltb d.start (end e)) _ q) in
        ever_at _ h.horizon (max d.start e.start) (omega arith) (and_both (holds_of _ d (omega arith) (omega arith)) (holds_of _ e (omega arith) (omega arith)))

-- ---- S
leb_same : (x t u : ℕ) → u ≤ t → (x ≤ t → x ≤ u) → leb x t ≡ leb x u
leb_same x t u k f = bool_ext _ _ (λ q. le-leb _ _ (f (leb-true _ _ q))) (λ q. let l : x ≤ u = leb-true _ _ q in le-leb x t (omega arith))

over_same : (e : Entry) (o : Option ℕ) (t u : ℕ) (b : Standing) → leb (end e) t ≡ leb (end e) u → over e o t b ≡ over e o u b
unfolding over
over_same e none t u b q = refl
over_same e (some x) t u b q = rw q

-- a variable's value at t is that at u where no placed activity ends after u and by t
pub same_since : (placed : Schedule) (v t u : ℕ) → u ≤ t → ((e : Entry) → Memᴰ e placed → end e ≤ t → end e ≤ u) → standing placed v t ≡ standing placed v u
unfolding standing
same_since [] v t u k f = refl
same_since (e ∷ placed) v t u k f =
    over_same e (given e.activity.sets v) t u (standing placed v t) (leb_same (end e) t u k (f e (Memᴰ.head refl)))
    ∙ ap (over e (given e.activity.sets v) u) (same_since placed v t u k (λ d m. f d (Memᴰ.tail m)))

-- the latest of s and the ends by t
unfoldable pub edge : Schedule → ℕ → ℕ → ℕ
edge [] s t = s
edge (e ∷ placed) s t = cond (leb (end e) t) (max (end e) (edge placed s t)) (edge placed s t)

-- one entry more never makes it earlier
edge_up : (b : Bool) (x y n : ℕ) → n ≤ y → n ≤ cond b (max x y) y
edge_up true x y n l = omega arith
edge_up false x y n l = l

module _ (s t : ℕ) (k : s ≤ t) where
  edge_by : (placed : Schedule) → edge placed s t ≤ t
  unfolding edge
  edge_by [] = k
  edge_by (e ∷ placed) = go (leb (end e) t) refl (edge_by placed)
    where
      go : (b : Bool) → leb (end e) t ≡ b → edge placed s t ≤ t → cond b (max (end e) (edge placed s t)) (edge placed s t) ≤ t
      go true q l = omega (arith, leb-true (end e) t q)
      go false q l = l

  edge_from : (placed : Schedule) → s ≤ edge placed s t
  unfolding edge
  edge_from [] = omega arith
  edge_from (e ∷ placed) = edge_up (leb (end e) t) (end e) (edge placed s t) s (edge_from placed)

  edge_last : (placed : Schedule) (d : Entry) → Memᴰ d placed → end d ≤ t → end d ≤ edge placed s t
  unfolding edge
  edge_last [] d m l = elim m [ ]
  edge_last (e ∷ placed) d (Memᴰ.head q) l =
      let same : end d ≡ end e = ap end q in
      rw (le-leb (end e) t (omega arith)) (omega arith)
  edge_last (e ∷ placed) d (Memᴰ.tail m) l = edge_up (leb (end e) t) (end e) (edge placed s t) (end d) (edge_last placed d m l)

  -- it is s, or the end of one
  edge_is : (P : ℕ → Type 0) (placed : Schedule) → P s → ((e : Entry) → Memᴰ e placed → end e ≤ t → P (end e)) → P (edge placed s t)
  unfolding edge
  edge_is P [] a f = a
  edge_is P (e ∷ placed) a f = go (leb (end e) t) refl (edge_is P placed a (λ d m. f d (Memᴰ.tail m)))
    where
      go : (b : Bool) → leb (end e) t ≡ b → P (edge placed s t) → P (cond b (max (end e) (edge placed s t)) (edge placed s t))
      go true q y =
          let x : P (end e) = f e (Memᴰ.head refl) (leb-true _ _ q) in
          by_order (end e) (edge placed s t)
          (λ l. let m : edge placed s t ≡ max (end e) (edge placed s t) = omega arith in subst P m y)
          (λ l. let m : end e ≡ max (end e) (edge placed s t) = omega arith in subst P m x)
      go false q y = y

-- a need is met in each tick that e holds when it is met at e's start and wherever one ends while e holds
pub met_by_edges : (placed : Schedule) (e : Entry) (n : Setting) → met placed e.start n ≡ true → ((d : Entry) → Memᴰ d placed → holds (end d) e ≡ true → met placed (end d) n ≡ true) → (t : ℕ) → holds t e ≡ true → met placed t n ≡ true
unfolding met
met_by_edges placed e n a f t q =
    let from : e.start ≤ t = holds_from t e q in
    let till : t < end e = holds_till t e q in
    ap (λ (x : Standing). eqb x.value n.value) (same_since placed n.variable t (edge placed e.start t) (edge_by e.start t from placed) (edge_last e.start t from placed))
    ∙ edge_is e.start t from (λ u. e.start ≤ u → met placed u n ≡ true) placed (λ _. a) (λ d m l g. f d m (holds_of (end d) e g (omega arith))) (edge_from e.start t from placed)
