-- The distance of a start is what its facts say, and what they leave open is of no valid start.
-- Assumes nothing.
use Prim.Native.Nat.{ℕ, suc, ◌<◌, ◌≤◌}
use mathlib.Core.Path.{◌≡◌, refl, sym, ◌∙◌, ap}
use mathlib.Core.Logic.{◌⊎◌, inl, inr}
use mathlib.Core.Bool.{true, false, and-false}
use mathlib.Core.List.{List, [], ◌∷◌, Memᴰ}
use native.Mathlib.Omega.{arith}
use lib.Dec.{leb}
use borrow.Author.Tests.{leb-true, le-leb, lt-leb}
use Rattle.rules.specs.Plan.{Header, Window, Activity}
use Rattle.rules.specs.Tests.{any_of}
use Rattle.rules.specs.Warmup.{apart}
use Rattle.rules.specs.MeetsW.{inside, allowed, meets_w}
use Rattle.rules.specs.Conditions.{conditions, meets}
use Rattle.rules.specs.Outcomes.{preferred_at, distance}
use Rattle.rules.specs.WellFormed.{Rises, WindowsFormed, ActivityFormed}
use Rattle.rules.specs.DistanceRight.{DistanceRight}
use Rattle.rules.specs.Determined.{DistanceDetermined}
use Rattle.rules.proofs.Tests.{and_left, and_right, and_both}
use Rattle.rules.proofs.Says.{one_holds}
use Rattle.rules.proofs.ListBack.{rises_least}

-- ---- a window holds the start s
abbrev pub HeldBy : ℕ → Window → Type 0
HeldBy s w = (w.from ≤ s) × (s ≤ w.to)

held_inside : (s : ℕ) (w : Window) → HeldBy s w → inside s w ≡ true
unfolding inside
held_inside s w h = and_both (le-leb w.from s h.0) (le-leb s w.to h.1)

inside_held : (s : ℕ) (w : Window) → inside s w ≡ true → HeldBy s w
unfolding inside
inside_held s w e = (leb-true w.from s (and_left _ _ e), leb-true s w.to (and_right (leb w.from s) _ e))

pub behind_window : (s : ℕ) (w : Window) → w.to < s → inside s w ≡ false
unfolding inside
behind_window s w h = rw (lt-leb s w.to h) (and-false (leb w.from s))

-- every start that the windows allow is held by one of them, where there are any
pub any_held : (ws : List Window) (s : ℕ) → any_of (inside s) ws ≡ true → (w : Window) × Memᴰ w ws × HeldBy s w
unfolding any_of
any_held [] s e = let z : ◌≡◌ {A = ℕ} 0 1 = cc in absurd (omega arith)
any_held (w ∷ ws) s e =
    one_holds (inside s w) (any_of (inside s) ws) e
    (λ f. (w, Memᴰ.head refl, inside_held s w f))
    (λ f. let r = any_held ws s f in (r.0, Memᴰ.tail r.1, r.2))

allowed_held : (ws : List Window) (s : ℕ) → allowed ws s ≡ true → (ws ≡ []) ⊎ ((w : Window) × Memᴰ w ws × HeldBy s w)
unfolding allowed
allowed_held [] s e = inl refl
allowed_held (w ∷ ws) s e = inr (any_held (w ∷ ws) s e)

-- ---- the window that holds a start is the first one
held_preferred : (field least : ℕ) (ws : List Window) (w : Window) (s : ℕ) → Rises (λ w. w.from) (λ w. w.to) least ws → Memᴰ w ws → HeldBy s w → preferred_at field ws s ≡ w.preferred
unfolding preferred_at
held_preferred field least [] w s r m h = elim m [ ]
held_preferred field least (v ∷ ws) w s r (Memᴰ.head q) h = rw (← q, held_inside s w h) refl
held_preferred field least (v ∷ ws) w s r (Memᴰ.tail m) h =
    let l : suc v.to ≤ w.from = rises_least (λ w. w.from) (λ w. w.to) (suc v.to) ws r.2 m in
    rw (behind_window s v (omega (arith, h.0))) (held_preferred field (suc v.to) ws w s r.2 m h)

pub distance_right : (a : Activity) → WindowsFormed a.windows → DistanceRight a (distance a)
unfolding distance preferred_at
distance_right a f =
    record {
      window = λ w s m l r. ap (apart s) (held_preferred a.preferred 0 a.windows w s f.rises m (l, r));
      field = λ s e. rw e refl;
    }

-- two distances that are right are the same at every start that the windows allow
distance_same : (a : Activity) (d e : ℕ → ℕ) → DistanceRight a d → DistanceRight a e → (s : ℕ) → (a.windows ≡ []) ⊎ ((w : Window) × Memᴰ w a.windows × HeldBy s w) → d s ≡ e s
distance_same a d e D E s (inl q) = D.field s q ∙ sym (E.field s q)
distance_same a d e D E s (inr (w, m, h)) = D.window w s m h.0 h.1 ∙ sym (E.window w s m h.0 h.1)

pub distance_determined : (h : Header) (a : Activity) → ActivityFormed h a → DistanceDetermined h a
unfolding meets conditions meets_w
distance_determined h a f =
    let right = distance_right a f.windows in
    record { right = right; same = λ before d D s v. distance_same a d (distance a) D right s (allowed_held a.windows s (v.meets_all 0 (omega arith))) }
