-- The nearest start of a stretch of the table, of two stretches, and window by window.
-- Assumes nothing.
use Prim.Native.Nat.{ℕ, suc, ◌+◌, ◌-◌, ◌<◌, ◌≤◌}
use mathlib.Core.Path.{◌≡◌, refl, sym, ◌∙◌, ap}
use mathlib.Core.Logic.{◌≢◌}
use mathlib.Core.Bool.{Bool, true, false, cond}
use mathlib.Core.List.{List, [], ◌∷◌, map, Memᴰ}
use mathlib.Core.Option.{Option as Start, none, some}
use native.Mathlib.Omega.{arith}
use native.Mathlib.Numerals.{add-one}
use lib.Dec.{ltb}
use lib.ListN.{length, length-drop, get_or, take, drop}
use borrow.Author.Tests.{eq-eqb, ne_eqb, ltb-true, ltb-false}
use Rattle.std.specs.Prelude.{Option, Some, None, min}
use Rattle.std.proofs.Common.{get_or-take, get_or-drop, length-take-le, drop-cons}
use Rattle.rules.specs.Tests.{any_of}
use Rattle.rules.specs.Plan.{Window}
use Rattle.rules.specs.Warmup.{apart}
use Rattle.rules.specs.Conditions.{all_conditions}
use Rattle.rules.specs.MeetsW.{inside, allowed}
use Rattle.rules.specs.Answer.{nearest}
use Rattle.rules.specs.WellFormed.{Rises}
use Rattle.rules.proofs.Tests.{both_ways}
use Rattle.rules.proofs.Cases.{by_order}
use Rattle.rules.proofs.Says.{either_way}
use Rattle.rules.proofs.Nearest.{Found, found}
use Rattle.rules.proofs.ListBack.{rises_least}
use Rattle.rules.proofs.Distance.{any_held, behind_window}
use Rattle.items.specs.declared.Item.{Item}
use Rattle.activity.specs.View.{window_of}
use Rattle.schedule.specs.Found.{FirstWithAll, LastWithAll, is_valid, IsNearest, NearestIn, nearer_of_two}
use Rattle.schedule.specs.declared.nearest.Near.{Near}

-- ---- the starts from `from` to before `to` of a table
module _ (sets : List ℕ) (from to : ℕ) (l : from ≤ to) (r : to ≤ length sets) where
  abbrev part : List ℕ
  part = take (to - from) (drop from sets)

  many : length part ≡ to - from
  many = length-take-le (to - from) (drop from sets) (omega (arith, length-drop from sets))

  entry : (s : ℕ) → from ≤ s → s < to → get_or part (s - from) 0 ≡ get_or sets s 0
  entry s a b =
      let i : from + (s - from) ≡ s = omega arith in
      get_or-take (to - from) (drop from sets) (s - from) 0 (omega arith) ∙ get_or-drop from sets (s - from) 0 ∙ ap (λ (k : ℕ). get_or sets k 0) i

  without_all : (s : ℕ) → from ≤ s → s < to → get_or part (s - from) 0 ≢ all_conditions → is_valid sets s ≡ false
  unfolding is_valid
  without_all s a b n = ne_eqb _ _ (λ e. n (entry s a b ∙ e))

  with_all : (i : ℕ) → i < length part → get_or part i 0 ≡ all_conditions → is_valid sets (from + i) ≡ true
  unfolding is_valid
  with_all i h e =
      let k : from + i - from ≡ i = omega arith in
      eq-eqb _ _ (sym (entry (from + i) (omega arith) (omega (arith, many))) ∙ ap (λ (j : ℕ). get_or part j 0) k ∙ e)

  pub none_valid : FirstWithAll part None → (s : ℕ) → from ≤ s → s < to → is_valid sets s ≡ false
  none_valid h s a b = without_all s a b (h (s - from) (omega (arith, many)))

  module _ (p i : ℕ) where
    -- the last valid start, none of them behind p
    pub last_nearest : LastWithAll part (Some i) → ((s : ℕ) → from ≤ s → s < to → s ≤ p) → IsNearest (is_valid sets) (λ s. apart s p) from to (record { start = from + i; distance = p - (from + i) })
    unfolding apart
    last_nearest h b =
        let x = from + i in
        let here : x ≤ p = b x (omega arith) (omega (arith, h.0, many)) in
        let last : (s : ℕ) → from ≤ s → s < to → is_valid sets s ≡ true → s ≤ x =
        λ s c d e. by_order x s (λ k. absurd (both_ways e (without_all s c d (h.2 (s - from) (omega arith) (omega (arith, many)))))) (λ k. k) in
        record {
          not_before = omega arith;
          before_end = omega (arith, h.0, many);
          passes = with_all i h.0 h.1;
          measured = omega arith;
          nearest = λ s c d e. omega (arith, last s c d e);
          earlier = λ s c d e f. omega (arith, last s c d e);
        }

    -- the first valid start, none of them before p
    pub first_nearest : FirstWithAll part (Some i) → ((s : ℕ) → from ≤ s → s < to → p ≤ s) → IsNearest (is_valid sets) (λ s. apart s p) from to (record { start = from + i; distance = from + i - p })
    unfolding apart
    first_nearest h b =
        let x = from + i in
        let here : p ≤ x = b x (omega arith) (omega (arith, h.0, many)) in
        let first : (s : ℕ) → from ≤ s → s < to → is_valid sets s ≡ true → x ≤ s =
        λ s c d e. by_order s x (λ k. absurd (both_ways e (without_all s c d (h.2 (s - from) (omega arith))))) (λ k. k) in
        record {
          not_before = omega arith;
          before_end = omega (arith, h.0, many);
          passes = with_all i h.0 h.1;
          measured = omega arith;
          nearest = λ s c d e. omega (arith, first s c d e);
          earlier = λ s c d e f. first s c d e;
        }

-- ---- distances that agree in a stretch
pub nearest_alike : (pass : ℕ → Bool) (d e : ℕ → ℕ) (from to : ℕ) → ((s : ℕ) → from ≤ s → s < to → e s ≡ d s) → (o : Option Near) → NearestIn pass d from to o → NearestIn pass e from to o
nearest_alike pass d e from to f None N = N
nearest_alike pass d e from to f (Some b) N =
    let here : e b.start ≡ d b.start = f b.start N.not_before N.before_end in
    record {
      not_before = N.not_before;
      before_end = N.before_end;
      passes = N.passes;
      measured = N.measured ∙ sym here;
      nearest = λ s a c q. omega (arith, here, f s a c, N.nearest s a c q);
      earlier = λ s a c q g. N.earlier s a c q (sym (f s a c) ∙ g ∙ here);
    }

-- ---- two stretches
module _ (pass : ℕ → Bool) (d : ℕ → ℕ) where
  module _ (from mid to : ℕ) (l : from ≤ mid) (m : mid ≤ to) where
    second_stays : (b : Near) → ((s : ℕ) → from ≤ s → s < mid → pass s ≡ true → d b.start < d s) → IsNearest pass d mid to b → IsNearest pass d from to b
    second_stays b far N =
        record {
          not_before = omega (arith, N.not_before);
          before_end = N.before_end;
          passes = N.passes;
          measured = N.measured;
          nearest = λ s a c e. by_order s mid (λ k. omega (arith, far s a k e)) (λ k. N.nearest s k c e);
          earlier = λ s a c e f. by_order s mid (λ k. absurd (omega (arith, far s a k e))) (λ k. N.earlier s k c e f);
        }

    first_stays : (b : Near) → IsNearest pass d from mid b → ((s : ℕ) → mid ≤ s → s < to → pass s ≡ true → d b.start ≤ d s) → IsNearest pass d from to b
    first_stays b N far =
        record {
          not_before = N.not_before;
          before_end = omega (arith, N.before_end);
          passes = N.passes;
          measured = N.measured;
          nearest = λ s a c e. by_order s mid (λ k. N.nearest s a k e) (λ k. far s k c e);
          earlier = λ s a c e f. by_order s mid (λ k. N.earlier s a k e f) (λ k. omega (arith, N.before_end));
        }

    nearest_joined : (first second : Option Near) → NearestIn pass d from mid first → NearestIn pass d mid to second → NearestIn pass d from to (nearer_of_two first second)
    nearest_joined None None N P = λ s a c. by_order s mid (λ k. N s a k) (λ k. P s k c)
    nearest_joined None (Some b) N P = second_stays b (λ s a k e. absurd (both_ways e (N s a k))) P
    nearest_joined (Some a) None N P = first_stays a N (λ s k c e. absurd (both_ways e (P s k c)))
    nearest_joined (Some a) (Some b) N P = go (ltb b.distance a.distance) refl
      where
        go : (t : Bool) → ltb b.distance a.distance ≡ t → NearestIn pass d from to (cond t (Some b) (Some a))
        go true q = second_stays b (λ s c k e. omega (arith, ltb-true _ _ q, N.measured, P.measured, N.nearest s c k e)) P
        go false q = first_stays a N (λ s k c e. omega (arith, ltb-false _ _ q, N.measured, P.measured, P.nearest s k c e))

  -- a stretch in which no start passes
  nearest_past : (from mid to : ℕ) → from ≤ mid → mid ≤ to → ((s : ℕ) → mid ≤ s → s < to → pass s ≡ false) → (best : Option Near) → NearestIn pass d from mid best → NearestIn pass d from to best
  nearest_past from mid to l m f None N = nearest_joined from mid to l m None None N f
  nearest_past from mid to l m f (Some b) N = nearest_joined from mid to l m (Some b) None N f

  -- from 0 on it is the one that the definition finds
  abbrev start_of : Option Near → Start ℕ
  start_of None = none
  start_of (Some b) = some b.start

  is_found : (n : ℕ) (best : Option Near) (o : Start ℕ) → NearestIn pass d 0 n best → Found pass d n o → start_of best ≡ o
  is_found n None none N F = refl
  is_found n None (some b) N B = absurd (both_ways B.passes (N b (omega arith) B.below))
  is_found n (Some a) none N F = absurd (F a.start N.before_end N.passes)
  is_found n (Some a) (some b) N B =
      let near : d a.start ≡ d b = omega (arith, N.nearest b (omega arith) B.below B.passes, B.near a.start N.before_end N.passes) in
      ap some (omega (arith, N.earlier b (omega arith) B.below B.passes (sym near), B.earlier a.start N.before_end N.passes near))

  pub found_none : (n : ℕ) → NearestIn pass d 0 n None → none ≡ nearest pass d n
  found_none n N = is_found n None _ N (found pass d n)

  pub found_some : (n : ℕ) (b : Near) → IsNearest pass d 0 n b → some b.start ≡ nearest pass d n
  found_some n b N = is_found n (Some b) _ N (found pass d n)

-- ---- window by window: the best of the starts before `least`, from which on the windows ws hold all that pass
module _ (pass : ℕ → Bool) (d : ℕ → ℕ) (n : ℕ) where
  pub record Before (least : ℕ) (ws : List Window) (best : Option Near) : Type 0 where
    pub near : NearestIn pass d 0 (min n least) best
    pub held : (s : ℕ) → least ≤ s → s < n → pass s ≡ true → any_of (inside s) ws ≡ true
    pub right : (w : Window) (s : ℕ) → Memᴰ w ws → w.from ≤ s → s ≤ w.to → d s ≡ apart s w.preferred
    pub rises : Rises (λ w. w.from) (λ w. w.to) least ws

  -- no window is left
  pub before_none : (least : ℕ) (best : Option Near) → Before least [] best → NearestIn pass d 0 n best
  unfolding any_of
  before_none least best B =
      nearest_past pass d 0 (min n least) n (omega arith) (omega arith)
      (λ s a k. either_way (pass s) (λ e. absurd (both_ways (B.held s (omega arith) k e) refl)) (λ e. e))
      best B.near

  module _ (least : ℕ) (w : Window) (ws : List Window) (best : Option Near) (B : Before least (w ∷ ws) best) where
    -- up to the next window
    before_next : NearestIn pass d 0 (min n w.from) best
    before_next =
        nearest_past pass d 0 (min n least) (min n w.from) (omega arith) (omega (arith, B.rises.0))
        (λ s a k. either_way (pass s)
        (λ e. let h = any_held (w ∷ ws) s (B.held s (omega arith) (omega arith) e) in
        let from : w.from ≤ h.0.from = rises_least (λ w. w.from) (λ w. w.to) w.from (w ∷ ws) (omega arith, B.rises.1, B.rises.2) h.1 in
        absurd (omega (arith, h.2.0)))
        (λ e. e))
        best B.near

    -- and behind it
    pub before_rest : (next : Option Near) → NearestIn pass (λ s. apart s w.preferred) (min n w.from) (min n (w.to + 1)) next → Before (suc w.to) ws (nearer_of_two best next)
    unfolding any_of
    before_rest next N =
        record {
          near =
              rw add-one at (nearest_joined pass d 0 (min n w.from) (min n (w.to + 1)) (omega arith) (omega (arith, B.rises.1)) best next before_next
              (nearest_alike pass (λ s. apart s w.preferred) d (min n w.from) (min n (w.to + 1)) (λ s a c. B.right w s (Memᴰ.head refl) (omega arith) (omega arith)) next N));
          held = λ s a k e. rw (behind_window s w (omega arith)) at (B.held s (omega (arith, B.rises.0, B.rises.1)) k e);
          right = λ v s m. B.right v s (Memᴰ.tail m);
          rises = B.rises.2;
        }

-- the windows from index i on are that of index i and those from the next on
pub next_window : (items : List Item) (i : ℕ) → i < length items → map window_of (drop i items) ≡ window_of (get_or items i (record { first = 0; second = 0; third = 0 })) ∷ map window_of (drop (i + 1) items)
next_window items i h = rw add-one (ap (map window_of) (drop-cons items i (record { first = 0; second = 0; third = 0 }) h))

pub none_left : {A : Type 0} (xs : List A) → length xs ≡ 0 → xs ≡ []
none_left [] h = refl
none_left (x ∷ xs) h = absurd (omega arith)

-- starts that windows allow are in one of them
pub in_windows : (ws : List Window) (s : ℕ) → (length ws ≡ 0 → ⊥) → allowed ws s ≡ true → any_of (inside s) ws ≡ true
unfolding allowed
in_windows [] s h e = absurd (h refl)
in_windows (w ∷ ws) s h e = e
