-- The scheduling order is the stable sort by priority: what OrderRight says.
-- Assumes nothing.
use Prim.Native.Nat.{ℕ, zero, suc, ◌+◌, ◌-◌, ◌<◌, ◌≤◌, min}
use mathlib.Core.Path.{◌≡◌, refl, ◌∙◌, ap}
use mathlib.Core.Logic.{◌≢◌}
use mathlib.Core.Bool.{Bool, true, false, cond}
use mathlib.Core.List.{List, [], ◌∷◌}
use native.Mathlib.Omega.{arith}
use native.Mathlib.Nat.{not-suc-le-zero}
use lib.Dec.{leb}
use lib.ListN.{length}
use borrow.Author.Tests.{leb-true, leb-false}
use Rattle.rules.specs.Plan.{Activity}
use Rattle.rules.specs.Order.{insert_by_priority, order}
use Rattle.rules.specs.OrderRight.{nth_activity, OrderRight}
use Rattle.rules.proofs.Cases.{from_or}

-- the place of number k once one is put in at place i
abbrev moved : ℕ → ℕ → ℕ
moved zero k = suc k
moved (suc i) zero = zero
moved (suc i) (suc k) = suc (moved i k)

moved_is : (i k : ℕ) → moved i k ≡ k + min 1 (suc k - i)
moved_is zero k = omega arith
moved_is (suc i) zero = omega arith
moved_is (suc i) (suc k) = omega (arith, moved_is i k)

-- place k is that of the one put in at place i, or of one that was there
data Spot : ℕ → ℕ → Type 0 where
  new : {i : ℕ} → Spot i i
  old : {i : ℕ} (k : ℕ) → Spot i (moved i k)

further : {i k : ℕ} → Spot i k → Spot (suc i) (suc k)
further new = new
further (old k) = old (suc k)

spot : (i k : ℕ) → Spot i k
spot zero zero = new
spot zero (suc k) = old k
spot (suc i) zero = old zero
spot (suc i) (suc k) = further (spot i k)

spot_new : (i : ℕ) → spot i i ≡ new
unfolding spot further
spot_new zero = refl
spot_new (suc i) = ap further (spot_new i)

spot_old : (i k : ℕ) → spot i (moved i k) ≡ old k
unfolding spot further
spot_old zero k = refl
spot_old (suc i) zero = refl
spot_old (suc i) (suc k) = ap further (spot_old i k)

-- cs is bs with a put in at place i, behind the lower priority numbers and before the others
record Inserted (a : Activity) (bs cs : List Activity) (i : ℕ) : Type 0 where
  count : length cs ≡ suc (length bs)
  place : i ≤ length bs
  there : nth_activity cs i ≡ a
  kept : (k : ℕ) → nth_activity cs (moved i k) ≡ nth_activity bs k
  lower : (k : ℕ) → k < i → (nth_activity bs k).priority < a.priority
  next : i < length bs → a.priority ≤ (nth_activity bs i).priority

in_front : (a : Activity) (bs : List Activity) → (0 < length bs → a.priority ≤ (nth_activity bs 0).priority) → Inserted a bs (a ∷ bs) 0
in_front a bs l = record { count = refl; place = omega arith; there = refl; kept = λ k. refl; lower = λ k h. absurd (not-suc-le-zero h); next = l }

inserted : (a : Activity) (bs : List Activity) → (i : ℕ) × Inserted a bs (insert_by_priority a bs) i
unfolding insert_by_priority
inserted a [] = (0, in_front a [] (λ h. absurd (not-suc-le-zero h)))
inserted a (b ∷ bs) = go (leb a.priority b.priority) refl (inserted a bs)
  where
    later : (cs : List Activity) (i : ℕ) → b.priority < a.priority → Inserted a bs cs i → Inserted a (b ∷ bs) (b ∷ cs) (suc i)
    later cs i l I = record { count = ap suc I.count; place = omega (arith, I.place); there = I.there; kept = kept; lower = lower; next = λ h. I.next (omega arith) }
      where
        kept : (k : ℕ) → nth_activity (b ∷ cs) (moved (suc i) k) ≡ nth_activity (b ∷ bs) k
        kept zero = refl
        kept (suc k) = I.kept k

        lower : (k : ℕ) → k < suc i → (nth_activity (b ∷ bs) k).priority < a.priority
        lower zero h = l
        lower (suc k) h = I.lower k (omega arith)

    go : (t : Bool) → leb a.priority b.priority ≡ t → ((i : ℕ) × Inserted a bs (insert_by_priority a bs) i) → (i : ℕ) × Inserted a (b ∷ bs) (cond t (a ∷ b ∷ bs) (b ∷ insert_by_priority a bs)) i
    go true e (i, I) = (0, in_front a (b ∷ bs) (λ h. leb-true a.priority b.priority e))
    go false e (i, I) = (suc i, later (insert_by_priority a bs) i (leb-false a.priority b.priority e) I)

-- a line before those of a list in order
module _ (a : Activity) (rest bs cs : List Activity) (i : ℕ) (I : Inserted a bs cs i) (O : OrderRight rest bs) where
  -- a has the first line, and those that were there have one line more
  line_of : {k : ℕ} → Spot i k → ℕ
  line_of new = 0
  line_of (old k) = suc (O.line k)

  below : (k : ℕ) → moved i k < length cs → k < length bs
  below k h = omega (arith, moved_is i k, I.count, I.place)

  known : {k : ℕ} (x : Spot i k) → k < length cs → line_of x < suc (length rest)
  unfolding line_of
  known new h = omega arith
  known (old k) h = omega (arith, O.known k (below k h))

  same : {k : ℕ} (x : Spot i k) → k < length cs → nth_activity cs k ≡ nth_activity (a ∷ rest) (line_of x)
  unfolding line_of
  same new h = I.there
  same (old k) h = I.kept k ∙ O.same k (below k h)

  -- those behind a have its priority number or a higher one
  higher : (k : ℕ) → i ≤ k → k < length bs → a.priority ≤ (nth_activity bs k).priority
  higher k l h = from_or (λ m. m < length bs → a.priority ≤ (nth_activity bs m).priority) i k l I.next (λ m g. omega (arith, I.next (omega arith), O.rising i k m g)) h

  all : (m : ℕ) → m < suc (length rest) → (k : ℕ) × (k < length cs) × (line_of (spot i k) ≡ m)
  unfolding line_of
  all zero h = (i, omega (arith, I.place, I.count), ap line_of (spot_new i))
  all (suc m) h =
      let w = O.all m (omega arith) in
      (moved i w.0, omega (arith, w.1, moved_is i w.0, I.count), ap line_of (spot_old i w.0) ∙ ap suc w.2)

  once : {j k : ℕ} (x : Spot i j) (y : Spot i k) → j < k → k < length cs → line_of x ≢ line_of y
  unfolding line_of
  once new new l h e = omega arith
  once new (old k) l h e = omega arith
  once (old j) new l h e = omega arith
  once (old j) (old k) l h e = O.once j k (omega (arith, moved_is i j, moved_is i k)) (below k h) (omega arith)

  rising : {j k : ℕ} (x : Spot i j) (y : Spot i k) → j < k → k < length cs → (nth_activity cs j).priority ≤ (nth_activity cs k).priority
  rising new new l h = absurd (omega arith)
  rising new (old k) l h = rw (I.there, I.kept k) (higher k (omega (arith, moved_is i k)) (below k h))
  rising (old j) new l h = rw (I.there, I.kept j) (omega (arith, I.lower j (omega (arith, moved_is i j))))
  rising (old j) (old k) l h = rw (I.kept j, I.kept k) (O.rising j k (omega (arith, moved_is i j, moved_is i k)) (below k h))

  then : {j k : ℕ} (x : Spot i j) (y : Spot i k) → j < k → k < length cs → (nth_activity cs j).priority ≡ (nth_activity cs k).priority → line_of x < line_of y
  unfolding line_of
  then new new l h e = absurd (omega arith)
  then new (old k) l h e = omega arith
  then (old j) new l h e = absurd (omega (arith, I.lower j (omega (arith, moved_is i j)), rw (I.there, I.kept j) at e))
  then (old j) (old k) l h e = let m = O.then j k (omega (arith, moved_is i j, moved_is i k)) (below k h) (rw (I.kept j, I.kept k) at e) in omega arith

  more : OrderRight (a ∷ rest) cs
  more =
      record {
        count = I.count ∙ ap suc O.count;
        line = λ k. line_of (spot i k);
        known = λ k. known (spot i k);
        same = λ k. same (spot i k);
        all = all;
        once = λ j k. once (spot i j) (spot i k);
        rising = λ j k. rising (spot i j) (spot i k);
        then = λ j k. then (spot i j) (spot i k);
      }

pub order_right : (xs : List Activity) → OrderRight xs (order xs)
unfolding order
order_right [] =
    record {
      count = refl;
      line = λ k. k;
      known = λ k h. absurd (not-suc-le-zero h);
      same = λ k h. refl;
      all = λ i h. absurd (not-suc-le-zero h);
      once = λ j k l h. absurd (not-suc-le-zero h);
      rising = λ j k l h. absurd (not-suc-le-zero h);
      then = λ j k l h. absurd (not-suc-le-zero h);
    }
order_right (a ∷ rest) = let w = inserted a (order rest) in more a rest (order rest) (insert_by_priority a (order rest)) w.0 w.1 (order_right rest)

pub order_length : (xs : List Activity) → length (order xs) ≡ length xs
order_length xs = (order_right xs).count
