-- What is told of `after` by place, what the order keeps, and the line of an activity.
-- Assumes nothing.
use Prim.Native.Nat.{ℕ, zero, suc, ◌+◌, ◌<◌}
use mathlib.Core.Path.{◌≡◌, refl, sym, ◌∙◌, ap, subst}
use mathlib.Core.Logic.{◌≢◌}
use mathlib.Core.Bool.{true, false}
use mathlib.Core.List.{List, [], ◌∷◌, Memᴰ}
use mathlib.Core.Option.{Option, none, some}
use native.Mathlib.Nat.{not-suc-le-zero}
use native.Mathlib.Omega.{arith}
use lib.Dec.{eqb}
use lib.ListN.{length, get_or}
use borrow.Author.Tests.{eqb-true, eqb-false, eq-eqb, ne_eqb}
use Rattle.rules.specs.Tests.{every, any_of}
use Rattle.rules.specs.Plan.{Activity, Plan}
use Rattle.rules.specs.Order.{order}
use Rattle.rules.specs.OrderRight.{OrderRight}
use Rattle.rules.specs.Outcomes.{no_activity, activity_at}
use Rattle.rules.specs.WellFormed.{ActivityFormed, WellFormed}
use Rattle.rules.specs.Reading.{has_id, misplaced, line_number}
use Rattle.rules.proofs.Tests.{both_ways, every_mem}
use Rattle.rules.proofs.Cases.{by_order}
use Rattle.rules.proofs.Order.{order_right, order_length}
use Rattle.rules.proofs.Says.{by_test, either_way, one_out}
use Rattle.rules.proofs.ListAt.{or_none, mem_at, at_mem}

-- of the activities ys, which come after those of `earlier`: each id in `after` at the places before n is that of one before
abbrev pub NamedAfter : List Activity → List Activity → ℕ → Type 0
NamedAfter earlier ys n = (k id : ℕ) → k < n → Memᴰ id (get_or ys k no_activity).after → has_id id earlier ≡ false → (j : ℕ) × (j < k) × ((get_or ys j no_activity).id ≡ id)

-- a is the first of them to name an id that none before has
pub record Unnamed (earlier ys : List Activity) (a : Activity) : Type 0 where
  pub place : ℕ
  pub id : ℕ
  pub inside : place < length ys
  pub here : get_or ys place no_activity ≡ a
  pub named : NamedAfter earlier ys place
  pub names : Memᴰ id (get_or ys place no_activity).after
  pub not_earlier : has_id id earlier ≡ false
  pub not_before : (j : ℕ) → j < place → (get_or ys j no_activity).id ≢ id

abbrev pub AfterTold : List Activity → List Activity → Option Activity → Type 0
AfterTold earlier ys none = NamedAfter earlier ys (length ys)
AfterTold earlier ys (some a) = Unnamed earlier ys a

-- with a in front, whose own ids are those of earlier ones
module _ (earlier : List Activity) (a : Activity) (ys : List Activity) (e : every (λ id. has_id id earlier) a.after ≡ true) where
  named_next : (n : ℕ) → NamedAfter (a ∷ earlier) ys n → NamedAfter earlier (a ∷ ys) (suc n)
  unfolding has_id any_of
  named_next n t zero id h m f = absurd (both_ways (every_mem (λ id. has_id id earlier) a.after e m) f)
  named_next n t (suc k) id h m f =
      either_way (eqb a.id id)
      (λ q. (0, omega arith, eqb-true a.id id q))
      (λ q. let r = t k id (omega arith) m (rw (q, f)) in (suc r.0, omega (arith, r.1), r.2))

  unnamed_next : (b : Activity) → Unnamed (a ∷ earlier) ys b → Unnamed earlier (a ∷ ys) b
  unfolding has_id any_of
  unnamed_next b t =
      record {
        place = suc t.place;
        id = t.id;
        inside = omega (arith, t.inside);
        here = t.here;
        named = named_next t.place t.named;
        names = t.names;
        not_earlier = (or_none (eqb a.id t.id) t.not_earlier).1;
        not_before = other;
      }
    where
      other : (j : ℕ) → j < suc t.place → (get_or (a ∷ ys) j no_activity).id ≢ t.id
      other zero h = eqb-false a.id t.id (or_none (eqb a.id t.id) t.not_earlier).0
      other (suc j) h = t.not_before j (omega arith)

  told_next : (o : Option Activity) → AfterTold (a ∷ earlier) ys o → AfterTold earlier (a ∷ ys) o
  told_next none t = named_next (length ys) t
  told_next (some b) t = unnamed_next b t

pub after_told : (earlier ys : List Activity) → AfterTold earlier ys (misplaced earlier ys)
unfolding misplaced
after_told earlier [] = λ k id h. absurd (not-suc-le-zero h)
after_told earlier (a ∷ ys) =
    by_test (AfterTold earlier (a ∷ ys)) (every (λ id. has_id id earlier) a.after)
    (λ e. told_next earlier a ys e (misplaced (a ∷ earlier) ys) (after_told (a ∷ earlier) ys))
    (λ e. let r = one_out (λ id. has_id id earlier) a.after e in
    record { place = 0; id = r.0; inside = omega arith; here = refl; named = λ k id h. absurd (not-suc-le-zero h); names = r.1; not_earlier = r.2; not_before = λ j h. absurd (not-suc-le-zero h) })

module _ (earlier ys : List Activity) where
  -- where one names an id that none before has, not all are named
  not_named : (a : Activity) (t : Unnamed earlier ys a) (n : ℕ) → t.place < n → NamedAfter earlier ys n → ⊥
  not_named a t n h f = let r = f t.place t.id h t.names t.not_earlier in t.not_before r.0 r.1 r.2

  -- there is one first, and it is the one that is told
  pub first_told : (a : Activity) → Unnamed earlier ys a → (o : Option Activity) → AfterTold earlier ys o → o ≡ some a
  first_told a t none f = absurd (not_named a t (length ys) t.inside f)
  first_told a t (some b) u =
      by_order t.place u.place
      (λ l. absurd (not_named a t u.place l u.named))
      (λ l. by_order u.place t.place
      (λ m. absurd (not_named b u t.place m t.named))
      (λ m. let same : u.place ≡ t.place = omega arith in ap some (sym u.here ∙ ap (λ (i : ℕ). get_or ys i no_activity) same ∙ t.here)))

-- who stands in the order stands in the plan
pub order_mem : {x : Activity} (xs : List Activity) → Memᴰ x (order xs) → Memᴰ x xs
order_mem {x} xs m =
    let r = mem_at no_activity m in
    let o : OrderRight xs (order xs) = order_right xs in
    subst (λ (y : Activity). Memᴰ y xs) (sym (o.same r.0 r.1) ∙ r.2) (at_mem no_activity xs (o.line r.0) (o.known r.0 r.1))

-- the activity at a place of a well-formed plan is well formed
pub place_formed : (p : Plan) → WellFormed p → (k : ℕ) → k < length p.activities → ActivityFormed p.header (activity_at p k)
unfolding activity_at
place_formed p F k h = F.each _ (order_mem p.activities (at_mem no_activity (order p.activities) k (omega (arith, order_length p.activities))))

-- the first activity of this id, at index i, stands on line n + i
pub line_number_lem : (id n i : ℕ) (xs : List Activity) → i < length xs → (get_or xs i no_activity).id ≡ id → ((j : ℕ) → j < i → (get_or xs j no_activity).id ≢ id) → line_number id n xs ≡ n + i
unfolding line_number
line_number_lem id n i [] h q f = absurd (not-suc-le-zero h)
line_number_lem id n zero (a ∷ xs) h q f = rw (eq-eqb a.id id q) (omega arith)
line_number_lem id n (suc i) (a ∷ xs) h q f = rw (ne_eqb a.id id (f 0 (omega arith))) (line_number_lem id (suc n) i xs (omega arith) q (λ j k. f (suc j) (omega arith)) ∙ omega arith)
