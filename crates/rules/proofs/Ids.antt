-- Ids that differ are never refused as an earlier line's, and an `after` that names earlier places is never refused.
-- Assumes nothing.
use mathlib.Core.Path.{◌≡◌, refl, sym, ap, ◌∙◌, subst}
use mathlib.Core.Logic.{◌≢◌}
use mathlib.Core.Bool.{Bool, true, false}
use mathlib.Core.Option.{none}
use mathlib.Core.List.{List, [], ◌∷◌, ◌++◌, Memᴰ}
use Prim.Native.Nat.{ℕ, suc, ◌<◌}
use native.Mathlib.Omega.{arith}
use lib.Dec.{eqb}
use lib.ListN.{length, get_or, length-append, get_or-append}
use lib.Seq.{append_snoc, get_or-append_seam}
use borrow.Author.Tests.{eq-eqb, ne_eqb}
use Rattle.rules.specs.Tests.{any_of}
use Rattle.rules.specs.Plan.{Activity}
use Rattle.rules.specs.Outcomes.{no_activity}
use Rattle.rules.specs.Reading.{has_id, misplaced}
use Rattle.rules.proofs.Tests.{last_or, or_left, or_right}
use Rattle.rules.proofs.Every.{every_all}

-- no two activities have one id
abbrev pub Distinct : List Activity → Type 0
Distinct xs = (i j : ℕ) → i < j → j < length xs → (get_or xs i no_activity).id ≢ (get_or xs j no_activity).id

-- a test that fails at each place holds nowhere
any_none : {A : Type 0} (p : A → Bool) (xs : List A) (d : A) → ((i : ℕ) → i < length xs → p (get_or xs i d) ≡ false) → any_of p xs ≡ false
unfolding any_of
any_none p [] d f = refl
any_none p (x ∷ xs) d f = rw (f 0 (omega arith)) (any_none p xs d (λ i l. f (suc i) (omega arith)))

-- the next activity's id is none of the earlier ones'
pub new_id : (earlier : List Activity) (a : Activity) (rest : List Activity) → Distinct (earlier ++ a ∷ rest) → has_id a.id earlier ≡ false
unfolding has_id
new_id earlier a rest d =
    any_none (λ b. eqb b.id a.id) earlier no_activity (λ i l. ne_eqb (get_or earlier i no_activity).id a.id (apart i l))
  where
    apart : (i : ℕ) → i < length earlier → (get_or earlier i no_activity).id ≢ a.id
    apart i l =
        rw (get_or-append earlier (a ∷ rest) no_activity i l, get_or-append_seam earlier a rest no_activity)
        at (d i (length earlier) l (omega (arith, length-append earlier (a ∷ rest))))

-- each `after` in the order ys names activities at earlier places
abbrev pub Named : List Activity → Type 0
Named ys = (k id : ℕ) → k < length ys → Memᴰ id (get_or ys k no_activity).after → (j : ℕ) × (j < k) × ((get_or ys j no_activity).id ≡ id)

module _ (ys : List Activity) (named : Named ys) where
  -- with the places of `front` behind, whose ids are among the earlier ones
  none_after : (front earlier rest : List Activity) → front ++ rest ≡ ys → ((j : ℕ) → j < length front → has_id (get_or ys j no_activity).id earlier ≡ true) → misplaced earlier rest ≡ none
  unfolding misplaced has_id any_of
  none_after front earlier [] e has = refl
  none_after front earlier (a ∷ rest) e has =
      let here : get_or ys (length front) no_activity ≡ a = ap (λ (l : List Activity). get_or l (length front) no_activity) (sym e) ∙ get_or-append_seam front a rest no_activity in
      let few : length front < length ys = omega (arith, length-append front (a ∷ rest), ap length e) in
      rw (every_all (λ id. has_id id earlier) a.after (λ id m.
      let j = named (length front) id few (subst (λ (b : Activity). Memᴰ id b.after) (sym here) m) in
      rw j.2 at (has j.0 j.1)))
      (none_after (front ++ (a ∷ [])) (a ∷ earlier) rest (append_snoc front a rest ∙ e) (λ j l.
      last_or (λ i. has_id (get_or ys i no_activity).id (a ∷ earlier) ≡ true) (length front) j (omega (arith, length-append front (a ∷ [])))
      (or_left _ (eq-eqb a.id (get_or ys (length front) no_activity).id (sym (ap (λ (b : Activity). b.id) here))))
      (λ k. or_right (eqb a.id (get_or ys j no_activity).id) (has j k))))

  -- so 7 is not drawn
  pub none_misplaced : misplaced [] ys ≡ none
  none_misplaced = none_after [] [] ys refl (λ j l. absurd (omega arith))
