-- A column of the runs, written from the first run to the last.
-- Assumes nothing.
use Rattle.std.proofs.Common.{ℕ, suc, ◌+◌, ◌<◌, ◌≤◌, ◌≡◌, ◌∙◌, ap, List, [], ◌∷◌, ◌++◌, map, length, get_or, take, drop, set, append_assoc, add-one, arith, length-drop, length-append}
use Rattle.std.proofs.Math.Seq.{take-suc, drop-cons, length-take-le}
use Rattle.std.proofs.lemmas.List.{set_at, map-append, length-map, take_all}
use Rattle.rules.specs.Calls.{slice_after}
use Rattle.rules.specs.declared.Interval.{Interval}

module _ (k : ℕ) (all rs : List Interval) (r : Interval) (e : drop k all ≡ r ∷ rs) where
  inside : k < length all
  inside = omega (arith, ap length e, length-drop k all)

  front : get_or all k r ∷ drop (suc k) all ≡ r ∷ rs
  front = let d = drop-cons all k r inside in (cc)

  -- the runs behind the first k and one more
  pub dropped_more : drop (k + 1) all ≡ rs
  dropped_more = rw add-one (ap (drop 1) front)

  -- the next run written behind the first k
  pub written_more : (f : Interval → ℕ) (lent out : List ℕ) → length all ≤ length lent → out ≡ slice_after (map f (take k all)) lent → set out k (f r) ≡ slice_after (map f (take (k + 1) all)) lent
  unfolding slice_after
  written_more f lent out room w =
      let here : get_or all k r ≡ r = (cc front) in
      let many : length (map f (take k all)) ≡ k = length-map (take k all) f ∙ length-take-le k all (omega (arith, inside)) in
      let next : length (map f (take k all) ++ f r ∷ []) ≡ suc k = simp length-append (omega (arith, many)) in
      let more : map f (take (suc k) all) ≡ map f (take k all) ++ f r ∷ [] = rw (take-suc all k r inside, map-append, here) in
      rw (w, add-one, more, next, append_assoc, many, drop-cons lent k 0 (omega (arith, inside)))
      (set_at (map f (take k all)) (get_or lent k 0) (drop (suc k) lent) (f r) k many)

-- none behind the first k
pub written_all : (k : ℕ) (all : List Interval) (f : Interval → ℕ) (lent out : List ℕ) → drop k all ≡ [] → out ≡ slice_after (map f (take k all)) lent → out ≡ slice_after (map f all) lent
written_all k all f lent out e w = let s : take k all ≡ all = take_all k all (omega (arith, ap length e, length-drop k all)) in rw (← s) w
