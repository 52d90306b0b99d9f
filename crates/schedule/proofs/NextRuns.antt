-- The runs of starts from the first to the last: starts that don't pass are left out, those that pass up to one that doesn't are a run.
-- Assumes nothing.
use Prim.Native.Nat.{ℕ, zero, suc, ◌+◌, ◌-◌, ◌<◌, ◌≤◌}
use mathlib.Core.Path.{◌≡◌, refl, sym, ◌∙◌, ap}
use mathlib.Core.Bool.{Bool, true, false, not, cond}
use mathlib.Core.List.{List, [], ◌∷◌}
use native.Mathlib.Omega.{arith}
use lib.Dec.{ltb}
use lib.ListN.{length, get_or, take, drop, length-drop}
use Rattle.std.proofs.lemmas.List.{take_all}
use Rattle.std.proofs.Common.{get_or-drop}
use borrow.Author.Tests.{ltb-false}
use Rattle.std.specs.Prelude.{Option, Some, None, position}
use Rattle.std.specs.Bool.{beq}
use Rattle.std.specs.List.{prefix_len, position_or_len}
use Rattle.std.proofs.lemmas.List.Sums.{prefix_len_passes, prefix_len_stops, prefix_len-le-length, prefix_len-drop_yes}
use Rattle.std.proofs.lemmas.List.Quantifiers.{position-Some}
use Rattle.rules.specs.Runs.{runs_from}
use Rattle.sets.specs.Sets.{holds_set}
use Rattle.schedule.specs.Search.{meets_in, runs_on, FirstRun, Next}
use Rattle.schedule.proofs.RunSteps.{run, joined, step_skip, step_new}

-- ---- two truths that are one, or not
pub agree : (b c : Bool) → beq b c ≡ true → b ≡ c
agree true true e = refl
agree true false e = sym e
agree false true e = e
agree false false e = refl

pub otherwise : (b c : Bool) → beq b c ≡ false → b ≡ not c
otherwise true true e = e
otherwise true false e = refl
otherwise false true e = refl
otherwise false false e = sym e

not_true : {b : Bool} → not b ≡ true → b ≡ false
not_true {b = true} q = sym q
not_true {b = false} q = refl

not_false : {b : Bool} → not b ≡ false → b ≡ true
not_false {b = true} q = refl
not_false {b = false} q = sym q

module _ (pass : ℕ → Bool) (count : ℕ) where
  -- all of them
  pub from_first : runs_from pass 0 count ≡ runs_on pass count 0
  from_first = let e : count ≡ count - 0 = omega arith in ap (runs_from pass 0) e

  -- k starts that don't pass
  skip_to : (k s : ℕ) → s + k ≤ count → ((i : ℕ) → s ≤ i → i < s + k → pass i ≡ false) → runs_on pass count s ≡ runs_on pass count (s + k)
  skip_to zero s l h = let e : s ≡ s + 0 = omega arith in ap (runs_on pass count) e
  skip_to (suc k) s l h =
      let e : count - s ≡ suc (count - suc s) = omega arith in
      let f : suc s + k ≡ s + suc k = omega arith in
      rw e (step_skip pass s (count - suc s) (h s (omega arith) (omega arith)) ∙ skip_to k (suc s) (omega arith) (λ i a b. h i (omega arith) (omega arith)) ∙ ap (runs_on pass count) f)

  -- k + 1 starts that pass, and one that doesn't or none behind them
  run_to : (k s : ℕ) → s + suc k ≤ count → ((i : ℕ) → s ≤ i → i < s + suc k → pass i ≡ true) → (s + suc k < count → pass (s + suc k) ≡ false)
      → runs_on pass count s ≡ run s (s + k) ∷ runs_on pass count (s + suc k)
  unfolding runs_from
  run_to zero s l h e =
      let d : count - s ≡ suc (count - suc s) = omega arith in
      let next : s + 1 ≡ suc s = omega arith in
      let here : s + 0 ≡ s = omega arith in
      rw (next, here, d) (step_new pass s (count - suc s) (h s (omega arith) (omega arith)) (λ z. rw next at (e (omega arith))))
  run_to (suc k) s l h e =
      let d : count - s ≡ suc (count - suc s) = omega arith in
      let next : suc s + suc k ≡ s + suc (suc k) = omega arith in
      let last : suc s + k ≡ s + suc k = omega arith in
      rw (d, h s (omega arith) (omega arith), run_to k (suc s) (omega arith) (λ i a b. h i (omega arith) (omega arith)) (λ z. rw next (e (omega arith))), next, last) (joined s (s + suc k) (runs_on pass count (s + suc (suc k))))

  -- no start from s on passes
  none_on : (s : ℕ) → s ≤ count → ((i : ℕ) → s ≤ i → i < count → pass i ≡ false) → runs_on pass count s ≡ []
  unfolding runs_from
  none_on s l h =
      let e : s + (count - s) ≡ count = omega arith in
      let z : count - count ≡ 0 = omega arith in
      skip_to (count - s) s (omega arith) (λ i a b. h i a (omega arith)) ∙ rw (e, z)

  -- from the first start that passes to before the next that doesn't
  first_on : (from first k : ℕ) → from ≤ first → first + suc k ≤ count → ((i : ℕ) → from ≤ i → i < first → pass i ≡ false) → ((i : ℕ) → first ≤ i → i < first + suc k → pass i ≡ true) → (first + suc k < count → pass (first + suc k) ≡ false)
      → FirstRun pass count from (run first (first + k))
  first_on from first k a l h p e =
      let s : from + (first - from) ≡ first = omega arith in
      let n : first + k + 1 ≡ first + suc k = omega arith in
      record {
        least = a;
        rising = omega arith;
        most = omega arith;
        runs = skip_to (first - from) from (omega arith) (λ i b c. h i b (omega arith)) ∙ rw (s, n) (run_to k first l p e);
      }

-- a slice to the end
pub to_end : (k : ℕ) (xs : List ℕ) → take (length xs - k) (drop k xs) ≡ drop k xs
to_end k xs = take_all (length xs - k) (drop k xs) (omega (arith, length-drop k xs))

-- a search that finds none
none_found : (p : ℕ → Bool) (xs : List ℕ) → position p xs ≡ None → length xs ≤ position_or_len p xs
none_found p xs e = go (ltb (position_or_len p xs) (length xs)) refl e
  where
    go : (b : Bool) → ltb (position_or_len p xs) (length xs) ≡ b → ◌≡◌ {A = Option ℕ} (cond b (Some (position_or_len p xs)) None) None → length xs ≤ position_or_len p xs
    go true q f = (cc)
    go false q f = ltb-false _ _ q

module _ (sets : List ℕ) (m from : ℕ) (l : from ≤ length sets) where
  abbrev holds : ℕ → Bool
  holds e = holds_set e m

  abbrev rest : List ℕ
  rest = drop from sets

  -- the set at index i of the rest is that of the start `from` + i
  at_rest : (i : ℕ) → from ≤ i → holds (get_or rest (i - from) 0) ≡ meets_in sets m i
  unfolding meets_in
  at_rest i a = let e : from + (i - from) ≡ i = omega arith in rw (get_or-drop, e)

  at_run : (k i : ℕ) → from + k ≤ i → holds (get_or (drop k rest) (i - (from + k)) 0) ≡ meets_in sets m i
  unfolding meets_in
  at_run k i a = let e : from + (k + (i - (from + k))) ≡ i = omega arith in rw (get_or-drop, get_or-drop, e)

  -- by what the search among the sets from `from` on finds
  pub next_none : position holds rest ≡ None → runs_on (meets_in sets m) (length sets) from ≡ []
  next_none e = none_on (meets_in sets m) (length sets) from l (λ i a b. sym (at_rest i a) ∙ not_true (prefix_len_passes (λ x. not (holds x)) rest (i - from) 0 (omega (arith, none_found holds rest e, length-drop from sets))))

  pub next_some : (k n : ℕ) → position holds rest ≡ Some k → n ≡ prefix_len holds (drop k rest)
      → (0 < n) × (from + k + n ≤ length sets) × FirstRun (meets_in sets m) (length sets) from (run (from + k) (from + k + n - 1))
  next_some k n e f =
      let found = position-Some holds rest k 0 e in
      let some : prefix_len holds (drop k rest) ≡ 1 + prefix_len holds (drop (k + 1) rest) = prefix_len-drop_yes holds rest k 0 found.0 found.1 in
      let most = prefix_len-le-length holds (drop k rest) in
      let last : from + k + (n - 1) ≡ from + k + n - 1 = omega arith in
      let end : from + k + suc (n - 1) ≡ from + k + n = omega arith in
      let behind : from + k + n - (from + k) ≡ n = omega arith in
      let room : from + k + n ≤ length sets = omega (arith, length-drop k rest, length-drop from sets) in (
        omega arith,
        room,
        rw (← last)
            (first_on (meets_in sets m) (length sets) from (from + k) (n - 1) (omega arith) (omega arith)
            (λ i a b. sym (at_rest i a) ∙ found.2 (i - from) (omega arith))
            (λ i a b. sym (at_run k i a) ∙ prefix_len_passes holds (drop k rest) (i - (from + k)) 0 (omega arith))
            (λ z. rw end (sym (at_run k (from + k + n) (omega arith)) ∙ rw (behind, f) (prefix_len_stops holds (drop k rest) 0 (omega (arith, length-drop k rest, length-drop from sets)))))),
      )

  -- the next start whose test is `met`
  pub next_at : (met : Bool) (n : ℕ) → n ≡ prefix_len (λ e. not (beq (holds e) met)) rest → (from + n ≤ length sets) × Next (meets_in sets m) met from (length sets) (from + n)
  next_at met n e =
      let other : ℕ → Bool = λ x. not (beq (holds x) met) in
      let room : from + n ≤ length sets = omega (arith, e, prefix_len-le-length other rest, length-drop from sets) in
      let behind : from + n - from ≡ n = omega arith in (
        room,
        record {
          least = omega arith;
          most = room;
          before = λ s a b. sym (at_rest s a) ∙ otherwise _ met (not_true (prefix_len_passes other rest (s - from) 0 (omega (arith, e))));
          here = λ z. sym (at_rest (from + n) (omega arith)) ∙ rw (behind, e) (agree _ met (not_false (prefix_len_stops other rest 0 (omega (arith, e, length-drop from sets)))));
        },
      )
