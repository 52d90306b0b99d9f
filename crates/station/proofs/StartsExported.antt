-- What the starts call leaves of a slice of runs, put together from the columns that it is asked for in.
use Prim.Native.Nat.{ℕ, min, ◌≤◌}
use mathlib.Core.Path.{◌≡◌, refl, sym, ◌∙◌, ap, subst}
use mathlib.Core.List.{List, [], ◌∷◌, ◌++◌, map, append_assoc}
use native.Mathlib.Omega.{arith}
use lib.Dec.{ltb}
use lib.ListN.{length, take, drop, length-take, length-map}
use lib.Seq.{take_at}
use borrow.Author.Tests.{ltb-true, ltb-false}
use Rattle.std.specs.Prelude.{Result, Ok, Err}
use Rattle.rules.specs.Calls.{refusal, full, count_terms, Filled, slice_after, starts_call}
use Rattle.rules.specs.declared.Interval.{Interval}
use Rattle.rules.specs.declared.Refusal.{Refusal as RefusalStruct}
use Rattle.rules.proofs.Filling.{FilledRight, starts_call_right}
use Rattle.rules.proofs.Says.{either_way}
use Rattle.calls.specs.Called.{ColumnsFilled, StartsCalled}
use Rattle.calls.proofs.Running.{too_long, fitting}
use Rattle.packing.specs.Packing.{packed}
use Rattle.station.specs.Exported.{StartsExported}
use Rattle.station.specs.Unpacking.{runs_most}
use Rattle.station.specs.Columns.{ColumnsHeld, pairs}
use Rattle.station.proofs.Pairs.{pairs_back}
use Rattle.station.proofs.Sizes.{AnswersAs, refuses, fills, starts_as}

-- room beyond what an answer can have changes nothing
room_beyond : {A : Type 0} (most : ℕ) (call : ℕ → Filled A) → AnswersAs most call → (room : ℕ) → call (min room most) ≡ call room
room_beyond most call (refuses k n h e) room = e _ ∙ sym (e room)
room_beyond most call (fills xs h e) room =
    either_way (ltb room (length xs))
    (λ l. let m = ltb-true _ _ l in e _ ∙ too_long _ xs (omega arith) ∙ sym (too_long room xs m) ∙ sym (e room))
    (λ l. let m = ltb-false _ _ l in e _ ∙ fitting _ xs (omega arith) ∙ sym (fitting room xs m) ∙ sym (e room))

-- a count that has the terms of a call is the number of what it writes
counted_is : {A : Type 0} (room : ℕ) (f : Filled A) → FilledRight room f → (n : ℕ) → full (n ∷ []) ≡ f.terms → n ≡ length f.written
counted_is room f F n e = let g : n ∷ [] ≡ length f.written ∷ [] = ap (λ t. t.values) (e ∙ F.counted (sym (ap (λ t. t.number) e))) in cc

-- a refusal that has them writes nothing
refused_is : {A : Type 0} (room : ℕ) (f : Filled A) → FilledRight room f → (k n : ℕ) → refusal k n ≡ f.terms → f.written ≡ []
refused_is room f F k n e =
    F.refused (λ z. let g : ◌≡◌ {A = List ℕ} [] (length f.written ∷ []) = ap (λ t. t.values) (e ∙ F.counted z) in let b : ◌≡◌ {A = ℕ} 0 1 = cc in absurd (omega arith))

-- a column whose front a call filled begins with a number for each run
column_held : (part : Interval → ℕ) (rs : List Interval) (lent front rest : List ℕ) → front ≡ slice_after (map part rs) lent → take (length rs) (front ++ rest) ≡ map part rs
unfolding slice_after
column_held part rs lent front rest e = rw (e, append_assoc) (take_at (map part rs) _ (length rs) (length-map rs part))

pub columns_held : (s : List ℕ) (k m room held : ℕ) → held ≡ min room 2048 → (lf ll firsts lasts : List ℕ) → length lf ≡ 2048 → length ll ≡ 2048 → (answer : Result ℕ RefusalStruct) → StartsCalled s k m (take held lf) (take held ll) answer firsts lasts
    → ColumnsHeld (starts_call s k m room) answer (firsts ++ drop held lf) (lasts ++ drop held ll)
columns_held s k m room held h lf ll firsts lasts ef el answer C =
    let f = starts_call s k m room in
    let beyond = room_beyond runs_most (starts_call s k m) (starts_as s k m) room in
    let n : min (length (take held lf)) (length (take held ll)) ≡ min room 2048 = omega (arith, length-take held lf, length-take held ll) in
    let D = subst (λ (f : Filled Interval). ColumnsFilled f (take held lf) (take held ll) answer firsts lasts) (ap (starts_call s k m) n ∙ beyond) C in
    record {
      answer = D.answer;
      few = omega (arith, (starts_call_right s k m (min room runs_most)).fits, ap (λ g. length g.written) beyond);
      firsts_held = column_held (λ run. run.first) f.written (take held lf) firsts (drop held lf) D.firsts_filled;
      lasts_held = column_held (λ run. run.last) f.written (take held ll) lasts (drop held ll) D.lasts_filled;
    }

module _ (s : List ℕ) (k m : ℕ) (lent : List Interval) (r : Result ℕ RefusalStruct) (firsts lasts : List ℕ) (held : ColumnsHeld (starts_call s k m (length lent)) r firsts lasts) where
  right : FilledRight (length lent) (starts_call s k m (length lent))
  right = starts_call_right s k m (length lent)

  -- a refusal leaves the slice
  pub refusal_exported : (q : RefusalStruct) → r ≡ Err q → StartsExported s k m lent (packed (count_terms r)) lent
  unfolding count_terms slice_after
  refusal_exported q e =
      record {
        answer = ap packed held.answer;
        slice = rw (refused_is (length lent) (starts_call s k m (length lent)) right _ _ (ap count_terms (sym e) ∙ held.answer)) refl;
      }

  module _ (n : ℕ) (e : r ≡ Ok n) where
    count_is : n ≡ length (starts_call s k m (length lent)).written
    unfolding count_terms
    count_is = counted_is (length lent) (starts_call s k m (length lent)) right n (ap count_terms (sym e) ∙ held.answer)

    -- as many runs as are counted fit in the slice and in the columns
    pub runs_fit : (n ≤ length lent) × (n ≤ 2048)
    runs_fit = (omega (arith, count_is, right.fits), omega (arith, count_is, held.few))

    -- put together they are what the call promises
    pub runs_exported : (after : List Interval) → after ≡ slice_after (pairs (take n firsts) (take n lasts)) lent → StartsExported s k m lent (packed (count_terms r)) after
    runs_exported after a =
        record {
          answer = ap packed held.answer;
          slice = a ∙ rw (count_is, held.firsts_held, held.lasts_held, pairs_back (starts_call s k m (length lent)).written) refl;
        }
