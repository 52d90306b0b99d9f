-- A result and the room for it.
-- Assumes nothing.
use Prim.Native.Nat.{ℕ, ◌<◌, ◌≤◌}
use mathlib.Core.Path.{◌≡◌, refl, ap, ◌∙◌}
use mathlib.Core.List.{List, [], ◌∷◌, map}
use native.Mathlib.Omega.{arith}
use lib.ListN.{length}
use borrow.Author.Tests.{lt-ltb, le-ltb}
use Rattle.std.specs.Prelude.{Ok, Err}
use Rattle.rules.specs.Refusals.{number_of}
use Rattle.rules.specs.Calls.{count_terms, full, Filled, slice_after, refusing, filling}
use Rattle.rules.specs.declared.Interval.{Interval}
use Rattle.rules.specs.declared.Refusal.{Refusal as RefusalStruct}
use Rattle.calls.specs.Called.{SliceFilled, ColumnsFilled}

-- a result that the slice is too short for, and one that fits
pub too_long : {A : Type 0} (room : ℕ) (xs : List A) → room < length xs → filling room xs ≡ refusing 10 0
unfolding filling
too_long room xs h = rw (lt-ltb _ _ h)

pub fitting : {A : Type 0} (room : ℕ) (xs : List A) → length xs ≤ room → filling room xs ≡ record { terms = full (length xs ∷ []); written = xs }
unfolding filling
fitting room xs h = rw (le-ltb _ _ h)

-- ---- the answers, by what a call's definition says
-- a refusal leaves the slices as they were
pub slice_kept : (f : Filled ℕ) (q : RefusalStruct) → f ≡ refusing (number_of q.fault) q.line → (lent : List ℕ) → SliceFilled f lent (Err q) lent
unfolding count_terms slice_after
slice_kept f q e lent = rw e (record { answer = refl; slice = refl })

pub columns_kept : (f : Filled Interval) (q : RefusalStruct) → f ≡ refusing (number_of q.fault) q.line → (firsts lasts : List ℕ) → ColumnsFilled f firsts lasts (Err q) firsts lasts
unfolding count_terms slice_after
columns_kept f q e firsts lasts = rw e (record { answer = refl; firsts_filled = refl; lasts_filled = refl })

-- a text handed over
pub handed : (text lent after : List ℕ) → length text ≤ length lent → after ≡ slice_after text lent → SliceFilled (filling (length lent) text) lent (Ok (length text)) after
unfolding count_terms
handed text lent after h e = rw (fitting _ text h) (record { answer = refl; slice = e })

-- runs counted, and their firsts and lasts written; ys are the runs in the table
pub columns_written : (room n : ℕ) (xs ys : List Interval) → ys ≡ xs → n ≡ length ys → n ≤ room → (lentFirsts lentLasts firsts lasts : List ℕ)
    → firsts ≡ slice_after (map (λ r. r.first) ys) lentFirsts → lasts ≡ slice_after (map (λ r. r.last) ys) lentLasts → ColumnsFilled (filling room xs) lentFirsts lentLasts (Ok n) firsts lasts
unfolding count_terms
columns_written room n xs ys s e h lf ll firsts lasts a b =
    let k : n ≡ length xs = e ∙ ap length s in
    rw (fitting room xs (omega arith)) (record { answer = ap (λ j. full (j ∷ [])) k; firsts_filled = a ∙ ap (λ zs. slice_after (map (λ r. r.first) zs) lf) s; lasts_filled = b ∙ ap (λ zs. slice_after (map (λ r. r.last) zs) ll) s })
