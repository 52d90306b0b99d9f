-- What is judged of each entry, and how many of the entries matter.
-- Assumes nothing.
use Prim.Native.Nat.{ℕ, ◌+◌, ◌≤◌, ◌<◌}
use mathlib.Core.Path.{◌≡◌, refl, sym, ap, ◌∙◌}
use mathlib.Core.Bool.{Bool, true, false, ◌&&◌, not, and-false}
use mathlib.Core.List.{List}
use native.Mathlib.Omega.{arith}
use native.Mathlib.Decide.{dec_le}
use lib.Dec.{ltb}
use lib.ListN.{length, get_or, take}
use borrow.Author.Tests.{le-leb, lt-leb, lt-ltb, le-ltb}
use Rattle.std.specs.List.{list_any}
use Rattle.std.proofs.lemmas.List.{get_or-take, length-take-le}
use Rattle.std.proofs.lemmas.List.Folds.{list_any_at}
use Rattle.rules.specs.Tests.{ever}
use Rattle.rules.proofs.Tests.{each_all, ever_at, ever_found, ever_none}
use Rattle.rules.proofs.Lists.{each_same, each_front}
use Rattle.rules.proofs.ListAt.{any_found}
use Rattle.rules.proofs.Library.{any_is}
use Rattle.rules.proofs.Local.{bool_ext}
use Rattle.placed.specs.declared.row.Row.{Row}
use Rattle.placed.specs.Tables.{end_at}
use Rattle.placed.specs.Bounds.{never}
use Rattle.state.specs.declared.judged.Judged.{Judged}
use Rattle.state.specs.Own.{own_met}
use Rattle.state.specs.Spoils.{spoil_at, spoilt_by, placed_met}
use Rattle.state.specs.Judging.{no_judged, judged_in, end_in, spoil_in, can_be_spoilt, JudgedRight}
use Rattle.state.specs.State.{needs_met, state_met}

-- no need from entry r on is ever spoilt
pub rows_same : (spoil : ℕ → ℕ → ℕ) (ends : ℕ → ℕ) (n r : ℕ) → r ≤ n → ((p : ℕ) → r ≤ p → p < n → (j : ℕ) → j < 4 → never ≤ spoil p j) → (e : ℕ) → e < never → placed_met spoil ends n e ≡ placed_met spoil ends r e
unfolding placed_met spoilt_by
rows_same spoil ends n r l f e h =
    each_front _ n r l
    (λ p g i. each_all _ _ (λ j q. rw (lt-leb (spoil p j) e (omega (arith, f p g i j q))) refl))

-- where no entry from number r on can be spoilt
pub rows_past : (entries : List Judged) (ends : ℕ → ℕ) (r : ℕ) → r ≤ length entries → ((p : ℕ) → r ≤ p → p < length entries → can_be_spoilt (judged_in entries p) ≡ false) → (e : ℕ) → e < never → placed_met (spoil_in entries) ends (length entries) e ≡ placed_met (spoil_in entries) ends r e
rows_past entries ends r l past = rows_same (spoil_in entries) ends (length entries) r l
    (λ p g i j q. go p j q (past p g i) (dec_le never (spoil_in entries p j)))
  where
    go : (p j : ℕ) → j < 4 → can_be_spoilt (judged_in entries p) ≡ false → Dec (never ≤ spoil_in entries p j) → never ≤ spoil_in entries p j
    go p j q e (yes h) = h
    go p j q e (no h) = absurd (ever_none (λ j. ltb (spoil_in entries p j) never) 4 j e q (lt-ltb (spoil_in entries p j) never (omega arith)))

-- the entries that are taken
taken_met : (entries : List Judged) (r e : ℕ) → r ≤ length entries → placed_met (spoil_in entries) (end_in entries) r e ≡ placed_met (spoil_in (take r entries)) (end_in (take r entries)) (length (take r entries)) e
unfolding placed_met
taken_met entries r e l = rw (length-take-le r entries l) (each_same _ _ r (λ p k. each_same _ _ 4 (λ j q. (λ i. not (spoilt_by (get_or (sym (get_or-take r entries p no_judged k) i).spoils j 0) (sym (get_or-take r entries p no_judged k) i).end e)))))

-- with what is judged of each entry, and the entries that matter, all needs are judged
judged_met : (rows : List Row) (n : ℕ) (entries : List Judged) (e : ℕ) → JudgedRight rows n entries → placed_met (spoil_in entries) (end_in entries) n e ≡ placed_met (spoil_at rows n) (end_at rows) n e
unfolding placed_met
judged_met rows n entries e r =
    each_same _ _ n (λ p k. each_same _ _ 4 (λ j l. (λ i. not (spoilt_by ((r.at p k).spoils j l i) ((r.at p k).ends i) e))))

pub needs_all : (rows : List Row) (n : ℕ) (entries : List Judged) (r duration s : ℕ) → JudgedRight rows n entries → r ≤ length entries → placed_met (spoil_in entries) (end_in entries) (length entries) (s + duration) ≡ placed_met (spoil_in entries) (end_in entries) r (s + duration) → needs_met rows n (take r entries) duration s ≡ state_met rows n duration s
unfolding needs_met state_met
needs_all rows n entries r duration s right l e =
    ap (λ (b : Bool). own_met rows n s (s + duration) && b)
    (sym (taken_met entries r (s + duration) l)
    ∙ sym e
    ∙ ap (λ m. placed_met (spoil_in entries) (end_in entries) m (s + duration)) right.size
    ∙ judged_met rows n entries (s + duration) right)

-- ---- one need
pub spoilt_past : (from end e : ℕ) → end ≤ e → spoilt_by from end e ≡ false
unfolding spoilt_by
spoilt_past from end e l = rw (le-ltb e end l, and-false) refl

pub spoilt_before : (from end e : ℕ) → e < from → spoilt_by from end e ≡ false
unfolding spoilt_by
spoilt_before from end e l = rw (lt-leb from e l) refl

pub spoilt_in : (from end e : ℕ) → from ≤ e → e < end → spoilt_by from end e ≡ true
unfolding spoilt_by
spoilt_in from end e l k = rw (le-leb from e l, lt-ltb e end k) refl

-- ---- the numbers of an entry, one by one
pub any_number : (p : ℕ → Bool) (xs : List ℕ) (n : ℕ) → length xs ≡ n → list_any p xs ≡ ever (λ j. p (get_or xs j 0)) n
any_number p xs n l = bool_ext _ _ there back
  where
    there : list_any p xs ≡ true → ever (λ j. p (get_or xs j 0)) n ≡ true
    there q =
        let w = any_found 0 p xs (any_is p xs ∙ q) in
        ever_at (λ j. p (get_or xs j 0)) n w.0 (omega (arith, l, w.1)) w.2

    back : ever (λ j. p (get_or xs j 0)) n ≡ true → list_any p xs ≡ true
    back q =
        let w = ever_found (λ j. p (get_or xs j 0)) n q in
        list_any_at p xs w.0 0 (omega (arith, l, w.1)) w.2
