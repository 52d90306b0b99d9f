-- Runs put together from two columns.
-- Assumes nothing.
use Rattle.std.proofs.Common.{◌≡◌, ◌∙◌, ℕ, suc, ◌+◌, ◌<◌, ◌≤◌, List, [], ◌∷◌, ◌++◌, length, map, take, drop, set, refl, sym, ap, arith, length-append, append_assoc, append-nil, add-one}
use Rattle.std.proofs.Math.Seq.{drop-cons, length-take-le}
use Rattle.std.proofs.lemmas.List.{take_more_set, take-append-drop, drop-set-lt}
use Rattle.rules.specs.Calls.{slice_after}
use Rattle.rules.specs.declared.Interval.{Interval}
use Rattle.station.specs.Columns.{pairs}

pub pairs_few : (us vs : List ℕ) → length (pairs us vs) ≤ length us
pairs_few [] vs = omega arith
pairs_few (u ∷ us) [] = omega arith
pairs_few (u ∷ us) (v ∷ vs) = omega (arith, pairs_few us vs)

-- none where a column is at its end
pub pairs_end : (us vs : List ℕ) → length us ≡ 0 → pairs us vs ≡ []
pairs_end [] vs e = refl
pairs_end (u ∷ us) vs e = absurd (omega arith)

pub pairs_end_last : (us vs : List ℕ) → length vs ≡ 0 → pairs us vs ≡ []
pairs_end_last [] vs e = refl
pairs_end_last (u ∷ us) [] e = refl
pairs_end_last (u ∷ us) (v ∷ vs) e = absurd (omega arith)

-- k records are put together, and these are left to be
module _ (firsts lasts : List ℕ) (k : ℕ) (out left : List Interval) (few : k ≤ length out) (e : take k out ++ left ≡ pairs firsts lasts) where
  put_and_left : k + length left ≡ length (pairs firsts lasts)
  put_and_left = omega (arith, length-append (take k out) left, length-take-le k out few, ap length e)

  module _ (r : Interval) (rest : List Interval) (f : left ≡ r ∷ rest) (room : length firsts ≤ length out) where
    pub inside : k < length out
    inside = omega (arith, put_and_left, ap length f, pairs_few firsts lasts)

    -- one more
    pub next_put : take (k + 1) (set out k r) ++ rest ≡ pairs firsts lasts
    next_put = rw (take_more_set out k r inside, append_assoc, ← f) e

  -- all of them
  pub all_put : (lent : List Interval) → left ≡ [] → drop k out ≡ drop k lent → out ≡ slice_after (pairs firsts lasts) lent
  unfolding slice_after
  all_put lent f d =
      let done : take k out ≡ pairs firsts lasts = sym (append-nil (take k out)) ∙ rw f at e in
      let many : length (pairs firsts lasts) ≡ k = omega (arith, put_and_left, ap length f) in
      sym (take-append-drop k out) ∙ rw (done, many, d) refl

-- the records behind them remain
pub behind_kept : (k : ℕ) (out lent : List Interval) (r : Interval) → k < length out → k < length lent → drop k out ≡ drop k lent → drop (k + 1) (set out k r) ≡ drop (k + 1) lent
behind_kept k out lent r h l e =
    rw add-one (drop-set-lt (suc k) out k r (omega arith) ∙ ap (drop 1) (sym (drop-cons out k r h) ∙ e ∙ drop-cons lent k r l))

-- of the columns of runs they are the runs
pub pairs_back : (rs : List Interval) → pairs (map (λ r. r.first) rs) (map (λ r. r.last) rs) ≡ rs
pairs_back [] = refl
pairs_back (r ∷ rs) = ap (λ ys. r ∷ ys) (pairs_back rs)
