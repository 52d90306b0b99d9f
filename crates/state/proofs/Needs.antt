-- Where a need of the candidate is judged, by what is judged of each entry.
-- Assumes nothing.
use Prim.Native.Nat.{ℕ, suc, ◌<◌}
use native.Mathlib.Decide.{dec_lt}
use native.Mathlib.Omega.{arith}
use mathlib.Core.Path.{◌≡◌, refl, sym, ap, ◌∙◌}
use mathlib.Core.Bool.{◌&&◌, not}
use mathlib.Core.List.{List}
use native.Mathlib.Nat.{le_refl}
use lib.Dec.{leb, ltb, eqb}
use lib.ListN.{length, get_or}
use Rattle.std.proofs.lemmas.List.{get_or_default}
use borrow.Author.Tests.{ne_eqb, lt-ltb, le-ltb, le-leb}
use Rattle.placed.specs.declared.row.Row.{Row}
use Rattle.placed.specs.declared.need.Need.{Need}
use Rattle.placed.specs.Tables.{no_need, row_in, need_variable_at, need_code_at}
use Rattle.state.specs.declared.judged.Judged.{Judged}
use Rattle.state.specs.Standing.{standing_by}
use Rattle.state.specs.Own.{change_at, unmet_at, judged, code_of_need}
use Rattle.state.specs.Judging.{judged_in, end_in, JudgedRight}

-- a need that is not there is judged at no tick
pub judged_none : (rows : List Row) (n j : ℕ) → need_code_at rows n j ≡ 0 → judged rows n j ≡ 0
unfolding judged
judged_none rows n j e = rw e refl

-- a need that is judged at a tick is there
pub judged_there : (rows : List Row) (n j k : ℕ) → k < judged rows n j → 0 < need_code_at rows n j
judged_there rows n j k l = go (dec_lt 0 (need_code_at rows n j))
  where
    go : Dec (0 < need_code_at rows n j) → 0 < need_code_at rows n j
    go (yes h) = h
    go (no h) = absurd (omega (arith, l, judged_none rows n j (omega arith)))

-- ---- a need of the candidate's row
module _ (rows : List Row) (n j : ℕ) (own : Row) (d : Need) (e : own ≡ row_in rows n) (inside : j < length own.needs) where
  abbrev need : Need
  need = get_or own.needs j d

  code_is : need.code ≡ need_code_at rows n j
  code_is = ap (λ (x : Need). x.code) (get_or_default own.needs j d no_need inside) ∙ ap (λ (row : Row). (get_or row.needs j no_need).code) e

  variable_is : need.variable ≡ need_variable_at rows n j
  variable_is = ap (λ (x : Need). x.variable) (get_or_default own.needs j d no_need inside) ∙ ap (λ (row : Row). (get_or row.needs j no_need).variable) e

  pub judged_absent : need.code ≡ 0 → judged rows n j ≡ 0
  judged_absent z = judged_none rows n j (sym code_is ∙ z)

  -- one that is there is judged at the start and at each end
  pub judged_present : (need.code ≡ 0 → ⊥) → judged rows n j ≡ suc n
  unfolding judged
  judged_present f = rw (ne_eqb (need_code_at rows n j) 0 (λ z. f (code_is ∙ z))) refl

  -- what the code tests at an end, and at the start
  pub unmet_end : (k start end : ℕ) (entries : List Judged) → JudgedRight rows n entries → (need.code ≡ 0 → ⊥) → j < 4 → k < n → (leb start (end_in entries k) && ltb (end_in entries k) end && not (eqb (get_or (judged_in entries k).codes j 0) need.code)) ≡ unmet_at rows n j start end k
  unfolding unmet_at change_at code_of_need
  unmet_end k start end entries r f l h =
      rw ((r.at k h).ends, (r.at k h).codes j l, code_is, ne_eqb (need_code_at rows n j) 0 (λ z. f (code_is ∙ z)), lt-ltb k n h) refl

  pub unmet_start : (start end : ℕ) → (ltb start end && not (eqb (standing_by rows need.variable start n).code need.code)) ≡ unmet_at rows n j start end n
  unfolding unmet_at change_at
  unmet_start start end =
      rw (variable_is, code_is, le-ltb n n (le_refl n), le-leb start start (le_refl start)) refl
