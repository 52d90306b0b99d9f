-- The rules' tests of the ids of activities are those of the ids of their lines.
-- Assumes nothing.
use Rattle.std.proofs.Common.{arith, ◌≡◌, ◌+◌, ◌<◌, ℕ, length, slice_index_or, suc, Bool, true, false, cond, ◌||◌, List, [], ◌∷◌, map, eqb, add-one, Option, Some, refl, sym, ap, ◌∙◌}
use Rattle.std.specs.List.{Contains, list_any, position, position_from}
use Rattle.std.specs.List.Sorted.{IsPermutation}
use Rattle.std.specs.Option.{IsSome, option_map, unwrap_or}
use Rattle.std.proofs.lemmas.Iterator.Adapters.{position_from-zero}
use Rattle.std.proofs.lemmas.List.Elements.{All-head, All-tail, All-get_or}
use Rattle.std.proofs.lemmas.Bool.{eq-eqb}
use Rattle.std.proofs.lemmas.List.Folds.{list_any_at}
use Rattle.std.proofs.lemmas.List.Sorted.{list_any-IsPermutation}
use Rattle.rules.specs.Plan.{Header}
use Rattle.rules.specs.Tests.{any_of}
use Rattle.rules.specs.Reading.{has_id, line_number}
use Rattle.plan.specs.Said.{said_by, LineIn, LinesIn}
use Rattle.order.specs.declared.Line.{Line}
use Rattle.order.proofs.Finding.{position_of_id}

-- whether a line says this id
abbrev pub says_id : ℕ → Line → Bool
says_id id l = eqb l.id id

found_from : (p : Line → Bool) (m n : ℕ) (xs : List Line) → position_from p (n + m) xs ≡ option_map (λ k. k + m) (position_from p n xs)
found_from p m n [] = refl
found_from p m n (x ∷ xs) = go (p x) (let e : n + m + 1 ≡ (n + 1) + m = omega arith in rw e (found_from p m (n + 1) xs))
  where
    go : (t : Bool) → position_from p (n + m + 1) xs ≡ option_map (λ k. k + m) (position_from p (n + 1) xs) → cond t (Some (n + m)) (position_from p (n + m + 1) xs) ≡ option_map (λ k. k + m) (cond t (Some n) (position_from p (n + 1) xs))
    go true ih = refl
    go false ih = ih

module _ (h : Header) (s : List ℕ) where
  -- the id of a line is that of the activity that it says
  pub id_is_at : (lines : List Line) → LinesIn h s lines → (i : ℕ) → i < length lines → (d : Line) → (slice_index_or lines i d).id ≡ (said_by h s (slice_index_or lines i d)).id
  id_is_at lines g i k d = (All-get_or (LineIn h s) lines i d k g).id_is

  pub has_ids : (xs : List Line) → LinesIn h s xs → (id : ℕ) → has_id id (map (said_by h s) xs) ≡ list_any (says_id id) xs
  unfolding has_id any_of
  has_ids [] g id = refl
  has_ids (x ∷ xs) g id = rw ((All-head (LineIn h s) x xs g).id_is) (ap (λ b. eqb (said_by h s x).id id || b) (has_ids xs (All-tail (LineIn h s) x xs g) id))

  line_ids : (xs : List Line) → LinesIn h s xs → (id n : ℕ) → line_number id n (map (said_by h s) xs) ≡ unwrap_or (position_from (says_id id) n xs) 0
  unfolding line_number
  line_ids [] g id n = refl
  line_ids (x ∷ xs) g id n = rw ((All-head (LineIn h s) x xs g).id_is) (go (eqb (said_by h s x).id id) (rw add-one (line_ids xs (All-tail (LineIn h s) x xs g) id (suc n))))
    where
      go : (t : Bool) → line_number id (suc n) (map (said_by h s) xs) ≡ unwrap_or (position_from (says_id id) (n + 1) xs) 0 → cond t n (line_number id (suc n) (map (said_by h s) xs)) ≡ unwrap_or (cond t (Some n) (position_from (says_id id) (n + 1) xs)) 0
      go true ih = refl
      go false ih = ih

  -- the line of an id
  pub line_is : (xs : List Line) → LinesIn h s xs → (id : ℕ) → line_number id 2 (map (said_by h s) xs) ≡ unwrap_or (option_map (λ k. k + 2) (position (says_id id) xs)) 0
  line_is xs g id = line_ids xs g id 2 ∙ ap (λ o. unwrap_or o 0) (found_from (says_id id) 2 0 xs ∙ ap (option_map (λ k. k + 2)) (sym (position_from-zero (says_id id) xs)))

-- what `line_of` answers of the lines' ids
pub line_said : (lines : List Line) (id n : ℕ) (ids : List ℕ) (r : Option ℕ) → r ≡ option_map (λ k. k + 2) (position (λ x. eqb x n) ids) → ids ≡ map (λ (line : Line). line.id) lines → n ≡ id → r ≡ option_map (λ k. k + 2) (position (says_id id) lines)
line_said lines id n ids r e f g = e ∙ rw (f, g) (ap (option_map (λ k. k + 2)) (position_of_id id lines))

-- a line that stands among these is found by its id
found : (p : Line → Bool) (n : ℕ) (xs : List Line) → list_any p xs ≡ true → IsSome (position_from p n xs)
found p n [] e = cc
found p n (x ∷ xs) e = go (p x) e (found p (n + 1) xs)
  where
    go : (t : Bool) → t || list_any p xs ≡ true → (list_any p xs ≡ true → IsSome (position_from p (n + 1) xs)) → IsSome (cond t (Some n) (position_from p (n + 1) xs))
    go true e ih = refl
    go false e ih = ih e

pub line_found : (xs ys : List Line) (x : Line) → IsPermutation xs ys → Contains ys x → IsSome (option_map (λ k. k + 2) (position (says_id x.id) xs))
line_found xs ys x p m =
    let there : list_any (says_id x.id) ys ≡ true = list_any_at (says_id x.id) ys m.0 x m.1 (rw m.2 (eq-eqb x.id x.id refl)) in
    let f = found (says_id x.id) (0 + 2) xs (list_any-IsPermutation (says_id x.id) xs ys p ∙ there) in
    rw (position_from-zero (says_id x.id) xs, ← found_from (says_id x.id) 2 0 xs) f
