-- Laws of the parts of a text: in the words of std, and the next byte of a kind, the part up to it and the parts behind it.
-- Assumes nothing.
use mathlib.Core.Path.{◌≡◌, refl, subst}
use mathlib.Core.Logic.{◌≢◌}
use denote.Param.Members.{Mut}
use denote.Ref.{Bor}
use Rattle.std.specs.Slice.Iter as slice
use Rattle.std.specs.Fn.{CalledAt}
use Rattle.std.specs.List.{slice_split, onto_first}
use Rattle.std.proofs.lemmas.Iterator.{YieldsList}
use Rattle.std.proofs.lemmas.Iterator.Splits.{YieldsList-from_slice_split}
use mathlib.Core.Bool.{Bool, true, false, cond}
use mathlib.Core.List.{List, [], ◌∷◌}
use Prim.Native.Nat.{ℕ, suc, ◌+◌, ◌-◌, ◌≤◌, ◌<◌}
use native.Mathlib.Nat.{not-suc-le-zero, le_of_suc-le-suc}
use native.Mathlib.Numerals.{add-one}
use native.Mathlib.Omega.{arith}
use lib.Dec.{eqb}
use lib.ListN.{length, take, drop, length-drop}
use lib.Seq.{take_all}
use borrow.Author.Tests.{eq-eqb, ne_eqb}
use Rattle.rules.specs.Lines.{on_first, split_on}
use Rattle.text.specs.Text.{index_of}

-- the words of std: the parts that `split` gives, the first byte of a kind
on_first_is : (x : ℕ) (ps : List (List ℕ)) → onto_first x ps ≡ on_first x ps
unfolding on_first
on_first_is x [] = refl
on_first_is x (p ∷ ps) = refl

pub split_is : (b : ℕ) (s : List ℕ) → slice_split (λ x. eqb x b) s ≡ split_on b s
unfolding split_on
split_is b [] = refl
split_is b (x ∷ s) = rw (split_is b s, on_first_is x (split_on b s))

-- a text that is cut at each byte b; the first three facts are the clauses `rest`, `done` and `closure` of `split`
pub yields_parts : {F : Type 0} {s : _} (g : Mut F (Bor ℕ × Unit {0}) Bool) (b : ℕ) {f : F} (xs : List ℕ) → slice.split_rest s ≡ xs → slice.split_done s ≡ false → slice.split_callee s ≡ f → ((x : ℕ) (r : Bool) (q : F) → CalledAt g f x r q → (q ≡ f) × (r ≡ eqb x b)) → YieldsList (slice.split_steps g) (λ x. x.now) s (split_on b xs)
yields_parts {F} {s} g b xs h k c m = subst (λ ps. YieldsList (slice.split_steps g) (λ x. x.now) s ps) (split_is b xs) (YieldsList-from_slice_split {s = s} g (λ x. eqb x b) xs h k c m)

pub index_none : (b : ℕ) → index_of b [] ≡ 0
unfolding index_of
index_none b = refl

pub index_hit : (b x : ℕ) (s : List ℕ) → x ≡ b → index_of b (x ∷ s) ≡ 0
unfolding index_of
index_hit b x s e = rw (eq-eqb _ _ e)

pub index_miss : (b x : ℕ) (s : List ℕ) → x ≢ b → index_of b (x ∷ s) ≡ index_of b s + 1
unfolding index_of
index_miss b x s e = rw (ne_eqb _ _ e, add-one)

-- the first part of s, where b is in s, and where it is not
split_more : (b : ℕ) (s : List ℕ) → index_of b s < length s → split_on b s ≡ take (index_of b s) s ∷ split_on b (drop (suc (index_of b s)) s)
unfolding split_on on_first index_of
split_more b [] h = absurd (not-suc-le-zero h)
split_more b (x ∷ s) h = go (eqb x b) (split_more b s) h
  where
    go : (t : Bool) → (index_of b s < length s → split_on b s ≡ take (index_of b s) s ∷ split_on b (drop (suc (index_of b s)) s)) → cond t 0 (suc (index_of b s)) < suc (length s) → cond t ([] ∷ split_on b s) (on_first x (split_on b s)) ≡ take (cond t 0 (suc (index_of b s))) (x ∷ s) ∷ split_on b (drop (suc (cond t 0 (suc (index_of b s)))) (x ∷ s))
    go true ih k = refl
    go false ih k = rw (ih (le_of_suc-le-suc k))

pub split_last : (b : ℕ) (s : List ℕ) → length s ≤ index_of b s → split_on b s ≡ s ∷ []
unfolding split_on on_first index_of
split_last b [] h = refl
split_last b (x ∷ s) h = go (eqb x b) (split_last b s) h
  where
    go : (t : Bool) → (length s ≤ index_of b s → split_on b s ≡ s ∷ []) → suc (length s) ≤ cond t 0 (suc (index_of b s)) → cond t ([] ∷ split_on b s) (on_first x (split_on b s)) ≡ (x ∷ s) ∷ []
    go true ih k = absurd (not-suc-le-zero k)
    go false ih k = rw (ih (le_of_suc-le-suc k))

-- the same at `end`, as the code finds it: the first part, and the text of the others
pub next_part : (b : ℕ) (s : List ℕ) (end : ℕ) → end ≡ 0 + index_of b s → end < length s → split_on b s ≡ take end s ∷ split_on b (take (length s - (end + 1)) (drop (end + 1) s))
next_part b s end e h =
    let i : end ≡ index_of b s = omega arith in
    let whole : take (length s - (end + 1)) (drop (end + 1) s) ≡ drop (end + 1) s = take_all _ _ (simp length-drop (omega arith)) in
    rw (whole, add-one, i) (split_more b s (omega arith))
