-- Laws of the first n elements of a list at an index, as loops over an array meet them; `take_more` and `take_more_set` of std say what one more of them is.
-- Assumes nothing.
use Prim.Native.Nat.{ℕ, ◌+◌, ◌≤◌, ◌<◌}
use mathlib.Core.Path.{◌≡◌, sym, ap, ◌∙◌}
use mathlib.Core.List.{List, [], ◌∷◌, ◌++◌}
use native.Mathlib.Numerals.{add-one}
use native.Mathlib.Omega.{arith}
use lib.ListN.{length, take, drop, get_or, set, drop_of_length-le}
use lib.Seq.{drop-cons, get_or-take, length-take-le, append_snoc, drop-set-lt, take-set-lt}
use Rattle.std.proofs.lemmas.List.{take_more_set}

module _ {A : Type 0} (xs : List A) (n : ℕ) (h : n ≤ length xs) where
  pub front_cons : (i : ℕ) (d : A) → i < n → drop i (take n xs) ≡ get_or xs i d ∷ drop (i + 1) (take n xs)
  front_cons i d k =
      let l : i < length (take n xs) = rw (length-take-le n xs h) k in
      rw (add-one, ← get_or-take n xs i d k) (drop-cons (take n xs) i d l)

  pub front_end : (i : ℕ) → n ≤ i → drop i (take n xs) ≡ []
  front_end i k = drop_of_length-le (take n xs) {i = i} (rw (length-take-le n xs h) k)

-- an element put at i, and the one that stood there held in its stead
pub put_more : {A : Type 0} (xs : List A) (n i : ℕ) (a d : A) → n ≤ length xs → i < n → take (i + 1) (set xs i a) ++ (get_or xs i d ∷ drop (i + 1) (take n (set xs i a))) ≡ take i xs ++ (a ∷ drop i (take n xs))
put_more xs n i a d h k =
    let m : i < length xs = omega arith in
    let l : i < i + 1 = omega arith in
    rw (take_more_set xs i a m, take-set-lt n xs i a k, drop-set-lt (i + 1) (take n xs) i a l, append_snoc, front_cons xs n h i d k)

-- behind the last there is none
pub put_last : {A : Type 0} (xs : List A) (n i : ℕ) (a : A) (ys : List A) → n ≤ length xs → i ≡ n → take i xs ++ (a ∷ drop i (take n xs)) ≡ ys → take n xs ++ (a ∷ []) ≡ ys
put_last xs n i a ys h e f =
    let l : n ≤ n = omega arith in
    ap (λ q. take n xs ++ (a ∷ q)) (sym (front_end xs n h n l)) ∙ rw e at f
