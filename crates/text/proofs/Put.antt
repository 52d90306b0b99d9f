-- Laws of `put`: nothing, a byte at the front, a byte at the back, what stands up to its end, the length, and one piece after another.
-- Assumes nothing.
use mathlib.Core.Path.{◌≡◌, sym, ap, ◌∙◌}
use mathlib.Core.List.{List, [], ◌∷◌, ◌++◌, append_assoc}
use Prim.Native.Nat.{ℕ, suc, ◌+◌, ◌≤◌, ◌<◌}
use native.Mathlib.Nat.{add-zero}
use native.Mathlib.Numerals.{add-one}
use native.Mathlib.Omega.{arith}
use lib.ListN.{length, get_or, take, drop, set, take-append-drop, length-append, length-drop, length-set}
use lib.Seq.{take-suc-set, append_snoc, drop-cons, get_or-set_same, drop-set-lt, take-set-le, length-take-le, take_at, drop_at, drop-drop}
use Rattle.text.specs.Text.{put}

pub put_nil : (l : List ℕ) (at : ℕ) → put l at [] ≡ l
unfolding put
put_nil l at = rw add-zero (take-append-drop at l)

-- the first byte of what is left to write
pub put_front : (l : List ℕ) (o d : ℕ) (w : List ℕ) → o < length l → put l o (d ∷ w) ≡ put (set l o d) (o + 1) w
unfolding put
put_front l o d w h =
    let k : o < suc o + length w = omega arith in
    let e : suc o + length w ≡ o + suc (length w) = omega arith in
    rw (add-one, take-suc-set l o d h, drop-set-lt (suc o + length w) l o d k, e, append_snoc)

-- the last byte of what is left to write
pub put_back : (l : List ℕ) (at d : ℕ) (w : List ℕ) → at + length w < length l → put l at (w ++ (d ∷ [])) ≡ put (set l (at + length w) d) at w
unfolding put
put_back l at d w h =
    let i : ℕ = at + length w in
    let e : at + length (w ++ (d ∷ [])) ≡ suc i = simp length-append (omega arith) in
    let k : at ≤ i = omega arith in
    let n : i < suc i = omega arith in
    let tail : drop i (set l i d) ≡ d ∷ drop (suc i) l = drop-cons (set l i d) i 0 (simp length-set h) ∙ rw (get_or-set_same l i d 0 h, drop-set-lt (suc i) l i d n) in
    rw (e, take-set-le at l i d k, tail, append_snoc)

pub put_one : (l : List ℕ) (at d : ℕ) → at < length l → set l at d ≡ put l at (d ∷ [])
put_one l at d h = sym (put_front l at d [] h ∙ put_nil (set l at d) (at + 1))

-- what stands up to the end of what is written
pub put_end : (l : List ℕ) (n : ℕ) (w : List ℕ) → n + length w ≤ length l → take (n + length w) (put l n w) ≡ take n l ++ w
unfolding put
put_end l n w h =
    let e : length (take n l ++ w) ≡ n + length w = simp length-append (omega (arith, length-take-le n l (omega arith))) in
    ap (take (n + length w)) (sym (append_assoc (take n l) w (drop (n + length w) l))) ∙ take_at (take n l ++ w) (drop (n + length w) l) (n + length w) e

pub put_length : (l : List ℕ) (at : ℕ) (w : List ℕ) → at + length w ≤ length l → length (put l at w) ≡ length l
unfolding put
put_length l at w h =
    let k : at ≤ length l = omega arith in
    simp (length-append, length-drop, length-take-le at l k) (omega arith)

-- one piece after another
pub put_put : (l : List ℕ) (at : ℕ) (a b : List ℕ) → at + length a + length b ≤ length l → put (put l at a) (at + length a) b ≡ put l at (a ++ b)
unfolding put
put_put l at a b h =
    let p : List ℕ = take at l in
    let n : ℕ = at + length a in
    let q : List ℕ = drop n l in
    let k : at ≤ length l = omega arith in
    let len : length (p ++ a) ≡ n = simp (length-append, length-take-le at l k) in
    let front : take n (p ++ (a ++ q)) ≡ p ++ a = rw (← append_assoc p a q) (take_at (p ++ a) q n len) in
    let past : drop n (p ++ (a ++ q)) ≡ q = rw (← append_assoc p a q) (drop_at (p ++ a) q n len) in
    let back : drop (n + length b) (p ++ (a ++ q)) ≡ drop (n + length b) l = sym (drop-drop (length b) n (p ++ (a ++ q))) ∙ ap (drop (length b)) past ∙ drop-drop (length b) n l in
    let e : at + length (a ++ b) ≡ n + length b = simp length-append (omega arith) in
    rw (front, back, e) (simp append_assoc)

-- a turn of a copy: byte j of src goes to o
pub put_next : (l src : List ℕ) (o j : ℕ) → o < length l → j < length src → put (set l o (get_or src j 0)) (o + 1) (drop (j + 1) src) ≡ put l o (drop j src)
put_next l src o j h k = sym (put_front l o (get_or src j 0) (drop (j + 1) src) h) ∙ ap (put l o) (rw add-one (sym (drop-cons src j 0 k)))

-- a write after a write, as the code has it: m is what the first left, and a is the position that it answered
pub put_then : (l m : List ℕ) (at a : ℕ) (w v : List ℕ) → m ≡ put l at w → a ≡ at + length w → at + length w + length v ≤ length l → put m a v ≡ put l at (w ++ v)
put_then l m at a w v e f h = rw (e, f) (put_put l at w v h)
