-- A text written piece by piece.
-- Assumes nothing.
use Rattle.std.proofs.Common.{min, ◌≡◌, ◌≤◌, ℕ, zero, suc, ◌+◌, ◌-◌, List, [], ◌∷◌, ◌++◌, length, take, drop, refl, sym, ap, ap₂, ◌∙◌, arith, append_assoc, length-append}
use Rattle.std.proofs.lemmas.List.{length-take, length-drop, take_min, drop_min, drop-drop, drop_all, take-append-drop, take_more_set, drop-set-lt}
use Rattle.std.proofs.lemmas.Slice.{take-put_mid, drop-put_mid}
use Rattle.std.specs.Prelude.{slice_set, ◌<◌}
use borrow.Rule.Slice.PartMut.{put_mid}
use mathlib.Core.List.{append-nil}
use lib.Seq.{take-nil, drop-nil}
use Rattle.rules.specs.Calls.{slice_after}
use Rattle.wording.specs.Writing.{part, Written, written as so_far, with_more, together}
use Rattle.wording.specs.declared.writing.Part.{Part}

-- the front and the rest of two lists, one behind the other
take_over : {A : Type 0} (n : ℕ) (xs ys : List A) → take n (xs ++ ys) ≡ take n xs ++ take (n - length xs) ys
take_over n [] ys =
    let e : n - 0 ≡ n = omega arith in
    rw (take-nil n, e) refl
take_over zero (x ∷ xs) ys =
    let e : 0 - suc (length xs) ≡ 0 = omega arith in
    rw e refl
take_over {A} (suc n) (x ∷ xs) ys =
    let e : suc n - suc (length xs) ≡ n - length xs = omega arith in
    rw e (ap (λ (zs : List A). x ∷ zs) (take_over n xs ys))

drop_over : {A : Type 0} (n : ℕ) (xs ys : List A) → drop n (xs ++ ys) ≡ drop n xs ++ drop (n - length xs) ys
drop_over n [] ys =
    let e : n - 0 ≡ n = omega arith in
    rw (drop-nil n, e) refl
drop_over zero (x ∷ xs) ys =
    let e : 0 - suc (length xs) ≡ 0 = omega arith in
    rw e refl
drop_over (suc n) (x ∷ xs) ys =
    let e : suc n - suc (length xs) ≡ n - length xs = omega arith in
    rw e (drop_over n xs ys)

-- what is written is told by its four fields
same_written : (n : ℕ) {k l : ℕ} {u w a b : List ℕ} → k ≡ l → u ≡ w → a ≡ b → ◌≡◌ {A = Written} (record { lent = n; skip = k; bytes = u; left = a }) (record { lent = n; skip = l; bytes = w; left = b })
same_written n e f g = rw (e, f, g) refl

-- no piece
pub more_none : (p : Written) → with_more p [] ≡ p
unfolding with_more
more_none p =
    let none : 0 - p.skip ≡ 0 = omega arith in
    same_written _ (omega arith) (rw (drop-nil {A = ℕ} p.skip, take-nil {A = ℕ} (length p.left)) (append-nil p.bytes)) (rw none refl)

-- two pieces are one
pub more_then : (p : Written) (u w : List ℕ) → with_more (with_more p u) w ≡ with_more p (u ++ w)
unfolding with_more
more_then p u w =
    let m = length p.left in
    let us = drop p.skip u in
    let ws = drop (p.skip - length u) w in
    let room : length (drop (length u - p.skip) p.left) ≡ m - length us = omega (arith, length-drop (length u - p.skip) p.left, length-drop p.skip u) in
    let more : p.bytes ++ take m us ++ take (m - length us) ws ≡ p.bytes ++ take m (drop p.skip (u ++ w)) =
    append_assoc p.bytes (take m us) (take (m - length us) ws)
    ∙ ap (λ (xs : List ℕ). p.bytes ++ xs) (sym (take_over m us ws) ∙ ap (take m) (sym (drop_over p.skip u w)))
    in
    let rest : length u - p.skip + (length w - (p.skip - length u)) ≡ length (u ++ w) - p.skip = omega (arith, length-append u w) in
    same_written _ (omega (arith, length-append u w)) (ap (λ (k : ℕ). p.bytes ++ take m us ++ take k ws) room ∙ more)
    (drop-drop (length w - (p.skip - length u)) (length u - p.skip) p.left ∙ ap (λ (k : ℕ). drop k p.left) rest)

-- pieces written one behind the other
abbrev pub written : Written → List (List ℕ) → Written
written p [] = p
written p (w ∷ ws) = written (with_more p w) ws

pub pieces : (p : Written) (ws : List (List ℕ)) → written p ws ≡ with_more p (together ws)
pieces p [] = sym (more_none p)
pieces p (w ∷ ws) = pieces (with_more p w) ws ∙ more_then p w (together ws)

-- a piece leaves the room as it is: the bytes kept and those left behind them
pub room_kept : (p : Written) (w : List ℕ) → length (with_more p w).bytes + length (with_more p w).left ≡ length p.bytes + length p.left
unfolding with_more
room_kept p w =
    let n = length p.left in
    omega (arith, length-append p.bytes (take n (drop p.skip w)), length-take n (drop p.skip w), length-drop p.skip w, length-drop (length w - p.skip) p.left)

-- as much of it is kept as this room still holds
pub kept_in_room : (p : Written) (room : ℕ) (w : List ℕ) → room ≡ length p.bytes + length p.left → (with_more p w).bytes ≡ p.bytes ++ take (room - length p.bytes) (drop p.skip w)
unfolding with_more
kept_in_room p room w e =
    let n : room - length p.bytes ≡ length p.left = omega (arith, e) in
    rw n refl

-- the part of a text fits its room
pub part_fits : (from room : ℕ) (text : List ℕ) → length (part from room text) ≤ room
unfolding part
part_fits from room text = omega (arith, length-take room (drop from text))

-- a whole text leaves its part at the front of the lent slice
pub more_part : (n from : ℕ) (lent text : List ℕ) → (with_more (record { lent = n; skip = from; bytes = []; left = lent }) text).bytes ≡ part from (length lent) text
unfolding with_more part
more_part n from lent text = refl

-- behind its part stays what stood there
part_behind : (n from : ℕ) (lent text : List ℕ) → (with_more (record { lent = n; skip = from; bytes = []; left = lent }) text).left ≡ drop (length (part from (length lent) text)) lent
unfolding with_more part
part_behind n from lent text =
    let e : length (take (length lent) (drop from text)) ≡ min (length text - from) (length lent) = omega (arith, length-take (length lent) (drop from text), length-drop from text) in
    rw e (sym (drop_min (length text - from) lent))

-- what the lent slice holds when a whole text is written
pub part_stands : (p : Part) (n from : ℕ) (lent text : List ℕ) → so_far p ≡ with_more (record { lent = n; skip = from; bytes = []; left = lent }) text → p.out.now ≡ slice_after (part from (length lent) text) lent
unfolding so_far slice_after
part_stands p n from lent text e =
    sym (take-append-drop p.to p.out.now) ∙ ap₂ (λ (xs ys : List ℕ). xs ++ ys) (ap (λ (w : Written). w.bytes) e ∙ more_part n from lent text) (ap (λ (w : Written). w.left) e ∙ part_behind n from lent text)

-- one piece more, as the code writes it behind the first bytes of the slice
pub piece_written : (n skip passed kept to : ℕ) (out after w rest piece : List ℕ) → passed ≡ min skip (length w) → rest ≡ drop passed w → to ≤ length out → kept ≡ min (length rest) (length out - to) → piece ≡ take kept rest → after ≡ put_mid to kept out piece
    → ◌≡◌ {A = Written} (record { lent = n; skip = skip - passed; bytes = take (to + kept) after; left = drop (to + kept) after }) (with_more (record { lent = n; skip = skip; bytes = take to out; left = drop to out }) w)
unfolding with_more
piece_written n skip passed kept to out after w rest piece e r h k p a =
    let left = drop to out in
    let long : length rest ≡ length w - skip = omega (arith, ap (λ (xs : List ℕ). length xs) r, length-drop passed w) in
    let least : kept ≡ min (length left) (length rest) = omega (arith, length-drop to out) in
    let most : kept ≡ min (length w - skip) (length left) = omega (arith, length-drop to out) in
    let whole : piece ≡ take (length left) (drop skip w) =
    p ∙ rw least (take_min (length left) rest) ∙ ap (take (length left)) (r ∙ rw e (drop_min skip w))
    in
    let size : length piece ≡ kept = omega (arith, ap (λ (xs : List ℕ). length xs) p, length-take kept rest) in
    same_written n (omega arith)
    (rw a (take-put_mid to kept out piece (to + kept) (omega arith) h) ∙ ap (λ (v : List ℕ). take to out ++ v) whole)
    (rw a (drop-put_mid to kept out piece (to + kept) (omega arith) h size) ∙ sym (drop-drop kept to out) ∙ rw most (drop_min (length w - skip) left))

-- of a piece that begins where the slice is full, nothing is written
pub none_written : (n skip passed to : ℕ) (out w : List ℕ) → passed ≡ min skip (length w) → length out ≤ to
    → ◌≡◌ {A = Written} (record { lent = n; skip = skip - passed; bytes = take to out; left = drop to out }) (with_more (record { lent = n; skip = skip; bytes = take to out; left = drop to out }) w)
unfolding with_more
none_written n skip passed to out w e h =
    rw (drop_all to out h, drop-nil {A = ℕ} (length w - skip))
    (same_written n (omega arith) (sym (append-nil (take to out))) refl)

-- one byte more, as the code passes it over
pub byte_passed : (n skip b : ℕ) (bytes left : List ℕ) → 0 < skip
    → ◌≡◌ {A = Written} (record { lent = n; skip = skip - 1; bytes = bytes; left = left }) (with_more (record { lent = n; skip = skip; bytes = bytes; left = left }) (b ∷ []))
unfolding with_more
byte_passed n zero b bytes left h = absurd (omega (arith, h))
byte_passed n (suc k) b bytes left h =
    let none : 1 - suc k ≡ 0 = omega arith in
    same_written n refl (sym (rw (drop-nil {A = ℕ} k, take-nil {A = ℕ} (length left)) (append-nil bytes))) (sym (rw none refl))

-- and as it writes it behind the first bytes of the slice
pub byte_written : (n to b : ℕ) (out : List ℕ) → to < length out
    → ◌≡◌ {A = Written} (record { lent = n; skip = 0; bytes = take (to + 1) (slice_set out to b); left = drop (to + 1) (slice_set out to b) }) (with_more (record { lent = n; skip = 0; bytes = take to out; left = drop to out }) (b ∷ []))
unfolding with_more
byte_written n to b out h = same_written n refl (take_more_set out to b h ∙ ap (λ (w : List ℕ). take to out ++ w) (one (length (drop to out)) (omega (arith, length-drop to out, h)))) (drop-set-lt (to + 1) out to b (omega arith) ∙ sym (drop-drop 1 to out))
  where
    one : (m : ℕ) → 0 < m → b ∷ [] ≡ take m (b ∷ [])
    one zero k = absurd (omega (arith, k))
    one (suc m) k = rw (take-nil {A = ℕ} m) refl
