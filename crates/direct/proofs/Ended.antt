-- D: a start meets it exactly when it is not before the first one at which all have ended.
-- Assumes nothing.
use Prim.Native.Nat.{ℕ, zero, suc, ◌+◌, ◌<◌, ◌≤◌, min, max}
use mathlib.Core.Path.{◌≡◌, refl, sym, ◌∙◌, ap}
use mathlib.Core.Bool.{Bool, true, false, cond, ◌&&◌, ◌||◌}
use mathlib.Core.List.{List, [], ◌∷◌, ◌++◌, map}
use Rattle.std.proofs.Common.{Option, None, Some, filter, append-nil, get_or-take}
use Rattle.std.proofs.lemmas.List.{take_more, take_all, get_or-map, map-append}
use Rattle.std.proofs.lemmas.List.Sums.{fold-append}
use Rattle.std.specs.List.{reduce}
use Rattle.std.proofs.lemmas.List.Elements.{filter-append}
use native.Mathlib.Omega.{arith}
use native.Mathlib.Numerals.{add-one}
use lib.Dec.{leb, eqb}
use lib.ListN.{length, get_or, take}
use borrow.Author.Tests.{le-leb, lt-leb}
use Rattle.items.specs.declared.Item.{Item}
use Rattle.rules.specs.Plan.{Header, Schedule}
use Rattle.rules.specs.Tests.{any_of, every}
use Rattle.rules.specs.MeetsD.{ended_by}
use Rattle.rules.proofs.Cases.{by_order}
use Rattle.rules.proofs.Tests.{last_or}
use Rattle.rules.proofs.Lists.{every_more}
use Rattle.activity.specs.View.{number_of}
use Rattle.placed.specs.declared.row.Row.{Row}
use Rattle.placed.specs.Tables.{no_row, row_in, id_at, end_at}
use Rattle.placed.specs.Bounds.{never}
use Rattle.placed.specs.Held.{TicksAt, Rows}
use Rattle.direct.specs.Ended.{first_end, ready_from, IsReady}

-- the smaller of two is at most s when one of them is; the larger, when both are
leb_min : (a b s : ℕ) → leb (min a b) s ≡ (leb a s || leb b s)
leb_min a b s =
    by_order s a
    (λ l. rw (lt-leb a s l) (by_order s b (λ m. rw (lt-leb b s m) (lt-leb (min a b) s (omega arith))) (λ m. rw (le-leb b s m) (le-leb (min a b) s (omega arith)))))
    (λ l. rw (le-leb a s l) (le-leb (min a b) s (omega arith)))

leb_max : (a b s : ℕ) → leb (max a b) s ≡ (leb a s && leb b s)
leb_max a b s =
    by_order s a
    (λ l. rw (lt-leb a s l) (lt-leb (max a b) s (omega arith)))
    (λ l. rw (le-leb a s l) (by_order s b (λ m. rw (lt-leb b s m) (lt-leb (max a b) s (omega arith))) (λ m. rw (le-leb b s m) (le-leb (max a b) s (omega arith)))))

end_leb : (b : Bool) (e s : ℕ) → s < never → leb (cond b e never) s ≡ (b && leb e s)
end_leb true e s k = refl
end_leb false e s k = lt-leb never s k

first_end_is : (h : Header) (rows : List Row) (n : ℕ) (placed : Schedule) → Rows (TicksAt h rows) n placed → (s id : ℕ) → s < never → leb (first_end rows id n) s ≡ ended_by placed s id
unfolding Rows first_end ended_by any_of
first_end_is h rows zero (e ∷ placed) r s id k = elim r [ ]
first_end_is h rows (suc n) [] r s id k = elim r [ ]
first_end_is h rows zero [] r s id k = lt-leb never s k
first_end_is h rows (suc n) (e ∷ placed) r s id k =
    leb_min (cond (eqb (id_at rows n) id) (end_at rows n) never) (first_end rows id n) s
    ∙ ap (λ (b : Bool). b || leb (first_end rows id n) s) (end_leb (eqb (id_at rows n) id) (end_at rows n) s k)
    ∙ ap (λ (b : Bool). (eqb (id_at rows n) id && leb (end_at rows n) s) || b) (first_end_is h rows n placed r.1 s id k)
    ∙ rw (r.0.id, r.0.ends) refl

-- the first start tells all that have ended
pub ready_is : (h : Header) (rows : List Row) (n : ℕ) (placed : Schedule) → Rows (TicksAt h rows) n placed → (ids : List ℕ) (count s : ℕ) → s < never → count ≤ length ids → leb (ready_from rows n ids count) s ≡ every (ended_by placed s) (take count ids)
unfolding ready_from every
ready_is h rows n placed r ids zero s k l = le-leb 0 s (omega arith)
ready_is h rows n placed r ids (suc count) s k l =
    leb_max (first_end rows (get_or ids count 0) n) (ready_from rows n ids count) s
    ∙ ap (λ (b : Bool). b && leb (ready_from rows n ids count) s) (first_end_is h rows n placed r s (get_or ids count 0) k)
    ∙ ap (λ (b : Bool). ended_by placed s (get_or ids count 0) && b) (ready_is h rows n placed r ids count s k (omega arith))
    ∙ sym (every_more (ended_by placed s) 0 ids count (omega arith))

-- one id more
pub ready_more : (rows : List Row) (n : ℕ) (ids : List ℕ) (count : ℕ) → ready_from rows n ids (count + 1) ≡ max (first_end rows (get_or ids count 0) n) (ready_from rows n ids count)
unfolding ready_from
ready_more rows n ids count = rw add-one

pub ready_none : (rows : List Row) (n : ℕ) (ids : List ℕ) → ready_from rows n ids 0 ≡ 0
unfolding ready_from
ready_none rows n ids = refl

-- one that never ends
pub ready_never : (rows : List Row) (n : ℕ) (ids : List ℕ) (count i : ℕ) → i < count → never ≤ first_end rows (get_or ids i 0) n → never ≤ ready_from rows n ids count
unfolding ready_from
ready_never rows n ids zero i k l = absurd (omega arith)
ready_never rows n ids (suc count) i k l =
    last_or (λ j. never ≤ first_end rows (get_or ids j 0) n → never ≤ ready_from rows n ids (suc count)) count i k
    (λ m. omega arith)
    (λ m f. omega (arith, ready_never rows n ids count i m f))
    l

-- ---- the ends of an id
abbrev pub ends : ℕ → List Row → List ℕ
ends id xs = map (λ (x : Row). x.end) (filter (λ (x : Row). eqb x.id id) xs)

ends_more : (id : ℕ) (xs : List Row) (x : Row) → ends id (xs ++ x ∷ []) ≡ ends id xs ++ cond (eqb x.id id) (x.end ∷ []) []
ends_more id xs x = rw (filter-append, map-append) (ap (λ (l : List ℕ). ends id xs ++ l) (go (eqb x.id id)))
  where
    go : (b : Bool) → map (λ (y : Row). y.end) (cond b (x ∷ []) []) ≡ cond b (x.end ∷ []) []
    go true = refl
    go false = refl

-- one end more
ready_end : (t e : ℕ) (ys : List ℕ) → IsReady t (reduce min ys) → IsReady (min e t) (reduce min (ys ++ e ∷ []))
ready_end t e [] r = omega arith
ready_end t e (y ∷ ys) r = rw (fold-append min y ys (e ∷ [])) (omega arith)

ready_other : (t : ℕ) (o : Option ℕ) → IsReady t o → IsReady (min never t) o
ready_other t None r = omega arith
ready_other t (Some e) r = omega arith

pub first_is : (rows : List Row) (id n : ℕ) → n ≤ length rows → IsReady (first_end rows id n) (reduce min (ends id (take n rows)))
unfolding first_end
first_is rows id zero l = omega arith
first_is rows id (suc n) l = rw (← add-one n, take_more rows n no_row l, ends_more id (take n rows) (row_in rows n)) (go (eqb (id_at rows n) id) (first_is rows id n (omega arith)))
  where
    go : (b : Bool) → IsReady (first_end rows id n) (reduce min (ends id (take n rows))) → IsReady (min (cond b (end_at rows n) never) (first_end rows id n)) (reduce min (ends id (take n rows) ++ cond b (end_at rows n ∷ []) []))
    go true r = ready_end (first_end rows id n) (end_at rows n) (ends id (take n rows)) r
    go false r = rw append-nil (ready_other (first_end rows id n) (reduce min (ends id (take n rows))) r)

-- ---- the first start, as the code has it
abbrev pub no_item : Item
no_item = record { first = 0; second = 0; third = 0 }

-- what it has of one id, by the first rows
pub ready_by : (rows entries : List Row) (n : ℕ) (after : List Item) (i : ℕ) (end : Option ℕ) → entries ≡ take n rows → n ≤ length rows → i < length after → end ≡ reduce min (ends (get_or after i no_item).first entries) → IsReady (first_end rows (get_or (map number_of after) i 0) n) end
ready_by rows entries n after i end e l k f = rw (f, e, get_or-map number_of after i no_item 0 k) (first_is rows (get_or after i no_item).first n l)

-- of rows that are all there are
pub ready_all : (entries : List Row) (after : List Item) (i : ℕ) (end : Option ℕ) → i < length after → end ≡ reduce min (ends (get_or after i no_item).first entries) → IsReady (first_end entries (get_or (map number_of after) i 0) (length entries)) end
ready_all entries after i end k f = ready_by entries entries (length entries) after i end (sym (take_all (length entries) entries (omega arith))) (omega arith) k f

-- ---- the first rows as a list of their own
first_taken : (rows entries : List Row) (n : ℕ) → entries ≡ take n rows → (id k : ℕ) → k ≤ n → first_end entries id k ≡ first_end rows id k
unfolding first_end
first_taken rows entries n e id zero l = refl
first_taken rows entries n e id (suc k) l =
    let row : row_in entries k ≡ row_in rows k = ap (λ (xs : List Row). row_in xs k) e ∙ get_or-take n rows k no_row l in
    ap (λ (x : Row). min (cond (eqb x.id id) x.end never) (first_end entries id k)) row
    ∙ ap (min (cond (eqb (id_at rows k) id) (end_at rows k) never)) (first_taken rows entries n e id k (omega arith))

ready_taken : (rows entries : List Row) (n : ℕ) → entries ≡ take n rows → (ids : List ℕ) (count : ℕ) → ready_from entries n ids count ≡ ready_from rows n ids count
unfolding ready_from
ready_taken rows entries n e ids zero = refl
ready_taken rows entries n e ids (suc count) =
    ap (λ (t : ℕ). max t (ready_from entries n ids count)) (first_taken rows entries n e (get_or ids count 0) n (omega arith)) ∙ ap (max (first_end rows (get_or ids count 0) n)) (ready_taken rows entries n e ids count)

pub ready_first : (rows entries : List Row) (n : ℕ) → entries ≡ take n rows → length entries ≡ n → (ids : List ℕ) (count : ℕ) → ready_from entries (length entries) ids count ≡ ready_from rows n ids count
ready_first rows entries n e l ids count = ap (λ (m : ℕ). ready_from entries m ids count) l ∙ ready_taken rows entries n e ids count

-- one that is late beside every start
pub leb_never : (r t s : ℕ) → min r never ≡ min t never → s < never → leb r s ≡ leb t s
leb_never r t s e k =
    by_order s r
    (λ l. rw (lt-leb r s l, lt-leb t s (omega arith)) refl)
    (λ l. rw (le-leb r s l, le-leb t s (omega arith)) refl)
