-- What is known of the rows, by place and by entry.
-- Assumes nothing.
use Prim.Native.Nat.{ℕ, zero, suc, ◌+◌, ◌<◌, ◌≤◌}
use mathlib.Core.Path.{◌≡◌, refl, sym, ap, subst, ◌∙◌}
use mathlib.Core.List.{List, [], ◌∷◌, Memᴰ}
use native.Mathlib.Omega.{arith}
use native.Mathlib.Nat.{not-suc-le-zero}
use native.Mathlib.Numerals.{add-one}
use Rattle.std.proofs.Common.{get_or, get_or-take, length-take}
use Rattle.std.proofs.lemmas.List.{get_or_default, take_all}
use Rattle.std.specs.Prelude.{sum_by}
use Rattle.std.proofs.lemmas.List.Sums.{sum_by_more}
use lib.ListN.{length, take}
use Rattle.rules.specs.Plan.{Entry, Schedule}
use Rattle.rules.specs.Tests.{total}
use Rattle.rules.specs.MeetsV.{total_volume}
use Rattle.rules.proofs.Tests.{last_or}
use Rattle.placed.specs.Tables.{no_row, row_in, volumes_in}
use Rattle.placed.specs.declared.row.Row.{Row}
use Rattle.placed.specs.Held.{AmountsAt, Rows}

-- there are as many rows as entries
pub rows_count : (P : ℕ → Entry → Type 0) (n : ℕ) (placed : Schedule) → Rows P n placed → length placed ≡ n
unfolding Rows
rows_count P zero [] r = refl
rows_count P zero (e ∷ placed) r = elim r [ ]
rows_count P (suc n) [] r = elim r [ ]
rows_count P (suc n) (e ∷ placed) r = ap suc (rows_count P n placed r.1)

-- what follows of each row
pub rows_map : (P Q : ℕ → Entry → Type 0) (n : ℕ) (placed : Schedule) → ((i : ℕ) (e : Entry) → i < n → Memᴰ e placed → P i e → Q i e) → Rows P n placed → Rows Q n placed
unfolding Rows
rows_map P Q zero [] f r = r
rows_map P Q zero (e ∷ placed) f r = elim r [ ]
rows_map P Q (suc n) [] f r = elim r [ ]
rows_map P Q (suc n) (e ∷ placed) f r = (f n e (omega arith) (Memᴰ.head refl) r.0, rows_map P Q n placed (λ i d k m. f i d (omega arith) (Memᴰ.tail m)) r.1)

-- the entry of a row
pub row_at : (P : ℕ → Entry → Type 0) (n : ℕ) (placed : Schedule) → Rows P n placed → (i : ℕ) → i < n → (e : Entry) × Memᴰ e placed × P i e
unfolding Rows
row_at P zero [] r i k = absurd (not-suc-le-zero k)
row_at P zero (e ∷ placed) r i k = elim r [ ]
row_at P (suc n) [] r i k = elim r [ ]
row_at P (suc n) (e ∷ placed) r i k =
    last_or (λ j. (d : Entry) × Memᴰ d (e ∷ placed) × P j d) n i k (e, Memᴰ.head refl, r.0)
    (λ l. let d = row_at P n placed r.1 i l in (d.0, Memᴰ.tail d.1, d.2))

-- the row of an entry
pub row_of : (P : ℕ → Entry → Type 0) (n : ℕ) (placed : Schedule) → Rows P n placed → (e : Entry) → Memᴰ e placed → (i : ℕ) × (i < n) × P i e
unfolding Rows
row_of P zero [] r e m = elim m [ ]
row_of P zero (x ∷ placed) r e m = elim r [ ]
row_of P (suc n) [] r e m = elim r [ ]
row_of P (suc n) (x ∷ placed) r e (Memᴰ.head q) = (n, omega arith, subst (P n) (sym q) r.0)
row_of P (suc n) (x ∷ placed) r e (Memᴰ.tail m) = let w = row_of P n placed r.1 e m in (w.0, omega (arith, w.1), w.2)

-- one row more
pub rows_more : (P : ℕ → Entry → Type 0) (n : ℕ) (e : Entry) (placed : Schedule) → P n e → Rows P n placed → Rows P (n + 1) (e ∷ placed)
unfolding Rows
rows_more P n e placed p r = rw (add-one n) (p, r)

-- no row
pub rows_none : (P : ℕ → Entry → Type 0) → Rows P 0 []
unfolding Rows
rows_none P = tt

-- ---- sums over the rows
pub volumes_taken : (rows : List Row) (n : ℕ) → n ≤ length rows → volumes_in rows n ≡ sum_by (λ (row : Row). row.volume) (take n rows)
unfolding volumes_in
volumes_taken rows zero l = refl
volumes_taken rows (suc n) l = omega (arith, volumes_taken rows n (omega arith), simp add-one at (sum_by_more (λ (row : Row). row.volume) rows n no_row l))

-- of all rows, and of the first n as a list of their own
pub volumes_summed : (rows : List Row) → volumes_in rows (length rows) ≡ sum_by (λ (row : Row). row.volume) rows
volumes_summed rows = volumes_taken rows (length rows) (omega arith) ∙ ap (sum_by (λ (row : Row). row.volume)) (take_all (length rows) rows (omega arith))

pub volumes_first : (rows xs : List Row) (n : ℕ) → xs ≡ take n rows → length xs ≡ n → volumes_in xs (length xs) ≡ volumes_in rows n
volumes_first rows xs n e l =
    volumes_summed xs ∙ ap (sum_by (λ (row : Row). row.volume)) e ∙ sym (volumes_taken rows n (omega (arith, ap length e, length-take n rows, l)))

-- the sum over the rows is that over the schedule
pub volumes_are : (rows : List Row) (n : ℕ) (placed : Schedule) → Rows (λ i e. AmountsAt rows i e.activity) n placed → volumes_in rows n ≡ total_volume placed
unfolding Rows volumes_in total_volume total
volumes_are rows zero [] r = refl
volumes_are rows zero (e ∷ placed) r = elim r [ ]
volumes_are rows (suc n) [] r = elim r [ ]
volumes_are rows (suc n) (e ∷ placed) r = rw (r.0.volume, volumes_are rows n placed r.1)

-- a row of those taken
pub row_taken : (rows xs : List Row) (n i : ℕ) (d : Row) → xs ≡ take n rows → length xs ≡ n → i < n → get_or xs i d ≡ row_in rows i
row_taken rows xs n i d e l k = get_or_default xs i d no_row (omega (arith, l)) ∙ ap (λ (ys : List Row). row_in ys i) e ∙ get_or-take n rows i no_row k
