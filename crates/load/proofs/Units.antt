-- Two rows have a unit in common exactly when the two activities have.
-- Assumes nothing.
use Prim.Native.Nat.{ℕ, ◌<◌, ◌≤◌}
use mathlib.Core.Path.{◌≡◌, refl, sym, ◌∙◌, subst}
use mathlib.Core.Bool.{Bool, true, false, ◌&&◌}
use mathlib.Core.List.{List, Memᴰ}
use native.Mathlib.Omega.{arith}
use lib.Dec.{eqb}
use lib.ListN.{length, get_or}
use Rattle.std.specs.List.{list_any, zip}
use Rattle.std.proofs.lemmas.Slice.Zip.{get_or-zip, length-zip}
use Rattle.std.proofs.lemmas.List.Folds.{list_any_at}
use Rattle.rules.proofs.Library.{any_is}
use borrow.Author.Tests.{eq-eqb, eqb-true}
use Rattle.rules.specs.Plan.{Activity}
use Rattle.rules.specs.Tests.{ever, any_of}
use Rattle.rules.proofs.Tests.{ever_at, ever_found, and_left, and_right, and_both}
use Rattle.rules.proofs.Lists.{any_mem}
use Rattle.rules.proofs.ListAt.{any_found, at_mem}
use Rattle.rules.proofs.Local.{bool_ext}
use Rattle.placed.specs.declared.row.Row.{Row}
use Rattle.placed.specs.Tables.{unit_at}
use Rattle.placed.specs.Held.{UnitsAt}
use Rattle.load.specs.Loads.{share_units, share_unit}

pub share_unit_is : (rows : List Row) (i j : ℕ) (a b : Activity) → UnitsAt rows i b → UnitsAt rows j a → ((u : ℕ) → Memᴰ u a.units → u ≤ 31) → share_unit rows i j ≡ any_of (λ u. any_of (eqb u) b.units) a.units
unfolding share_units
share_unit_is rows i j a b f g few = bool_ext _ _ there back
  where
    there : ever (λ u. unit_at rows i u && unit_at rows j u) 32 ≡ true → any_of (λ u. any_of (eqb u) b.units) a.units ≡ true
    there q =
        let w = ever_found (λ u. unit_at rows i u && unit_at rows j u) 32 q in
        let u = w.0 in
        let theirs : any_of (eqb u) b.units ≡ true = sym (f u w.1) ∙ and_left _ _ w.2 in
        let own : any_of (eqb u) a.units ≡ true = sym (g u w.1) ∙ and_right (unit_at rows i u) _ w.2 in
        let found = any_found 0 (eqb u) a.units own in
        let same : u ≡ get_or a.units found.0 0 = eqb-true _ _ found.2 in
        any_mem (λ u. any_of (eqb u) b.units) a.units u (subst (λ (x : ℕ). Memᴰ x a.units) (sym same) (at_mem 0 a.units found.0 found.1)) theirs

    back : any_of (λ u. any_of (eqb u) b.units) a.units ≡ true → ever (λ u. unit_at rows i u && unit_at rows j u) 32 ≡ true
    back q =
        let found = any_found 0 (λ u. any_of (eqb u) b.units) a.units q in
        let u = get_or a.units found.0 0 in
        let m : Memᴰ u a.units = at_mem 0 a.units found.0 found.1 in
        let k : u < 32 = omega (arith, few u m) in
        ever_at _ 32 u k (and_both (f u k ∙ found.2) (g u k ∙ any_mem (eqb u) a.units u m (eq-eqb u u refl)))

-- the rows' flags side by side
pub zipped : (xs ys : List Bool) (n : ℕ) → length xs ≡ n → length ys ≡ n → list_any (λ (p : Bool × Bool). p.0 && p.1) (zip xs ys) ≡ ever (λ u. get_or xs u false && get_or ys u false) n
zipped xs ys n l m = bool_ext _ _ there back
  where
    long : length (zip xs ys) ≡ n
    long = length-zip xs ys ∙ rw (l, m) (omega arith)

    at_zip : (i : ℕ) → i < n → get_or (zip xs ys) i (false, false) ≡ (get_or xs i false, get_or ys i false)
    at_zip i k = get_or-zip xs ys i (false, false) (omega arith) (omega arith)

    there : list_any (λ (p : Bool × Bool). p.0 && p.1) (zip xs ys) ≡ true → ever (λ u. get_or xs u false && get_or ys u false) n ≡ true
    there q =
        let w = any_found (false, false) (λ (p : Bool × Bool). p.0 && p.1) (zip xs ys) (any_is (λ (p : Bool × Bool). p.0 && p.1) (zip xs ys) ∙ q) in
        let k : w.0 < n = omega (arith, long, w.1) in
        ever_at _ n w.0 k (rw (at_zip w.0 k) at w.2)

    back : ever (λ u. get_or xs u false && get_or ys u false) n ≡ true → list_any (λ (p : Bool × Bool). p.0 && p.1) (zip xs ys) ≡ true
    back q =
        let w = ever_found (λ u. get_or xs u false && get_or ys u false) n q in
        list_any_at (λ (p : Bool × Bool). p.0 && p.1) (zip xs ys) w.0 (false, false) (omega (arith, long, w.1)) (rw (at_zip w.0 w.1) w.2)
