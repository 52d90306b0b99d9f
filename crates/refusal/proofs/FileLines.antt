-- The lines of a file are the parts that `split_inclusive` gives.
-- Assumes nothing.
use Rattle.std.proofs.Common.{◌≡◌, ℕ, zero, suc, ◌+◌, ◌-◌, ◌≤◌, ◌<◌, min, Bool, List, [], ◌∷◌, ◌++◌, length, refl, sym, ap, subst, ◌∙◌, arith, Option, MatchOption, Bor}
use denote.Param.Members.{Mut}
use lib.Dec.{eqb}
use lib.ListN.{get_or}
use Rattle.std.specs.Fn.{ComputesKey, CalledAt}
use Rattle.std.specs.List.{IsFirstMatchOrLen}
use Rattle.std.specs.Slice.Iter.{split_inclusive_rest, split_inclusive_callee}
use Rattle.std.specs.declared.slice.SplitInclusive.{SplitInclusive}
use Rattle.std.proofs.lemmas.Fn.{always_returns_same}
use Rattle.std.proofs.lemmas.Iterator.{YieldsList}
use Rattle.std.proofs.lemmas.Iterator.Splits.{YieldsList-from_shown_while}
use Rattle.rules.specs.Lines.{on_first, lines}
use Rattle.rules.specs.Faults.{line_at}

abbrev is_lf : ℕ → Bool
is_lf b = eqb b 10

-- x is the file up to its first LF
first_line : (x rest : List ℕ) (i : ℕ) → length x ≡ min (i + 1) (length (x ++ rest)) → IsFirstMatchOrLen is_lf (x ++ rest) i → 0 < length (x ++ rest) → lines (x ++ rest) ≡ x ∷ lines rest
unfolding lines on_first
first_line [] rest i e f h = absurd (omega arith)
first_line (y ∷ []) rest zero e f h = rw (f.1 h 0)
first_line (y ∷ z ∷ x) rest zero e f h = absurd (omega arith)
first_line (y ∷ []) [] (suc i) e f h = rw (f.0 0 0 (omega arith) (omega arith))
first_line (y ∷ []) (z ∷ rest) (suc i) e f h = absurd (omega arith)
first_line (y ∷ z ∷ x) rest (suc i) e f h =
    rw (f.0 0 0 (omega arith) (omega arith), first_line (z ∷ x) rest i (omega arith) ((λ k d l m. f.0 (suc k) d (omega arith) (omega arith)), λ l d. f.1 (omega arith) d) (omega arith))

-- one step of `split_inclusive`
abbrev steps : {F : Type 0} → Mut F (Bor ℕ × Unit {0}) Bool → SplitInclusive ℕ F → Option (Bor (List ℕ)) → SplitInclusive ℕ F → Type 0
steps g s r t =
    MatchOption r ((length (split_inclusive_rest s) ≡ 0) × (t ≡ s))
    (λ x. (split_inclusive_rest s ≡ x.now ++ split_inclusive_rest t)
    × ((i : ℕ) × (length x.now ≡ min (i + 1) (length (split_inclusive_rest s))) × ((p : ℕ → Bool) → ComputesKey g p (split_inclusive_callee s) → ComputesKey g p (split_inclusive_callee t) × IsFirstMatchOrLen p (split_inclusive_rest s) i))
    × (0 < length (split_inclusive_rest s)))

no_lines : (s : List ℕ) → length s ≡ 0 → length (lines s) ≡ 0
unfolding lines
no_lines [] e = refl
no_lines (x ∷ s) e = absurd (omega arith)

-- a file that is cut behind each LF; the first two facts are the clauses `rest` and `closure` of `split_inclusive`
pub yields_lines : {F : Type 0} {s : _} (g : Mut F (Bor ℕ × Unit {0}) Bool) {f : F} (xs : List ℕ) → split_inclusive_rest s ≡ xs → split_inclusive_callee s ≡ f → ((x : ℕ) (b : Bool) (q : F) → CalledAt g f x b q → (q ≡ f) × (b ≡ is_lf x)) → YieldsList (steps g) (λ x. x.now) s (lines xs)
yields_lines {F} {s} g {f} xs rest closure tests =
    subst (λ ys. YieldsList (steps g) (λ x. x.now) s (lines ys)) rest
    (YieldsList-from_shown_while (steps g) (λ x. x.now) (λ t. lines (split_inclusive_rest t)) (λ t. ComputesKey g is_lf (split_inclusive_callee t))
    (λ t u h k. no_lines _ k.0)
    (λ t x u h k.
    let next = k.1.2 is_lf h in
    (next.0, ap lines k.0 ∙ first_line x.now (split_inclusive_rest u) k.1.0 (k.1.1 ∙ ap (λ w. min (k.1.0 + 1) (length w)) k.0) (subst (λ w. IsFirstMatchOrLen is_lf w k.1.0) k.0 next.1) (subst (λ w. 0 < length w) k.0 k.2)))
    s (subst (ComputesKey g is_lf) (sym closure) (always_returns_same g (λ a r. r ≡ is_lf a.0.now) f (λ a r q k. let m = tests a.0.now r q (record { shown = a.0; shows = refl; called = k }) in (m.1, m.0)))))

-- line n by its index
pub line_by_index : (s : List ℕ) (n : ℕ) → 1 ≤ n → line_at s n ≡ get_or (lines s) (n - 1) []
line_by_index s zero h = absurd (omega arith)
line_by_index s (suc i) h =
    let e : i ≡ suc i - 1 = omega arith in
    ap (λ (k : ℕ). get_or (lines s) k []) e
