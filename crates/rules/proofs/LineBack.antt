-- The first line and an activity line read back as they were written.
-- Assumes nothing.
use mathlib.Core.Path.{◌≡◌, refl, ap}
use mathlib.Core.Bool.{true, not}
use mathlib.Core.List.{List, [], ◌∷◌, ◌++◌}
use Prim.Native.Nat.{ℕ, suc, ◌^◌, ◌≤◌, ◌<◌}
use native.Mathlib.Omega.{arith}
use lib.Dec.{leb, eqb}
use lib.ListN.{length}
use borrow.Author.Tests.{leb-true, ne_eqb, eq-eqb}
use Rattle.rules.specs.Bytes.{bytes, same}
use Rattle.rules.specs.Tests.{every}
use Rattle.rules.specs.Plan.{Header, Activity}
use Rattle.rules.specs.Number.{decimal}
use Rattle.rules.specs.Lines.{lines, fields, parted, line_of}
use Rattle.rules.specs.Fields.{Read, value, ◌>>=◌, number_field, Kind, list_field}
use Rattle.rules.specs.HeaderLine.{header_of}
use Rattle.rules.specs.ActivityLine.{activity_of}
use Rattle.rules.specs.Reading.{formed}
use Rattle.rules.specs.Print.{list_text, header_text, activity_text}
use Rattle.rules.specs.WellFormed.{ListFormed, HeaderFormed, ActivityFormed}
use Rattle.rules.proofs.Tests.{and_both}
use Rattle.rules.proofs.Every.{every_weaker}
use Rattle.rules.proofs.Parted.{free, low_byte, decimal_free, lines_line, fields_line, ended_line}
use Rattle.rules.proofs.ListBack.{number_back, Writes, list_back, list_free}
use Rattle.rules.proofs.NumbersBack.{writes_number, writes_window, writes_setting}

-- the fields hold neither tab nor LF, and what is read of them is a
record Reads {A : Type 0} (fs : List (List ℕ)) (r : Read A) (a : A) : Type 0 where
  bare : (c : ℕ) → c < 11 → every (free c) fs ≡ true
  says : r ≡ value a

-- no fields, and nothing more to read
no_fields : {A : Type 0} (a : A) → Reads [] (value a) a
unfolding every
no_fields a = record { bare = λ c l. refl; says = refl }

module _ {A B : Type 0} {fs : List (List ℕ)} {b : B} (next : A → Read B) where
  -- a field in front that reads as a, and then the others
  one_more : {f : List ℕ} {r : Read A} {a : A} → ((c : ℕ) → c < 11 → free c f ≡ true) → r ≡ value a → Reads fs (next a) b → Reads (f ∷ fs) (r >>= next) b
  unfolding every ◌>>=◌
  one_more n e g = record { bare = λ c l. and_both (n c l) (g.bare c l); says = rw e g.says }

-- such a field: a number
number : {B : Type 0} {fs : List (List ℕ)} {b : B} {lo hi x : ℕ} (next : ℕ → Read B) → (lo ≤ x) × (x ≤ hi) × (x < 10 ^ 10) → Reads fs (next x) b → Reads (decimal x ∷ fs) (number_field lo hi (decimal x) >>= next) b
number {lo = lo} {hi = hi} {x = x} next r = one_more next (λ c l. decimal_free c x (low_byte c (omega arith))) (number_back lo hi x r.0 r.1 r.2)

-- and a list of items
list : {A B : Type 0} {fs : List (List ℕ)} {b : B} {k : Kind A} {InRange : A → Type 0} {write : A → List ℕ} (next : List A → Read B) → Writes k InRange write
    → (xs : List A) → ListFormed InRange k.low k.high k.most xs → Reads fs (next xs) b → Reads (list_text write xs ∷ fs) (list_field k (list_text write xs) >>= next) b
list {k = k} {InRange = InRange} {write = write} next w xs f =
    one_more next (λ c l. list_free k InRange write w c (omega arith) xs f) (list_back k InRange write w xs f)

-- how a line reads: it has the word and the number of fields, its fields read as a, and it is the first line of what it begins
pub record Line {A : Type 0} (word : List ℕ) (count : ℕ) (of : List (List ℕ) → Read A) (l : List ℕ) (a : A) : Type 0 where
  pub form : formed word count l ≡ true
  pub says : of (fields l) ≡ value a
  pub next : (rest : List ℕ) → lines (l ++ rest) ≡ l ∷ lines rest

-- a word of bytes above 10 holds neither tab nor LF
word_free : (c : ℕ) (w : List ℕ) → c < 11 → every (leb 11) w ≡ true → free c w ≡ true
word_free c w h = every_weaker (leb 11) (λ x. not (eqb x c)) (λ x e. ap not (ne_eqb x c (omega (arith, leb-true 11 x e)))) w

-- a line of a word and such fields reads back
line_back : {A : Type 0} (of : List (List ℕ) → Read A) (a : A) (word : List ℕ) (fs : List (List ℕ))
    → same word word ≡ true
    → every (leb 11) word ≡ true
    → Reads fs (of (word ∷ fs)) a
    → Line word (suc (length fs)) of (line_of (word ∷ fs)) a
unfolding every formed line_of
line_back of a word fs s w r =
    let none : (c : ℕ) → c < 11 → every (free c) (word ∷ fs) ≡ true = λ c l. and_both (word_free c word l w) (r.bare c l) in
    let back : fields (line_of (word ∷ fs)) ≡ word ∷ fs = fields_line word fs (none 9 (omega arith)) in
    record {
      form = rw (ended_line (parted 9 (word ∷ fs)), back, s, eq-eqb (suc (length fs)) (suc (length fs)) refl);
      says = rw back r.says;
      next = λ rest. lines_line (word ∷ fs) rest (none 10 (omega arith));
    }

-- the first line, field by field
pub header_back : (h : Header) → HeaderFormed h → Line (bytes "plan") 12 header_of (header_text h) h
unfolding header_text header_of
header_back h g =
    line_back header_of h (bytes "plan") _ (unfold same in refl) (unfold every in refl) (
    number _ (omega arith) (
    number _ (omega arith) (
    number _ (omega arith) (
    number _ (omega arith) (
    number _ (omega arith) (
    number _ (omega arith) (
    number _ (omega arith) (
    number _ (omega arith) (
    number _ (omega arith) (
    number _ (omega arith) (
    number _ (omega arith) (
    no_fields h))))))))))))

-- an activity line, field by field
pub activity_back : (h : Header) (a : Activity) → HeaderFormed h → ActivityFormed h a → Line (bytes "act") 15 (activity_of h) (activity_text a) a
unfolding activity_text activity_of
activity_back h a g f =
    line_back (activity_of h) a (bytes "act") _ (unfold same in refl) (unfold every in refl) (
    number _ (omega arith) (
    number _ (omega arith) (
    number _ (omega arith) (
    number _ (omega arith) (
    list _ writes_window a.windows f.windows (
    list _ (writes_number 65535 8 (omega arith)) a.after f.after (
    list _ (writes_number 31 32 (omega arith)) a.units f.units (
    list _ writes_setting a.needs f.needs (
    list _ writes_setting a.sets f.sets (
    number _ (omega arith) (
    number _ (omega arith) (
    number _ (omega arith) (
    number _ (omega arith) (
    number _ (omega arith) (
    no_fields a)))))))))))))))
