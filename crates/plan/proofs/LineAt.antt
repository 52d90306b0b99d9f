-- Laws of what a line says: by its end, its value, its bounds, and its `after` alone.
-- Assumes nothing.
use Rattle.std.proofs.Common.{arith, ◌≡◌, ◌<◌, ◌≤◌, map, ◌+◌, ◌-◌, ℕ, List, take, drop, length, Result, Ok, Err, refl, sym, ap, subst}
use Rattle.std.specs.Result.{IsOk, result_unwrap_or}
use Rattle.std.specs.Prelude.{IfOk}
use Rattle.rules.specs.Plan.{Header, Activity}
use Rattle.rules.specs.Lines.{split_on, field}
use Rattle.rules.specs.Fields.{Read, value, fault, ◌>>=◌, number_field, list_field, numbers}
use Rattle.rules.specs.ActivityLine.{activity_of}
use Rattle.rules.specs.Refusals.{number_of, read_as}
use Rattle.rules.specs.declared.Fault.{Fault}
use Rattle.rules.proofs.Says.{Says, said, faulted}
use Rattle.rules.proofs.FieldFacts.{number_says}
use Rattle.items.specs.declared.Item.{Item}
use Rattle.activity.specs.View.{number_of as number_is}
use Rattle.text.specs.Text.{index_of}
use Rattle.line.proofs.Lists.{mapped}
use Rattle.plan.specs.LineAt.{line_at, value_in, activity_in, LineSays}

-- up to the next LF
pub line_to : (s : List ℕ) (at end : ℕ) → end ≡ at + index_of 10 (drop at s) → take (end - at) (drop at s) ≡ line_at s at
unfolding line_at
line_to s at end e = let i : end - at ≡ index_of 10 (drop at s) = omega arith in rw i

-- what a function that reads answers, where it says a value, and what it says in each case
pub read_ok : {A B : Type 0} (view : A → B) (b : B) (r : Result A Fault) → read_as view r ≡ value b → IsOk r
unfolding read_as
read_ok view b (Ok a) e = refl
read_ok view b (Err f) e = absurd (cc)

pub read_value : {A B : Type 0} (view : A → B) (a : A) {x : Read B} → read_as view (Ok a) ≡ x → x ≡ value (view a)
unfolding read_as
read_value view a e = sym e

pub read_fault : {A B : Type 0} (view : A → B) (f : Fault) {x : Read B} → read_as view (Err f) ≡ x → x ≡ fault (number_of f)
unfolding read_as
read_fault view f e = sym e

pub value_is : {A : Type 0} {a b : A} → ◌≡◌ {A = Read A} (value a) (value b) → a ≡ b
value_is e = cc

-- the line that begins at `at` says the activity a
pub line_says : (h : Header) (s : List ℕ) (at : ℕ) (a : Activity) → at < length s → activity_of h (split_on 9 (line_at s at)) ≡ value a → LineSays h s at × (activity_in h s at ≡ a)
unfolding activity_in value_in
line_says h s at a i e =
    let v : activity_in h s at ≡ a = ap value_in e in
    (record { inside = i; says = rw v e }, v)

-- what is said of a value
pub of_value : {A : Type 0} {P : A → Type 0} {F : ℕ → Type 0} {x : Read A} {a : A} → Says P F x → x ≡ value a → P a
of_value {P = P} (said p) e = subst P (cc) p
of_value (faulted f) e = cc

number_most : (lo hi : ℕ) (s : List ℕ) (v : ℕ) → number_field lo hi s ≡ value v → v ≤ hi
number_most lo hi s v e = let f = of_value (number_says lo hi s) e in omega (arith, f.0, f.1.high)

-- a field that has a value, then the next ones
field_then : {A B : Type 0} {Q : B → Type 0} (x : Read A) {next : A → Read B} → ((a : A) → x ≡ value a → Says Q (λ k. Unit {0}) (next a)) → Says Q (λ k. Unit {0}) (x >>= next)
unfolding ◌>>=◌
field_then (value a) f = f a refl
field_then (fault k) f = faulted tt

-- the fields of a line that says an activity
pub record LineFields (fs : List (List ℕ)) (a : Activity) : Type 0 where
  pub id : a.id ≤ 65535
  pub priority : a.priority ≤ 65535
  pub after : list_field (numbers 65535 8) (field fs 6) ≡ value a.after

pub line_fields : (h : Header) (fs : List (List ℕ)) (a : Activity) → activity_of h fs ≡ value a → LineFields fs a
unfolding activity_of
line_fields h fs a e = of_value each e
  where
    each : Says (LineFields fs) (λ k. Unit {0}) (activity_of h fs)
    each =
        field_then _ (λ id i.
        field_then _ (λ priority j.
        field_then _ (λ duration _.
        field_then _ (λ preferred _.
        field_then _ (λ windows _.
        field_then _ (λ after k.
        field_then _ (λ units _.
        field_then _ (λ needs _.
        field_then _ (λ sets _.
        field_then _ (λ engines _.
        field_then _ (λ peak _.
        field_then _ (λ draw _.
        field_then _ (λ volume _.
        field_then _ (λ warm _.
        said record { id = number_most 0 65535 _ _ i; priority = number_most 0 65535 _ _ j; after = k }))))))))))))))

-- the ids that are read of its field, or others where it is no list
pub ids_read : (r : Result (List Item) Fault) (others : List Item) (ids : List ℕ) → mapped number_is (read_as (λ xs. xs) r) ≡ value ids → map number_is (result_unwrap_or r others) ≡ ids
unfolding mapped read_as
ids_read (Ok xs) others ids e = value_is e
ids_read (Err f) others ids e = absurd (cc)

-- they are as few as those that are read, and as the others
pub few_read : {A : Type 0} (most : ℕ) (r : Result (List A) Fault) (others : List A) → IfOk r (λ xs. length xs ≤ most) → length others ≤ most → length (result_unwrap_or r others) ≤ most
few_read most (Ok xs) others h k = h
few_read most (Err f) others h k = k
