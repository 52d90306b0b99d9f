-- A well-formed plan is written in at most 60,000 bytes.
-- Assumes nothing.
use mathlib.Core.Path.{refl}
use mathlib.Core.List.{List, [], ◌∷◌, map, Memᴰ}
use Prim.Native.Nat.{ℕ, suc, ◌+◌, ◌*◌, ◌^◌, ◌≤◌, ◌<◌}
use native.Mathlib.Nat.{suc-mul, mul-le-mul_right}
use native.Mathlib.Omega.{arith}
use lib.ListN.{length, length-append}
use Rattle.rules.specs.Plan.{Header, Activity, Plan}
use Rattle.rules.specs.Number.{decimal}
use Rattle.rules.specs.Lines.{behind, parted, line_of}
use Rattle.rules.specs.Print.{list_text, window_text, setting_text, header_text, activity_text, activities_text, plan_text}
use Rattle.rules.specs.WellFormed.{ListFormed, HeaderFormed, ActivityFormed, WellFormed}
use Rattle.rules.proofs.Decimal.{decimal_length}
use Rattle.rules.proofs.NumbersBack.{Small}

-- a number in range has up to ten digits
ten : (x : ℕ) → x < 10 ^ 10 → length (decimal x) ≤ 10
ten = decimal_length 9

-- some of them with a byte between each two
numbers_behind : (b : ℕ) (xs : List ℕ) → Small xs → length (behind b (map decimal xs)) ≤ length xs * 11
unfolding behind
numbers_behind b [] s = omega arith
numbers_behind b (x ∷ xs) s = simp (length-append, suc-mul) (omega (arith, ten x s.0, numbers_behind b xs s.1))

numbers_length : (b x : ℕ) (xs : List ℕ) → Small (x ∷ xs) → length (parted b (map decimal (x ∷ xs))) ≤ 10 + length xs * 11
unfolding parted
numbers_length b x xs s = simp length-append (omega (arith, ten x s.0, numbers_behind b xs s.1))

-- items of up to m bytes, each behind a byte
behind_length : {A : Type 0} (write : A → List ℕ) (b m : ℕ) (xs : List A) → ((x : A) → Memᴰ x xs → length (write x) ≤ m) → length (behind b (map write xs)) ≤ length xs * suc m
unfolding behind
behind_length write b m [] f = omega arith
behind_length write b m (x ∷ xs) f =
    simp (length-append, suc-mul) (omega (arith, f x (Memᴰ.head refl), behind_length write b m xs (λ y k. f y (Memᴰ.tail k))))

-- a list of up to `most` items of up to m bytes
list_length : {A : Type 0} {InRange : A → Type 0} {low high : A → ℕ} {most : ℕ} (write : A → List ℕ) (m : ℕ) → ((x : A) → InRange x → length (write x) ≤ m)
    → (xs : List A) → ListFormed InRange low high most xs → length (list_text write xs) ≤ suc (most * suc m)
unfolding list_text parted
list_length write m f [] g = omega arith
list_length {most = most} write m f (x ∷ xs) g =
    simp length-append (omega (
      arith,
      f x (g.in_range x (Memᴰ.head refl)),
      behind_length write 44 m xs (λ y k. f y (g.in_range y (Memᴰ.tail k))),
      mul-le-mul_right (suc m) g.few,
    ))

-- the word, eleven numbers, each behind a tab, and the LF
header_length : (h : Header) → HeaderFormed h → length (header_text h) ≤ 126
unfolding header_text line_of parted behind
header_length h g =
    simp length-append (omega (
      arith,
      ten h.horizon (omega arith),
      ten h.minute (omega arith),
      ten h.capacity (omega arith),
      ten h.floor (omega arith),
      ten h.first (omega arith),
      ten h.rate (omega arith),
      ten h.handover (omega arith),
      ten h.engines (omega arith),
      ten h.peak (omega arith),
      ten h.volume (omega arith),
      ten h.heater (omega arith),
    ))

-- the word, nine numbers, five lists, each behind a tab, and the LF
activity_length : (h : Header) (a : Activity) → HeaderFormed h → ActivityFormed h a → length (activity_text a) ≤ 861
unfolding activity_text line_of parted behind window_text setting_text
activity_length h a g f =
    simp length-append (omega (
      arith,
      ten a.id (omega arith),
      ten a.priority (omega arith),
      ten a.duration (omega arith),
      ten a.preferred (omega arith),
      list_length window_text 32 (λ w r. numbers_length 58 w.from (w.preferred ∷ w.to ∷ []) (omega (arith, r.from), (omega (arith, r.preferred, r.to), (omega (arith, r.to), tt)))) a.windows f.windows,
      list_length decimal 10 (λ x r. ten x (omega arith)) a.after f.after,
      list_length decimal 10 (λ x r. ten x (omega arith)) a.units f.units,
      list_length setting_text 21 (λ x r. numbers_length 61 x.variable (x.value ∷ []) (omega arith, (omega arith, tt))) a.needs f.needs,
      list_length setting_text 21 (λ x r. numbers_length 61 x.variable (x.value ∷ []) (omega arith, (omega arith, tt))) a.sets f.sets,
      ten a.engines (omega arith),
      ten a.peak (omega arith),
      ten a.draw (omega arith),
      ten a.volume (omega arith),
      ten a.warm (omega arith),
    ))

-- the activity lines
activities_length : (h : Header) (g : HeaderFormed h) (xs : List Activity) → ((a : Activity) → Memᴰ a xs → ActivityFormed h a) → length (activities_text xs) ≤ length xs * 861
unfolding activities_text
activities_length h g [] f = omega arith
activities_length h g (a ∷ xs) f =
    simp length-append (omega (arith, activity_length h a g (f a (Memᴰ.head refl)), activities_length h g xs (λ b m. f b (Memᴰ.tail m))))

pub plan_length : (p : Plan) → WellFormed p → length (plan_text p) ≤ 60000
unfolding plan_text
plan_length p w =
    simp length-append (omega (arith, header_length p.header w.header, activities_length p.header w.header p.activities w.each, w.few))
