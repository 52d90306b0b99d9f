-- Orders, sums and differences of signed whole numbers as facts of natural numbers, for `omega`.
-- Assumes nothing.
use Prim.Native.Nat.{ℕ, zero, suc, ◌+◌, ◌-◌, ◌≤◌, ◌<◌}
use mathlib.Core.Path.{◌≡◌, sym, subst}
use mathlib.Core.Bool.{Bool, true, false, not, cond}
use native.Mathlib.Omega.{arith}
use lib.Dec.{T, ltb, leb→le, le→leb, ltb→lt, nltb→le, nleb→lt}
use lib.IntN.{ℤ, pos, negsuc, neg_ℤ, sub_ℕ, ◌+ℤ◌, ◌-ℤ◌}
use lib.Signed.{le_z, lt_z, ◌≤ℤ◌, ◌<ℤ◌, le_z_yes, lt_z_yes, lt_z_no, clash_ℤ}
use borrow.Author.Tests.{not-true, not-false}
use Rattle.rules.proofs.Tests.{is_true, is_false}

-- z is `above z` less `under z`
abbrev pub above : ℤ → ℕ
above (pos n) = n
above (negsuc n) = 0

abbrev pub under : ℤ → ℕ
under (pos n) = 0
under (negsuc n) = suc n

pub cond_by : {A : Type 0} (P : A → Type 0) (t : Bool) (x y : A) → (T t → P x) → (T (not t) → P y) → P (cond t x y)
cond_by P true x y f g = f tt
cond_by P false x y f g = g tt

sub_parts : (a b : ℕ) → above (sub_ℕ a b) + b ≡ a + under (sub_ℕ a b)
sub_parts a b =
    cond_by (λ z. above z + b ≡ a + under z) (ltb a b) (negsuc (b - suc a)) (pos (a - b)) (λ t. omega (arith, ltb→lt a b t)) (λ t. omega (arith, nltb→le a b t))

pub add_parts : (a b : ℤ) → above (a +ℤ b) + (under a + under b) ≡ above a + above b + under (a +ℤ b)
add_parts (pos a) (pos b) = omega arith
add_parts (pos a) (negsuc b) = omega (arith, sub_parts a (suc b))
add_parts (negsuc a) (pos b) = omega (arith, sub_parts b (suc a))
add_parts (negsuc a) (negsuc b) = omega arith

neg_parts : (n : ℕ) → above (neg_ℤ (pos n)) + n ≡ under (neg_ℤ (pos n))
neg_parts zero = omega arith
neg_parts (suc n) = omega arith

pub less_parts : (a : ℤ) (n : ℕ) → above (a -ℤ pos n) + (under a + n) ≡ above a + under (a -ℤ pos n)
less_parts a n = omega (arith, add_parts a (neg_ℤ (pos n)), neg_parts n)

pub le_of : (a b : ℤ) → above a + under b ≤ above b + under a → a ≤ℤ b
le_of (pos a) (pos b) h = record { le = le→leb a b (omega arith) }
le_of (pos a) (negsuc b) h = absurd (omega arith)
le_of (negsuc a) (pos b) h = record { le = tt }
le_of (negsuc a) (negsuc b) h = record { le = le→leb b a (omega arith) }

pub le_yes : (a b : ℤ) → T (le_z a b) → above a + under b ≤ above b + under a
le_yes (pos a) (pos b) t = omega (arith, leb→le a b t)
le_yes (pos a) (negsuc b) t = absurd t
le_yes (negsuc a) (pos b) t = omega arith
le_yes (negsuc a) (negsuc b) t = omega (arith, leb→le b a t)

pub le_no : (a b : ℤ) → T (not (le_z a b)) → above b + under a < above a + under b
le_no (pos a) (pos b) t = omega (arith, nleb→lt a b t)
le_no (pos a) (negsuc b) t = omega arith
le_no (negsuc a) (pos b) t = absurd t
le_no (negsuc a) (negsuc b) t = omega (arith, nleb→lt b a t)

pub le_parts : {a b : ℤ} → a ≤ℤ b → above a + under b ≤ above b + under a
le_parts {a} {b} h = le_yes a b h.le

-- `omega signed` reads and proves orders of signed whole numbers
pub ruleset signed = (arith, le_parts, le_of)

-- the tests of the orders say what the orders say
pub le_z_true : {a b : ℤ} → le_z a b ≡ true → a ≤ℤ b
le_z_true e = le_z_yes (subst T (sym e) tt)

pub le_le_z : (a b : ℤ) → a ≤ℤ b → le_z a b ≡ true
le_le_z a b h = is_true (le_z a b) h.le

pub lt_z_true : {a b : ℤ} → lt_z a b ≡ true → a <ℤ b
lt_z_true e = lt_z_yes (subst T (sym e) tt)

pub lt_z_false : {a b : ℤ} → lt_z a b ≡ false → b ≤ℤ a
lt_z_false e = lt_z_no (subst (λ (t : Bool). T (not t)) (sym e) tt)

pub lt_lt_z : (a b : ℤ) → a <ℤ b → lt_z a b ≡ true
lt_lt_z a b h = not-false (lt_z a b) (is_false (not (lt_z a b)) (λ e. clash_ℤ h (lt_z_false (not-true (lt_z a b) e))))

pub le_lt_z : (a b : ℤ) → b ≤ℤ a → lt_z a b ≡ false
le_lt_z a b h = is_false (lt_z a b) (λ e. clash_ℤ (lt_z_true e) h)
