-- A condition's bit, by its number.
-- Assumes nothing.
use Prim.Native.Nat.{ℕ, zero, suc, ◌^◌, ◌<◌, ◌≤◌}
use mathlib.Core.Path.{◌≡◌}
use mathlib.Core.Logic.{◌≢◌}
use native.Mathlib.Omega.{arith}
use borrow.Author.Tests.{lt-ltb}
use Rattle.rules.specs.Conditions.{condition_count}
use Rattle.sets.specs.Sets.{bit_of}

-- a number that is none of the first n
abbrev pub NoneOf : ℕ → ℕ → Type 0
NoneOf c zero = Unit {0}
NoneOf c (suc n) = NoneOf c n × (c ≡ n → ⊥)

pub past : (n c : ℕ) → NoneOf c n → n ≤ c
past zero c r = omega arith
past (suc n) c r = let l : n ≤ c = past n c r.0 in let d : c ≢ n = r.1 in omega arith

pub bit_is : (c : ℕ) → c < condition_count → bit_of c ≡ 2 ^ c
unfolding bit_of
bit_is c k = rw (lt-ltb c condition_count k)
