-- The inputs of document 01's table of refusals (When the planner says no), 2 to 12, and one of 13 (02, [2]), as one table that antt computes; 1 by a law.
-- Assumes nothing.
use Prim.Native.Nat.{ℕ, zero, suc, ◌<◌}
use Prim.Native.String.{String}
use mathlib.Core.Path.{◌≡◌, refl}
use mathlib.Core.Bool.{Bool, true, ◌&&◌}
use mathlib.Core.List.{List, [], ◌∷◌, ◌++◌, map, Memᴰ}
use native.Mathlib.Omega.{arith}
use lib.Dec.{eqb}
use lib.ListN.{length}
use borrow.Author.Tests.{lt-ltb, eqb-true}
use Rattle.rules.specs.Open.{opened}
use Rattle.rules.specs.Tests.{every}
use Rattle.rules.specs.Number.{decimal}
use Rattle.rules.specs.Reading.{reading, no}
use Rattle.rules.specs.Calls.{Terms, refusal, outcome_call, report_call, starts_call}
use Rattle.cases.proofs.Inputs.{tabbed, line_p, line_a, worked}
use Rattle.rules.proofs.Tests.{every_mem, and_left, and_right}

-- 1: any file over 60,000 bytes, whatever they are
pub too_long : (s : List ℕ) → 60000 < length s → reading s ≡ no 1 0
unfolding reading
too_long s h = rw (lt-ltb _ _ h)

pub one_too_many : (s : List ℕ) → length s ≡ 60001 → reading s ≡ no 1 0
one_too_many s h = too_long s (omega arith)

-- activity lines of ids 1 to n
unfoldable pub numbered : ℕ → List ℕ
numbered zero = []
numbered (suc n) = numbered n ++ tabbed "act " ++ decimal (suc n) ++ tabbed " 0 1 0 - - - - - 0 0 0 0 0\n"

-- a refusal's number and line, and the answer that is to give them
pub record Row : Type 0 where
  pub number : ℕ
  pub line : ℕ
  pub answer : Terms

-- the answer to a file, with room for any report
unfoldable pub filed : List ℕ → Terms
filed s = (report_call s 60000).terms

-- P, and A with these windows
unfoldable pub with_windows : String → List ℕ
with_windows windows = line_p ++ tabbed "act 7 1 5 10 " ++ tabbed windows ++ tabbed " - 0 - 1=3 1 4 3 10 1\n"

unfoldable pub rows : List Row
rows =
    -- empty file
    record { number = 2; line = 1; answer = filed [] }
    -- id `07`
    ∷ record { number = 3; line = 2; answer = filed (line_p ++ tabbed "act 07 1 5 10 - - 0 - 1=3 1 4 3 10 1\n") }
    -- T `4097`
    ∷ record { number = 4; line = 1; answer = filed (tabbed "plan 4097 840 100 20 40 1 0 1 10 50 1\n") }
    -- P, ids 1 to 65
    ∷ record { number = 5; line = 66; answer = filed (line_p ++ numbered 65) }
    -- P, A, A
    ∷ record { number = 6; line = 3; answer = filed (line_p ++ line_a ++ line_a) }
    -- A with after `7`
    ∷ record { number = 7; line = 2; answer = filed (line_p ++ tabbed "act 7 1 5 10 - 7 0 - 1=3 1 4 3 10 1\n") }
    -- window `9:9:8`
    ∷ record { number = 8; line = 2; answer = filed (with_windows "9:9:8") }
    -- P with handover `61`
    ∷ record { number = 9; line = 0; answer = filed (tabbed "plan 20 840 100 20 40 1 61 1 10 50 1\n") }
    -- the report into 0 bytes
    ∷ record { number = 10; line = 0; answer = (report_call worked 0).terms }
    -- place 4
    ∷ record { number = 11; line = 0; answer = outcome_call worked 4 }
    -- set 512
    ∷ record { number = 12; line = 0; answer = (starts_call worked 0 512 2048).terms }
    -- window `3:2:8`
    ∷ record { number = 13; line = 2; answer = filed (with_windows "3:2:8") }
    ∷ []

-- of several, the first in the order: those of the bytes, then 11, 12, 10; over a whole field 3, then 4, 8, 13
unfoldable pub order_rows : List Row
order_rows =
    record { number = 2; line = 1; answer = (starts_call [] 4 512 0).terms }
    ∷ record { number = 2; line = 1; answer = outcome_call [] 4 }
    ∷ record { number = 11; line = 0; answer = (starts_call worked 4 512 0).terms }
    ∷ record { number = 12; line = 0; answer = (starts_call worked 0 512 0).terms }
    ∷ record { number = 10; line = 0; answer = (starts_call worked 0 0 0).terms }
    -- 13 of the file before 11, 12 and 10 of the call
    ∷ record { number = 13; line = 2; answer = (starts_call (with_windows "3:2:8") 4 512 0).terms }
    ∷ record { number = 13; line = 2; answer = outcome_call (with_windows "3:2:8") 4 }
    -- 13 in the first window, 8 at the second, 4 in the third, 3 in the fourth; then each from the last on mended
    ∷ record { number = 3; line = 2; answer = filed (with_windows "0:9:8,8:8:8,9:9:4096,20:20") }
    ∷ record { number = 4; line = 2; answer = filed (with_windows "0:9:8,8:8:8,9:9:4096,20:20:20") }
    ∷ record { number = 8; line = 2; answer = filed (with_windows "0:9:8,8:8:8,9:9:19,20:20:20") }
    ∷ record { number = 13; line = 2; answer = filed (with_windows "0:9:8,9:9:9,10:10:19,20:20:20") }
    -- the same with the first in the order in the last window
    ∷ record { number = 3; line = 2; answer = filed (with_windows "x,4096:0:0,9:9:8,20:19:20") }
    ∷ record { number = 4; line = 2; answer = filed (with_windows "0:0:0,4096:0:0,9:9:8,20:19:20") }
    ∷ record { number = 8; line = 2; answer = filed (with_windows "0:0:0,1:1:1,9:9:8,20:19:20") }
    ∷ record { number = 13; line = 2; answer = filed (with_windows "0:0:0,1:1:1,8:9:9,20:19:20") }
    -- in one window: 4, 8 and 13; 8 and 13; 13
    ∷ record { number = 4; line = 2; answer = filed (with_windows "9:4096:8") }
    ∷ record { number = 8; line = 2; answer = filed (with_windows "9:10:8") }
    ∷ record { number = 13; line = 2; answer = filed (with_windows "8:10:9") }
    -- 13 before the faults of later fields, and after those of earlier ones, on its line: before 3 in `after` and 4 in warm, after 4 in preferred and in duration
    ∷ record { number = 13; line = 2; answer = filed (line_p ++ tabbed "act 7 1 5 10 0:9:8 x 0 - 1=3 1 4 3 10 1\n") }
    ∷ record { number = 13; line = 2; answer = filed (line_p ++ tabbed "act 7 1 5 10 0:9:8 - 0 - 1=3 1 4 3 10 2\n") }
    ∷ record { number = 4; line = 2; answer = filed (line_p ++ tabbed "act 7 1 5 4096 0:9:8 - 0 - 1=3 1 4 3 10 1\n") }
    ∷ record { number = 4; line = 2; answer = filed (line_p ++ tabbed "act 7 1 21 10 0:9:8 - 0 - 1=3 1 4 3 10 1\n") }
    -- 13 before 6 of its line, before 2 of a later line and before 7 of its own; after 6 of an earlier line
    ∷ record { number = 13; line = 3; answer = filed (line_p ++ line_a ++ tabbed "act 7 1 5 10 0:9:8 - 0 - 1=3 1 4 3 10 1\n") }
    ∷ record { number = 13; line = 2; answer = filed (with_windows "0:9:8" ++ tabbed "act\n") }
    ∷ record { number = 13; line = 2; answer = filed (line_p ++ tabbed "act 7 1 5 10 0:9:8 7 0 - 1=3 1 4 3 10 1\n") }
    ∷ record { number = 6; line = 3; answer = filed (line_p ++ line_a ++ line_a ++ tabbed "act 8 1 5 10 0:9:8 - 0 - 1=3 1 4 3 10 1\n") }
    -- 13 before 9
    ∷ record { number = 13; line = 2; answer = filed (tabbed "plan 20 840 100 20 40 1 61 1 10 50 1\nact 7 1 5 10 0:9:8 - 0 - 1=3 1 4 3 10 1\n") }
    ∷ []

-- the answer is that refusal
unfoldable pub refuses_so : Row → Bool
refuses_so r = eqb r.answer.number r.number && eqb r.answer.line r.line && eqb (length r.answer.values) 0

all_rows : every refuses_so rows ≡ true
unfolding opened rows refuses_so filed numbered with_windows tabbed line_p line_a worked
all_rows = refl

all_order_rows : every refuses_so order_rows ≡ true
unfolding opened order_rows refuses_so filed with_windows tabbed line_p line_a worked
all_order_rows = refl

-- numbers 2 to 13, in this order
numbers_are : map (λ r. r.number) rows ≡ 2 ∷ 3 ∷ 4 ∷ 5 ∷ 6 ∷ 7 ∷ 8 ∷ 9 ∷ 10 ∷ 11 ∷ 12 ∷ 13 ∷ []
unfolding rows
numbers_are = refl

empty : (vs : List ℕ) → length vs ≡ 0 → vs ≡ []
empty [] e = refl
empty (x ∷ vs) e = absurd (omega arith)

terms_are_lem : (t : Terms) (n l : ℕ) (vs : List ℕ) → t.number ≡ n → t.line ≡ l → t.values ≡ vs → t ≡ record { number = n; line = l; values = vs }
terms_are_lem t n l vs e f g = rw (← e, ← f, ← g)

-- what such a table says of each row: its answer is the refusal's number and line, and no result
refused_so : (table : List Row) → every refuses_so table ≡ true → (r : Row) → Memᴰ r table → r.answer ≡ refusal r.number r.line
unfolding refuses_so
refused_so table all r m =
    let e = every_mem refuses_so table all m in
    let f = and_left _ _ e in
    terms_are_lem r.answer _ _ _
    (eqb-true _ _ (and_left _ _ f))
    (eqb-true _ _ (and_right (eqb r.answer.number r.number) _ f))
    (empty _ (eqb-true _ 0 (and_right (eqb r.answer.number r.number && eqb r.answer.line r.line) _ e)))

-- each input of the table draws its number, at its line
pub row_refused : (r : Row) → Memᴰ r rows → r.answer ≡ refusal r.number r.line
row_refused = refused_so rows all_rows

pub order_row_refused : (r : Row) → Memᴰ r order_rows → r.answer ≡ refusal r.number r.line
order_row_refused = refused_so order_rows all_order_rows
