-- An answer as one number of 64 bits:
--     bits 0 to 31      the value: the start of a placed activity, the set of conditions of a refused one, a count; of a refusal, its line
--     bits 32 to 39     the refusal's number, 0 where there is none
--     bit 40            1 where an activity is placed
--     bits 41 to 63     0
-- Bits 32 and 40 begin at 2^32 = 4294967296 and 2^40 = 1099511627776.
use Rattle.std.specs.Prelude.{ℕ, ◌+◌, ◌*◌, ◌/◌, ◌%◌, cond, List, [], ◌∷◌, eqb}
use Rattle.rules.specs.Calls.{Terms, refusal, full}

-- a count; or 1 and a start, or 0 and a set of conditions
unfoldable pub packed_values : List ℕ → ℕ
packed_values [] = 0
packed_values (n ∷ []) = n
packed_values (placed ∷ v ∷ _) = placed * 1099511627776 + v

-- a refusal has no values, and an answer has the number and the line 0
unfoldable pub packed : Terms → ℕ
packed t = t.number * 4294967296 + t.line + packed_values t.values

-- ---- unpacking, as include/planner.h does it
-- (uint32_t)answer
unfoldable pub value_in : ℕ → ℕ
value_in x = x % 4294967296

-- planner_refusal
unfoldable pub refusal_in : ℕ → ℕ
refusal_in x = x / 4294967296 % 256

-- planner_line
unfoldable pub line_in : ℕ → ℕ
line_in x = cond (eqb (refusal_in x) 0) 0 (value_in x)

-- planner_is_placed
unfoldable pub placed_in : ℕ → ℕ
placed_in x = x / 1099511627776 % 2

-- planner_start
unfoldable pub start_in : ℕ → ℕ
start_in x = cond (eqb (placed_in x) 1) (value_in x) 0

-- planner_conditions
unfoldable pub conditions_in : ℕ → ℕ
conditions_in x = cond (eqb (refusal_in x) 0) (cond (eqb (placed_in x) 0) (value_in x) 0) 0

-- planner_written: bytes of a report, or runs
unfoldable pub written_in : ℕ → ℕ
written_in x = cond (eqb (refusal_in x) 0) (value_in x) 0

-- the answer of the outcome call
unfoldable pub outcome_in : ℕ → Terms
outcome_in x = cond (eqb (refusal_in x) 0) (full (cond (eqb (placed_in x) 1) (1 ∷ start_in x ∷ []) (0 ∷ conditions_in x ∷ []))) (refusal (refusal_in x) (line_in x))

-- the answer of the report and starts calls
unfoldable pub count_in : ℕ → Terms
count_in x = cond (eqb (refusal_in x) 0) (full (written_in x ∷ [])) (refusal (refusal_in x) (line_in x))
