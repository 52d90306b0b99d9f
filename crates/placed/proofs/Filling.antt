-- A row written says its entry, and the rows before it remain.
-- Assumes nothing.
use Prim.Native.Nat.{ℕ, ◌+◌}
use mathlib.Core.Path.{◌≡◌, sym, subst}
use mathlib.Core.List.{List, ◌∷◌}
use Rattle.rules.specs.Plan.{Header, Entry, Schedule}
use Rattle.placed.specs.declared.row.Row.{Row}
use Rattle.placed.specs.Tables.{row_in}
use Rattle.placed.specs.Written.{SameBelow}
use Rattle.placed.specs.Held.{TicksSay, TicksAt, ActivitySays, CandidateAt, EntryAt, Held}
use Rattle.placed.proofs.Rows.{rows_map, rows_more}

-- a row that remains says the same
entry_same : (h : Header) (i : ℕ) (old new : List Row) (e : Entry) → row_in new i ≡ row_in old i → EntryAt h old i e → EntryAt h new i e
entry_same h i old new e s r =
    record {
      ticks_say = subst (λ (row : Row). TicksSay h row e) (sym s) r.ticks_say;
      row = subst (λ (row : Row). ActivitySays row e.activity) (sym s) r.row;
    }

-- a candidate's row behind those placed
pub held_beside : (h : Header) (old new : List Row) (n : ℕ) (placed : Schedule) → SameBelow n old new → Held h old n placed → Held h new n placed
held_beside h old new n placed s r = rows_map _ _ n placed (λ i e k m x. entry_same h i old new e (s i k) x) r

-- the candidate placed: its ticks are written, too
pub held_more : (h : Header) (old new : List Row) (n : ℕ) (e : Entry) (placed : Schedule) → SameBelow n old new → TicksAt h new n e → CandidateAt new n e.activity → Held h old n placed → Held h new (n + 1) (e ∷ placed)
held_more h old new n e placed s t c r =
    rows_more _ n e placed (record { ticks_say = t; row = c }) (held_beside h old new n placed s r)
