-- Rows written.
use Rattle.std.specs.Prelude.{ℕ, ◌<◌, ◌≡◌, List, length}
use Rattle.placed.specs.Tables.{row_in}
use Rattle.placed.specs.declared.row.Row.{Row}

-- the rows before row n remain
abbrev pub SameBelow : ℕ → List Row → List Row → Type 0
SameBelow n old new = (k : ℕ) → k < n → row_in new k ≡ row_in old k

-- all rows but row n remain
pub record SameBut (n : ℕ) (old new : List Row) : Type 0 where
  pub size : length new ≡ length old
  pub others : (k : ℕ) → (k ≡ n → ⊥) → row_in new k ≡ row_in old k

-- the ticks of a row remain
pub record SameTicks (old new : Row) : Type 0 where
  pub id : new.id ≡ old.id
  pub heat : new.heat ≡ old.heat
  pub start : new.start ≡ old.start
  pub end : new.end ≡ old.end

-- all of a row but its ticks remains
pub record SameAmounts (old new : Row) : Type 0 where
  pub engines : new.engines ≡ old.engines
  pub peak : new.peak ≡ old.peak
  pub draw : new.draw ≡ old.draw
  pub volume : new.volume ≡ old.volume
  pub sets : new.sets ≡ old.sets
  pub needs : new.needs ≡ old.needs
  pub units : new.units ≡ old.units
