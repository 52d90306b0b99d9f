-- The loops of `placed_needs_met`: no need that was passed is spoilt.
use Rattle.std.proofs.Common.{◌≡◌, ℕ, ◌<◌, true, false}
use Rattle.state.specs.Judging.{end_in, spoil_in}
use Rattle.state.specs.Spoils.{spoilt_by}
use Rattle.state.proofs.spoils.placed_needs_met.Given as goal

abbrev pub invariant-needs : goal.invariant-needs
invariant-needs l =
    record {
      met : l.met ≡ true;
      passed : (j : ℕ) → j < l.from-index → spoilt_by (spoil_in l.entries l.entry-index j) (end_in l.entries l.entry-index) l.effect ≡ false;
    }

abbrev pub invariant-activities : goal.invariant-activities
invariant-activities l =
    record {
      met : l.met ≡ true;
      passed : (p : ℕ) → p < l.entry-index → (j : ℕ) → j < 4 → spoilt_by (spoil_in l.entries p j) (end_in l.entries p) l.effect ≡ false;
    }
