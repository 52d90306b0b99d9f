-- The loops of `own_needs_met`: no need that was passed is unmet at a tick that was passed.
use Rattle.std.proofs.Common.{◌≡◌, ℕ, ◌<◌, true, false}
use Rattle.state.specs.Own.{unmet_at, judged}
use Rattle.state.proofs.own.own_needs_met.Given as goal

abbrev pub invariant-ticks : goal.invariant-ticks
invariant-ticks l =
    record {
      met : l.met ≡ true;
      passed : (k : ℕ) → k < l.entry-index → unmet_at l.placed.rows l.placed.count l.j l.start l.end k ≡ false;
    }

abbrev pub invariant-needs : goal.invariant-needs
invariant-needs l =
    record {
      met : l.met ≡ true;
      passed : (i : ℕ) → i < l.j → (k : ℕ) → k < judged l.placed.rows l.placed.count i → unmet_at l.placed.rows l.placed.count i l.start l.end k ≡ false;
    }
