-- `placed_needs_met` meets its contract: no need that was passed is spoilt.
use Rattle.std.proofs.Common.{sym, ◌∙◌, arith}
use borrow.Author.Count.{below_more}
use Rattle.state.specs.Judging.{end_in, spoil_in}
use Rattle.state.specs.Spoils.{spoilt_by, placed_met}
use Rattle.state.proofs.Loops.{none_holds, one_holds}
use Rattle.state.proofs.Entries.{spoilt_past, spoilt_before, spoilt_in}
use Rattle.state.proofs.spoils.placed_needs_met.Goals as goal

pub activities-preserved-then-entry-effect : goal.activities-preserved-then-entry-effect
activities-preserved-then-entry-effect c =
    record {
      met = c.activities.invariant.met;
      passed = below_more _ _ c.activities.invariant.passed (λ j k. spoilt_past _ _ _ c.if-entry-effect.true);
    }

pub needs-preserved : goal.needs-preserved
needs-preserved c =
    record {
      met = c.needs.invariant.met;
      passed = below_more _ _ c.needs.invariant.passed (spoilt_before _ _ _ c.if-from-effect.false);
    }

pub returns-after-activities : goal.returns-after-activities
unfolding placed_met
returns-after-activities c =
    c.activities.invariant.met ∙ sym (none_holds _ (λ _. 4) _ (λ p l. c.activities.invariant.passed p (omega arith)))

pub returns-then-from-effect : goal.returns-then-from-effect
unfolding placed_met
returns-then-from-effect c =
    let entries = c.args.entries.now in
    sym (one_holds (λ p j. spoilt_by (spoil_in entries p j) (end_in entries p) c.args.effect) (λ _. 4) _ c.activities.entry-index c.needs.from-index (omega arith) (omega arith) (spoilt_in _ _ _ c.if-from-effect.true c.if-entry-effect.false))
