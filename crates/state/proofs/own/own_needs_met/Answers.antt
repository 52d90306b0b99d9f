-- `own_needs_met` meets its contract: no need that was passed is unmet at a tick that was passed.
use Rattle.std.proofs.Common.{◌≡◌, sym, ◌∙◌, false, arith}
use borrow.Author.Count.{below_more}
use Rattle.rules.proofs.Tests.{last_or}
use Rattle.state.specs.Own.{unmet_at, judged, own_met}
use Rattle.state.proofs.Loops.{none_holds, one_holds}
use Rattle.state.proofs.Needs.{judged_absent, judged_present, unmet_end, unmet_start}
use Rattle.state.proofs.own.own_needs_met.Goals as goal

pub needs-preserved-then-need-eq0 : goal.needs-preserved-then-need-eq0
needs-preserved-then-need-eq0 c =
    let none = judged_absent c.args.placed.now.rows c.args.placed.now.count c.needs.j _ c.need-item.result c.candidate.ensures (omega arith) c.if-need-eq0.true in
    record {
      met = c.needs.invariant.met;
      passed = below_more _ _ c.needs.invariant.passed (λ k l. absurd (omega (arith, none, l)));
    }

pub ticks-preserved : goal.ticks-preserved
ticks-preserved c =
    let right = c.requires.1 in
    let unmet = unmet_end c.args.placed.now.rows c.args.placed.now.count c.needs.j _ c.need-item.result c.candidate.ensures (omega arith) c.ticks.entry-index c.args.start c.args.end _ right c.if-need-eq0.false (omega arith) (omega (arith, right.size)) in
    record {
      met = c.ticks.invariant.met;
      passed = below_more _ _ c.ticks.invariant.passed (sym unmet ∙ sym c.is_unmet.ensures ∙ c.if-is_unmet.false);
    }

pub needs-preserved : goal.needs-preserved
needs-preserved c =
    let right = c.requires.1 in
    let n = c.args.placed.now.count in
    let there = judged_present c.args.placed.now.rows c.args.placed.now.count c.needs.j _ c.need-item.result c.candidate.ensures (omega arith) c.if-need-eq0.false in
    let unmet = unmet_start c.args.placed.now.rows n c.needs.j _ c.need-item.result c.candidate.ensures (omega arith) c.args.start c.args.end in
    record {
      met = c.ticks.invariant.met;
      passed =
          below_more _ _ c.needs.invariant.passed
          (λ k l. last_or (λ i. unmet_at c.args.placed.now.rows n c.needs.j c.args.start c.args.end i ≡ false) n k (omega (arith, there, l))
          (sym unmet ∙ sym c.unmet_at_start.ensures ∙ c.if-unmet_at_start.false)
          (λ m. c.ticks.invariant.passed k (omega (arith, right.size))));
    }

pub returns-after-needs : goal.returns-after-needs
unfolding own_met
returns-after-needs c =
    c.needs.invariant.met ∙ sym (none_holds _ _ _ (λ j l. c.needs.invariant.passed j (omega arith)))

pub returns-then-is_unmet : goal.returns-then-is_unmet
unfolding own_met
returns-then-is_unmet c =
    let right = c.requires.1 in
    let rows = c.args.placed.now.rows in
    let n = c.args.placed.now.count in
    let there = judged_present c.args.placed.now.rows c.args.placed.now.count c.needs.j _ c.need-item.result c.candidate.ensures (omega arith) c.if-need-eq0.false in
    let unmet = unmet_end rows n c.needs.j _ c.need-item.result c.candidate.ensures (omega arith) c.ticks.entry-index c.args.start c.args.end _ right c.if-need-eq0.false (omega arith) (omega (arith, right.size)) in
    sym (one_holds (λ j k. unmet_at rows n j c.args.start c.args.end k) (judged rows n) 4 c.needs.j c.ticks.entry-index (omega arith) (omega (arith, there, right.size)) (sym unmet ∙ sym c.is_unmet.ensures ∙ c.if-is_unmet.true))

pub returns-then-unmet_at_start : goal.returns-then-unmet_at_start
unfolding own_met
returns-then-unmet_at_start c =
    let rows = c.args.placed.now.rows in
    let n = c.args.placed.now.count in
    let there = judged_present c.args.placed.now.rows c.args.placed.now.count c.needs.j _ c.need-item.result c.candidate.ensures (omega arith) c.if-need-eq0.false in
    let unmet = unmet_start rows n c.needs.j _ c.need-item.result c.candidate.ensures (omega arith) c.args.start c.args.end in
    sym (one_holds (λ j k. unmet_at rows n j c.args.start c.args.end k) (judged rows n) 4 c.needs.j n (omega arith) (omega (arith, there)) (sym unmet ∙ sym c.unmet_at_start.ensures ∙ c.if-unmet_at_start.true))
