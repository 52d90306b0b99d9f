-- `mark_where` meets its contract: the invariant is the mark up to the start passed, by any test that says the same.
use Rattle.std.proofs.Common.{ℕ, ◌<◌, ◌≡◌, ◌∙◌, sym, ap, arith, length, length-set, length-take-le, List, true, false, ◌+◌, get_or, set}
use Rattle.std.proofs.Math.Seq.{get_or-set_other}
use Rattle.sets.proofs.Marking.{marked_more, marked_front}
use Rattle.sets.proofs.table.mark_where.Goals as goal
use Rattle.sets.proofs.table.mark_where.Goals.{then-test, else-test}

pub loop-s-preserved : goal.loop-s-preserved
loop-s-preserved g c =
    let before = c.loop-s.invariant in
    let inside : c.loop-s.s < c.args.count = omega (arith, c.loop-s-test.true, length-take-le c.args.count c.args.table.now c.requires.markable.long) in
    elim c.if-test.branch [
      | then-test w ↦
          record {
            size = ap (λ (xs : List ℕ). length xs) w.entry-items-is ∙ length-set _ c.loop-s.s _ ∙ before.size;
            rest = λ k h. rw w.entry-items-is (get_or-set_other c.loop-s.entry-items c.loop-s.s k _ 0 (omega arith) ∙ before.rest k (omega arith));
            marked = λ p f. marked_more p _ _ _ _ _ true (omega arith) (before.marked p f) w.entry-items-is (sym w.if-test.true ∙ f _ _ inside c.test.ensures);
          }
      | else-test w ↦
          let same : get_or c.loop-s.entry-items c.loop-s.s 0 ≡ get_or c.loop-s.entry-items c.loop-s.s 0 + 0 = omega arith in
          record {
            size = ap (λ (xs : List ℕ). length xs) w.entry-items-is ∙ length-set _ c.loop-s.s _ ∙ before.size;
            rest = λ k h. rw w.entry-items-is (get_or-set_other c.loop-s.entry-items c.loop-s.s k _ 0 (omega arith) ∙ before.rest k (omega arith));
            marked = λ p f. marked_more p _ _ _ _ _ false (omega arith) (before.marked p f) (w.entry-items-is ∙ ap (set c.loop-s.entry-items c.loop-s.s) same) (sym w.if-test.false ∙ f _ _ inside c.test.ensures);
          }
    ]

pub returns : goal.returns
returns g c =
    let end : c.loop-s.s ≡ c.args.count = omega (arith, c.loop-s-test.false, c.loop-s.auto.s-end, length-take-le c.args.count c.args.table.now c.requires.markable.long) in
    λ p f. marked_front p _ _ _ _ c.requires.markable.long (rw end at (c.loop-s.invariant.marked p f))
