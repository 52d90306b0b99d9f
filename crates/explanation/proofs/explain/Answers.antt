-- The whole text is written from its beginning, and leaves its part at the front of the lent slice.
use Rattle.std.proofs.Common.{rules, ◌∙◌, sym, ap, arith, length, drop, List, ℕ}
use Rattle.std.proofs.lemmas.List.{length-take}
use Rattle.wording.specs.Writing.{Written, part, written, with_more}
use Rattle.wording.proofs.Pieces.{part_stands}
use Rattle.explanation.specs.Explained.{explained}
use Rattle.explanation.proofs.explain.Goals as goal

pub returns-clause-explain_called : goal.returns-clause-explain_called
unfolding part written with_more
returns-clause-explain_called c =
    let text = explained c.args.bytes.now in
    let e = c.put_explained.ensures ∙ ap (λ (p : Written). with_more p text) c.new-part.ensures in
    let name = sym (ap (λ (p : Written). p.lent) e) in
    let stands = part_stands c.put_explained.new.out _ _ _ text e in
    let kept = c.as_slice.ensures.value ∙ ap (λ (p : Written). p.bytes) e in
    record {
      count = omega (arith, ap (λ (xs : List ℕ). length xs) kept);
      slice = search rules;
    }

pub returns-clause-upper_bound : goal.returns-clause-upper_bound
unfolding written with_more
returns-clause-upper_bound c =
    let text = explained c.args.bytes.now in
    let e = c.put_explained.ensures ∙ ap (λ (p : Written). with_more p text) c.new-part.ensures in
    let kept = c.as_slice.ensures.value ∙ ap (λ (p : Written). p.bytes) e in
    omega (arith, ap (λ (xs : List ℕ). length xs) kept, length-take (length c.args.out.now) (drop c.args.from text))
