-- `field::find` meets its contract.
use Rattle.std.proofs.Common.{rules, ◌≡◌, ◌∙◌, ◌+◌, ◌-◌, ◌≢◌, ap, sym, length, take, drop, arith, length-drop}
use Rattle.std.specs.Option.{unwrap_or}
use lib.Seq.{take_all}
use Rattle.std.proofs.lemmas.Iterator.{YieldsList-from_slice, IsFirst-from_position, index_from_first}
use borrow.Author.Tests.{tests}
use Rattle.text.specs.Text.{index_of}
use Rattle.text.proofs.Splits.{index_hit, index_miss, index_none}
use Rattle.text.proofs.field.find.Goals as goal

pub returns-clause-value : goal.returns-clause-value
returns-clause-value c =
    let b = c.args.b in
    let rest = drop c.args.from c.args.s.now in
    let whole : take (length c.args.s.now - c.args.from) rest ≡ rest = take_all _ rest (simp length-drop (omega arith)) in
    let first = IsFirst-from_position _ _ _ (λ x. x ≡ b) (λ x. x ≢ b) c.position.ensures.ran (YieldsList-from_slice rest (c.iter.ensures.rest ∙ whole)) (λ x q k. search (rules, tests)) (λ x q k. search (rules, tests)) in
    let e = index_from_first (index_of b) (λ x. x ≡ b) (λ x. x ≢ b) (index_none b) (index_hit b) (index_miss b) rest _ first in
    ap (λ n. c.args.from + n) (c.unwrap_or.ensures ∙ ap (λ xs. unwrap_or c.position.result (length xs)) whole ∙ sym e)
