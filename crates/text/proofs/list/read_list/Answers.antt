-- `list::read_list` meets its contract: the parts that are left, after what was counted in, give the whole.
use Rattle.std.proofs.Common.{◌≡◌, ◌∙◌, sym, refl, rules}
use Rattle.rules.specs.Bytes.{bytes}
use Rattle.rules.specs.Fields.{list_field}
use Rattle.rules.specs.Lines.{split_on}
use Rattle.rules.specs.Refusals.{read_as}
use Rattle.text.specs.Text.{kind_of}
use Rattle.text.proofs.Same.{same_is}
use Rattle.text.proofs.Items.{from_start, from_bad}
use Rattle.text.proofs.Numbers.{item_bad, item_good}
use Rattle.text.proofs.list.read_list.Goals as goal

pub returns-then-eq-clause-value : goal.returns-then-eq-clause-value
unfolding list_field read_as
returns-then-eq-clause-value g c = rw (c.new.ensures, same_is c.args.s.now (bytes "-"), ← c.as_slice.ensures, ← c.if-eq.ensures) refl

pub loop-part-init : goal.loop-part-init
unfolding list_field
loop-part-init g c =
    let parts : c.into_iter-part-iterator.result ≡ split_on 44 c.args.s.now = search rules in
    rw c.new-2.ensures (search rules, rw (parts, same_is c.args.s.now (bytes "-"), ← c.as_slice.ensures, ← c.if-eq.ensures) (from_start (kind_of c.args.form) _))

pub returns-in_default-clause-value : goal.returns-in_default-clause-value
unfolding read_as
returns-in_default-clause-value g c =
    sym (c.loop-part.invariant.1 ∙ rw c.in-Some.ensures.steps (from_bad (kind_of c.args.form) _ _ _ _ _ (item_bad _ _ (sym c.in_default.ensures))))

pub loop-part-preserved : goal.loop-part-preserved
loop-part-preserved g c =
    let one = item_good _ _ _ _ _ (sym c.in-Some-read_item.ensures) in
    (c.count_in.ensures.few, rw (← c.count_in.ensures.value _ _ one.0 one.1, ← c.in-Some.ensures.steps) c.loop-part.invariant.1)
