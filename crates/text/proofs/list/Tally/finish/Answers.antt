-- `list::Tally::finish` meets its contract.
use Rattle.std.proofs.Common.{◌≡◌, ◌∙◌, sym, refl, true, false}
use Rattle.rules.specs.Refusals.{read_as}
use Rattle.rules.specs.Tests.{every}
use Rattle.text.specs.Text.{kind_of}
use Rattle.text.specs.Cursor.{found}
use Rattle.text.proofs.Items.{from_end, spanning, not_spanning}
use Rattle.text.proofs.list.Tally.finish.Goals as goal
use Rattle.text.proofs.list.Tally.finish.Goals.{else-form-via-then-form+else-not-are_inside, else-form-via-else-form}

pub returns-in-Some-clause-value : goal.returns-in-Some-clause-value
unfolding read_as found
returns-in-Some-clause-value g c = rw (from_end (kind_of c.args.form) _ _ _ c.requires, c.in-Some.is) refl

pub returns-then-not-are_inside-clause-value : goal.returns-then-not-are_inside-clause-value
unfolding read_as found
returns-then-not-are_inside-clause-value g c =
    let f = c.args.form in
    let out : every (kind_of f).in_window c.args.self.items ≡ false = spanning f c.args.self.items c.if-form.true ∙ rw (← c.as_slice.ensures.value) (sym c.are_inside.ensures) ∙ c.if-not-are_inside.true in
    rw (from_end (kind_of f) _ _ _ c.requires, c.in_default.is, out) refl

pub returns-clause-value : goal.returns-clause-value
unfolding read_as found
returns-clause-value g c =
    let f = c.args.form in
    let all : every (kind_of f).in_window c.args.self.items ≡ true =
    elim c.else-form.branch [
      | else-form-via-then-form+else-not-are_inside w ↦ spanning f c.args.self.items w.if-form.true ∙ rw (← w.as_slice.ensures.value) (sym w.are_inside.ensures) ∙ w.if-not-are_inside.false
      | else-form-via-else-form w ↦ not_spanning f c.args.self.items w.if-form.false
    ]
    in
    rw (from_end (kind_of f) _ _ _ c.requires, c.in_default.is, all) refl
