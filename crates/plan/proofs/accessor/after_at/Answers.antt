-- `accessor::after_at` meets its contract: a line that says an activity says its `after` alone.
use Rattle.std.proofs.Common.{arith, ◌≡◌, ◌∙◌, sym, ap}
use Rattle.rules.specs.Fields.{list_field}
use Rattle.rules.specs.Lines.{split_on, field}
use Rattle.rules.specs.Refusals.{read_as}
use Rattle.text.specs.Text.{kind_of}
use Rattle.activity.specs.View.{number_of}
use Rattle.line.specs.Forms.{number_form}
use Rattle.line.proofs.Lists.{mapped, numbers_are}
use Rattle.plan.specs.LineAt.{line_at, activity_in}
use Rattle.plan.proofs.LineAt.{line_fields, ids_read, few_read}
use Rattle.plan.proofs.accessor.after_at.Goals as goal

pub returns-clause-within : goal.returns-clause-within
returns-clause-within c =
    rw c.unwrap_or.ensures (few_read 8 c.read_list.result c.new.result (rw c.numbers.ensures at c.read_list.ensures.within) (rw c.new.ensures (omega arith)))

pub returns-clause-value : goal.returns-clause-value
returns-clause-value c = λ h says.
    let s = c.args.s.now in
    let at = c.args.at in
    let w = field (split_on 9 (line_at s at)) 6 in
    let e : c.field_at-field.result.now ≡ w = c.field_at-field.ensures ∙ ap (λ l. field (split_on 9 l) 6) (c.line_at.ensures ∙ ap (line_at s) c.from.ensures) in
    let r : read_as (λ xs. xs) c.read_list.result ≡ list_field (kind_of (number_form 65535 8)) w =
    c.read_list.ensures.value ∙ ap (λ f. list_field (kind_of f) c.field_at-field.result.now) c.numbers.ensures ∙ ap (list_field (kind_of (number_form 65535 8))) e in
    rw c.unwrap_or.ensures
    (ids_read c.read_list.result c.new.result (activity_in h s at).after
    (ap (mapped number_of) r ∙ sym (numbers_are 65535 8 w) ∙ (line_fields h (split_on 9 (line_at s at)) _ says.says).after))
