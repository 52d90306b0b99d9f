-- The loop of `list::read_list`: the parts that are left, after what was counted in, give the whole.
use Rattle.std.proofs.Common.{◌≡◌, ◌≤◌, length}
use Rattle.rules.specs.Fields.{list_field}
use Rattle.text.specs.Text.{kind_of}
use Rattle.text.specs.Cursor.{items_from}
use Rattle.text.proofs.list.read_list.Given as goal

abbrev pub invariant-loop-part : goal.invariant-loop-part
invariant-loop-part g l =
    let k = kind_of l.fn.form in
    (length l.tally.items ≤ l.fn.form.most) × (list_field k l.fn.s ≡ items_from k l.tally.fault l.tally.least l.tally.items l.part-iterator)
