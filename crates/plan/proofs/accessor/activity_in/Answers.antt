-- `accessor::activity_in` meets its contract: a line that says an activity is read.
use Rattle.std.proofs.Common.{◌≡◌, sym, ◌∙◌}
use Rattle.rules.specs.Fields.{value}
use Rattle.rules.specs.Refusals.{read_as}
use Rattle.activity.specs.View.{header_view, activity_view}
use Rattle.plan.specs.LineAt.{activity_in}
use Rattle.plan.proofs.LineAt.{read_ok, read_value, value_is}
use Rattle.plan.proofs.accessor.activity_in.Goals as goal
use Rattle.plan.proofs.accessor.activity_in.Goals.{After-read_activity}

read : (c : After-read_activity) → read_as activity_view c.read_activity.result ≡ value (activity_in (header_view c.args.file.now.header) c.args.file.now.bytes.now c.args.at)
read c = c.read_activity.ensures ∙ rw (c.line_at.ensures, c.from.ensures) c.requires.says

pub unwrap-requires : goal.unwrap-requires
unwrap-requires c = read_ok activity_view _ _ (read (goal.at.unwrap-requires c).After-read_activity)

pub returns : goal.returns
returns c = value_is (sym (read_value activity_view c.unwrap.result (rw c.unwrap.ensures at (read (goal.at.returns c).After-read_activity))))
