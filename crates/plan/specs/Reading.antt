-- What the reader answers, as a reading: the plan with its activities by place, or the refusal.
use Rattle.std.specs.Prelude.{Result, Ok, Err}
use Rattle.rules.specs.Reading.{Reading, accepted, refused}
use Rattle.rules.specs.Refusals.{refusal_view}
use Rattle.rules.specs.declared.Refusal.{Refusal}
use Rattle.plan.specs.View.{plan_view}
use Rattle.plan.specs.declared.Plan.{Plan}

unfoldable pub reading_view : Result Plan Refusal → Reading
reading_view (Ok p) = accepted (plan_view p)
reading_view (Err r) = refused (refusal_view r)
