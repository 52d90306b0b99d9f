-- A plan as the specification has it, by the struct of the code: its activities stand by place.
use Rattle.rules.specs.Plan.{Plan}
use Rattle.activity.specs.View.{header_view}
use Rattle.plan.specs.Said.{plan_of}
use Rattle.plan.specs.declared.Plan.{Plan as PlanStruct}

unfoldable pub plan_view : PlanStruct → Plan
plan_view p = plan_of (header_view p.header) p.bytes.now p.lines
