-- A plan with its activities in the scheduling order, as the code holds it.
use Rattle.rules.specs.Plan.{Plan}
use Rattle.rules.specs.Order.{order}

abbrev pub ordered : Plan → Plan
ordered p = record { header = p.header; activities = order p.activities }
