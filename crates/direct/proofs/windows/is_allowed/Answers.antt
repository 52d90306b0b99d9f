-- `is_allowed` meets its contract.
use Rattle.std.proofs.Common.{◌∙◌, sym}
use borrow.Author.Tests.{eq-eqb, eqb-true}
use Rattle.rules.proofs.Tests.{both_ways}
use Rattle.direct.proofs.Allowed.{allowed_none, allowed_some}
use Rattle.direct.proofs.windows.is_allowed.Goals as goal

pub returns-then-is_empty : goal.returns-then-is_empty
returns-then-is_empty c = c.if-is_empty.true ∙ sym (allowed_none _ _ (eqb-true _ _ (sym c.is_empty.ensures ∙ c.if-is_empty.true)))

pub returns-else-is_empty : goal.returns-else-is_empty
returns-else-is_empty c =
    c.in_window.ensures ∙ allowed_some _ _ (λ e. both_ways (eq-eqb _ _ e) (sym c.is_empty.ensures ∙ c.if-is_empty.false))
