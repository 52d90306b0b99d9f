-- `list::read_numbers` meets its contract: each way out is one law.
use Rattle.std.proofs.Common.{◌≡◌, ◌∙◌, ◌-◌, sym, arith, length-set, take_all}
use Rattle.std.proofs.lemmas.List.{length-replicate}
use Rattle.text.proofs.Numbers.{from_first, from_none, from_more, from_all, from_other, from_number}
use Rattle.text.proofs.list.read_numbers.Goals as goal

pub loop-number-init : goal.loop-number-init
loop-number-init g c =
    let all : g.row.K - 0 ≡ g.row.K = omega arith in
    (length-replicate g.row.K 0, rw (all, c.of-parts.ensures) (from_first g.row.K c.args.mark c.args.s.now))

pub returns-in_err-next : goal.returns-in_err-next
returns-in_err-next g c = c.from_residual.ensures ∙ sym (c.loop-number.invariant.1 ∙ rw c.in_err-next.ensures.steps.0 (from_none _ _ (omega arith)))

pub returns-in_err-number : goal.returns-in_err-number
returns-in_err-number g c = c.from_residual-in_err-number.ensures ∙ sym (c.loop-number.invariant.1 ∙ rw c.in_ok-next.ensures.steps (from_other _ _ _ _ (sym c.in_err-number.ensures)))

pub loop-number-preserved : goal.loop-number-preserved
loop-number-preserved g c =
    (rw length-set c.loop-number.invariant.0, c.loop-number.invariant.1 ∙ rw c.in_ok-next.ensures.steps (from_number g.row.K c.loop-number.number-index c.in_ok-number.field-0 c.loop-number.number-items _ _ (omega arith) (omega arith) (sym c.in_ok-number.ensures)))

pub returns-in-Some : goal.returns-in-Some
returns-in-Some g c = sym (c.loop-number.invariant.1 ∙ rw c.in-Some.ensures.steps (from_more _ _ _ _ (omega arith)))

pub returns-in-None : goal.returns-in-None
returns-in-None g c =
    let whole = take_all c.loop-number.number-index c.loop-number.number-items (omega arith) in
    sym (c.loop-number.invariant.1 ∙ rw (c.in-None.ensures.steps.0, whole) (from_all _ _ (omega arith)))
