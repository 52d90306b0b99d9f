-- `code_of` meets its contract: the settings before this one don't give the variable.
use Rattle.std.proofs.Common.{◌∙◌, sym, ap, arith, add-one}
use Rattle.placed.specs.Held.{code_of}
use Rattle.placed.proofs.Given.{item_most, given_here, given_later, given_beyond}
use Rattle.placed.proofs.row.code_of.Goals as goal

pub overflow_cast-result : goal.overflow_cast-result
overflow_cast-result c = omega (arith, item_most _ _ c.requires c.loop-setting-test.true)

pub overflow_add-result : goal.overflow_add-result
overflow_add-result c = omega (arith, item_most _ _ c.requires c.loop-setting-test.true)

pub returns-then-setting-variable : goal.returns-then-setting-variable
returns-then-setting-variable c =
    add-one _ ∙ sym (ap code_of (c.loop-setting.invariant ∙ given_here _ _ _ c.loop-setting-test.true c.if-setting-variable.true))

pub loop-setting-preserved : goal.loop-setting-preserved
loop-setting-preserved c = rw add-one (c.loop-setting.invariant ∙ given_later _ _ _ c.loop-setting-test.true c.if-setting-variable.false)

pub returns : goal.returns
returns c = sym (ap code_of (c.loop-setting.invariant ∙ given_beyond _ _ _ c.loop-setting-test.false))
