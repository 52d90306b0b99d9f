-- All letters are gone through.
use Rattle.std.proofs.Common.{◌≡◌, arith, rules}
use Rattle.rules.specs.Conditions.{condition_count, condition_letters, letters_from, letters_of}
use Rattle.report.proofs.letters.letters.Goals as goal

pub loop-c-init : goal.loop-c-init
unfolding letters_from
loop-c-init c = rw c.new-out.ensures (omega arith, search rules)

pub returns-clause-text : goal.returns-clause-text
unfolding letters_of condition_letters
returns-clause-text c =
    let e : c.loop-c.c ≡ condition_count = omega arith in
    rw e at c.loop-c.invariant.1
