-- `reading::read_first` meets its contract: check by check, the definition goes the same way.
use Rattle.std.proofs.Common.{arith, ◌∙◌, sym}
use Rattle.plan.specs.Reached.{first_from}
use Rattle.plan.proofs.Judging.{first_ends, first_2, first_read, first_formed}
use Rattle.plan.proofs.reading.read_first.Goals as goal
use Rattle.plan.proofs.reading.read_first.Goals.{then-end-s-via-then-end-s, then-end-s-via-else-end-s+then-not-formed}

pub returns-then-end-s-clause-value : goal.returns-then-end-s-clause-value
unfolding first_from
returns-then-end-s-clause-value c =
    let s = c.args.s.now in
    elim c.then-end-s.branch [
      | then-end-s-via-then-end-s w ↦ first_ends s c.requires.2 c.args.end c.requires.0 (omega arith)
      | then-end-s-via-else-end-s+then-not-formed w ↦ first_2 s c.requires.2 c.args.end c.requires.0 (omega arith) (sym w.formed.ensures ∙ w.if-not-formed.true)
    ]

pub returns-clause-value : goal.returns-clause-value
returns-clause-value c = first_read c.args.s.now c.requires.2 c.args.end c.requires.0 (omega arith) (sym c.formed.ensures ∙ c.if-not-formed.false) c.read_header.result c.read_header.ensures

pub returns-clause-formed : goal.returns-clause-formed
returns-clause-formed c = first_formed _ (sym c.formed.ensures ∙ c.if-not-formed.false) c.read_header.result c.read_header.ensures
