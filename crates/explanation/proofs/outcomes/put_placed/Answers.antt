-- Piece by piece, with the activity's own duration.
use Rattle.std.proofs.Common.{[], ◌∷◌, ◌+◌}
use Rattle.rules.specs.Bytes.{bytes}
use Rattle.rules.specs.Number.{decimal}
use Rattle.rules.specs.Conditions.{all_conditions}
use Rattle.explanation.specs.Places.{runs_line, outcome_text}
use Rattle.explanation.specs.Tabled.{runs_in}
use Rattle.wording.specs.Writing.{written}
use Rattle.wording.proofs.Pieces.{pieces}
use Rattle.explanation.proofs.outcomes.put_placed.Goals as goal

pub returns : goal.returns
unfolding outcome_text
returns c =
    λ a e. rw (e, c.put_runs_line.ensures, c.push-3.ensures, c.push_number-2.ensures, c.push-2.ensures, c.push_number.ensures, c.push.ensures, c.from.ensures, c.from-2.ensures, c.from-3.ensures) (
    pieces (written c.args.out.now) (bytes "placed from " ∷ decimal c.args.start ∷ bytes " to " ∷ decimal (c.args.start + c.args.duration) ∷ bytes "\n" ∷ runs_line (bytes "  valid starts:") (runs_in c.args.table.now.sets.now all_conditions) ∷ [])
    )
