-- What is passed over and what is kept of a word are as the text's part has them.
use Rattle.std.proofs.Common.{◌-◌, refl, arith, length, take, drop}
use Rattle.std.proofs.lemmas.Grind.{common_steps}
use Rattle.wording.specs.Writing.{written}
use Rattle.wording.proofs.Pieces.{piece_written, none_written}
use Rattle.wording.proofs.writing.Part.push.Goals as goal

pub returns-then-self : goal.returns-then-self
unfolding written
returns-then-self c =
    let p = c.args.self.now in
    let w = c.args.word.now in
    let rest = take (length w - c.min-passed.result) (drop c.min-passed.result w) in
    let piece = take c.min-kept.result rest in
    piece_written p.out.ghost_name p.skip c.min-passed.result c.min-kept.result p.to p.out.now _ w rest piece c.min-passed.ensures (grind (arith, common_steps)) (omega arith) (grind (arith, common_steps)) refl (grind (arith, common_steps))

pub returns-else-self : goal.returns-else-self
unfolding written
returns-else-self c =
    let p = c.args.self.now in
    none_written p.out.ghost_name p.skip c.min-passed.result p.to p.out.now c.args.word.now c.min-passed.ensures (omega arith)
