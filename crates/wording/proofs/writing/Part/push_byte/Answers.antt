-- What is passed over and what is kept of a byte are as the text's part has them.
use Rattle.std.proofs.Common.{◌≡◌, [], ◌∷◌, arith}
use Rattle.wording.specs.Writing.{written}
use Rattle.wording.proofs.Pieces.{byte_passed, byte_written, none_written}
use Rattle.wording.proofs.writing.Part.push_byte.Goals as goal

pub returns-then-self-gt0 : goal.returns-then-self-gt0
unfolding written
returns-then-self-gt0 c =
    let p = c.args.self.now in
    byte_passed p.out.ghost_name p.skip c.args.b _ _ (omega arith)

pub returns-then-self : goal.returns-then-self
unfolding written
returns-then-self c =
    let p = c.args.self.now in
    let none : p.skip ≡ 0 = omega arith in
    rw none (byte_written p.out.ghost_name p.to c.args.b p.out.now (omega arith))

pub returns-else-self : goal.returns-else-self
unfolding written
returns-else-self c =
    let p = c.args.self.now in
    let none : p.skip ≡ 0 = omega arith in
    rw none (none_written p.out.ghost_name 0 0 p.to p.out.now (c.args.b ∷ []) (omega arith) (omega arith))
