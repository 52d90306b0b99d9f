-- Where an id stands among those of lines.
-- Assumes nothing.
use Rattle.std.proofs.Common.{◌≡◌, ◌+◌, ℕ, List, [], ◌∷◌, map, eqb, not, cond, refl, ap}
use Rattle.std.specs.List.{position, position_or_len}
use Rattle.std.proofs.lemmas.List.{length-map}
use Rattle.order.specs.declared.Line.{Line}

passed : (id : ℕ) (lines : List Line) → position_or_len (λ other. eqb other id) (map (λ line. line.id) lines) ≡ position_or_len (λ (line : Line). eqb line.id id) lines
passed id [] = refl
passed id (x ∷ xs) = ap (λ n. cond (not (eqb x.id id)) (1 + n) 0) (passed id xs)

pub position_of_id : (id : ℕ) (lines : List Line) → position (λ other. eqb other id) (map (λ line. line.id) lines) ≡ position (λ (line : Line). eqb line.id id) lines
position_of_id id lines = rw (passed id lines, length-map) refl
