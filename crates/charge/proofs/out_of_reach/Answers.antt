-- `out_of_reach` meets its contract: nothing is drawn.
use Rattle.std.proofs.Common.{rules, refl, ap, ◌≡◌, ◌∙◌, pos, to_z, of_z, w64, arith}
use Rattle.std.specs.Int.Signed.{lt_z}
use Rattle.std.proofs.lemmas.Int.{ints}
use mir.Val.{SFits}
use mir.Facts.{to_z-of_z}
use Rattle.rules.proofs.Lists.{zeros}
use Rattle.rules.specs.declared.Projection.{Projection}
use Rattle.charge.proofs.Drawn.{drawing}
use Rattle.charge.proofs.Charged.{reach_by}
use Rattle.charge.proofs.out_of_reach.Goals as goal

pub invariant_of-drawn : goal.invariant_of-drawn
invariant_of-drawn c = record { drawing = drawing c.args.header _ refl c.requires }

pub returns : goal.returns
returns c =
    let h = c.args.header in
    let handover : to_z w64 (of_z w64 c.from.result) ≡ pos h.handover = rw c.from.ensures (omega (arith, ints)) in
    let f : SFits w64 c.project.result.last = search rules in
    rw (handover, to_z-of_z f) (ap (λ (p : Projection). lt_z p.last (pos h.handover)) c.project.ensures.value ∙ reach_by h _ (zeros 4096))
