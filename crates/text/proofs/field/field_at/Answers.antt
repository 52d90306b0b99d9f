-- `field::field_at` meets its contract.
use Rattle.std.proofs.Common.{rules, ◌≡◌, ◌∙◌, refl, ap, [], List, ℕ, Option, Some, None, Bor}
use Rattle.std.specs.Option.{option_map, unwrap_or}
use Rattle.std.proofs.lemmas.Option.{unwrap_or-slice_get}
use Rattle.std.proofs.lemmas.Iterator.Consumers.{nth_from_yields_List}
use Rattle.rules.specs.Lines.{split_on}
use Rattle.text.proofs.Splits.{yields_parts}
use Rattle.text.proofs.field.field_at.Goals as goal

read_or : (r : Option (Bor (List ℕ))) (d : Bor (List ℕ)) → (unwrap_or r d).now ≡ unwrap_or (option_map (λ x. x.now) r) d.now
read_or None d = refl
read_or (Some x) d = refl

pub returns : goal.returns
returns c =
    let all = split_on 9 c.args.s.now in
    let e = nth_from_yields_List _ _ c.args.k c.nth.ensures.ran (yields_parts _ 9 c.args.s.now c.split.ensures.rest c.split.ensures.done c.split.ensures.closure (λ x b q k. search rules)) in
    ap (λ r. r.now) c.unwrap_or.ensures ∙ read_or c.nth.result _ ∙ ap (λ o. unwrap_or o []) e ∙ unwrap_or-slice_get all c.args.k []
