-- Line n is item n - 1 of the file's lines.
use Rattle.std.proofs.Common.{rules, ◌≡◌, ◌∙◌, ◌-◌, refl, sym, ap, [], List, ℕ, Option, Some, None, Bor}
use Rattle.std.specs.Option.{option_map, unwrap_or}
use Rattle.std.proofs.lemmas.Option.{unwrap_or-slice_get}
use Rattle.std.proofs.lemmas.Iterator.Consumers.{nth_from_yields_List}
use Rattle.rules.specs.Lines.{lines}
use Rattle.refusal.proofs.FileLines.{yields_lines, line_by_index}
use Rattle.refusal.proofs.Line.of.Goals as goal

read_or : (r : Option (Bor (List ℕ))) (d : Bor (List ℕ)) → (unwrap_or r d).now ≡ unwrap_or (option_map (λ x. x.now) r) d.now
read_or None d = refl
read_or (Some x) d = refl

pub returns-clause-bytes : goal.returns-clause-bytes
returns-clause-bytes c =
    let s = c.args.s.now in
    let i = c.args.n - 1 in
    let e = nth_from_yields_List _ _ i c.nth.ensures.ran (yields_lines _ s c.split_inclusive-lines.ensures.rest c.split_inclusive-lines.ensures.closure (λ x b q k. search rules)) in
    ap (λ r. r.now) c.unwrap_or.ensures ∙ read_or c.nth.result _ ∙ ap (λ o. unwrap_or o []) e ∙ unwrap_or-slice_get (lines s) i [] ∙ sym (line_by_index s c.args.n c.requires)
