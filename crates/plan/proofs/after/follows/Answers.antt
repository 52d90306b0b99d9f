-- `after::follows` meets its contract.
use Rattle.std.proofs.Common.{ℕ, Bool, ◌∙◌, eqb, sym, ap}
use Rattle.std.specs.List.{list_any, list_all}
use Rattle.std.proofs.lemmas.List.Folds.{list_all-map}
use Rattle.activity.specs.View.{header_view, number_of}
use Rattle.plan.proofs.after.follows.Goals as goal

pub returns : goal.returns
returns c =
    let said : ℕ → Bool = λ id. list_any (λ other. eqb other.id id) c.args.earlier.now in
    c.all_said.ensures ∙ rw c.as_slice.ensures.value (sym (list_all-map said number_of c.after_at-after.result)) ∙ ap (list_all said) (c.after_at-after.ensures.value (header_view c.args.file.now.header) c.requires)
