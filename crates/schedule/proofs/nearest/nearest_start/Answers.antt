-- `nearest_start` meets its contract.
use Rattle.std.proofs.Common.{◌≡◌, ◌∙◌, sym, arith, [], ap, map, length, eqb-true}
use Rattle.std.proofs.lemmas.Bool.{eqb-false}
use Rattle.std.proofs.lemmas.List.{length-map}
use Rattle.activity.specs.View.{window_of, activity_view}
use Rattle.rules.proofs.Distance.{distance_right}
use Rattle.schedule.proofs.Windows.{nearest_alike, none_left, in_windows}
use Rattle.schedule.proofs.nearest.nearest_start.Goals as goal

pub nearest_in_windows-requires-clause-held : goal.nearest_in_windows-requires-clause-held
unfolding activity_view
nearest_in_windows-requires-clause-held c = λ s e.
    let ws = c.args.candidate.now.windows in
    in_windows _ s (λ h. eqb-false _ _ (sym c.is_empty.ensures ∙ c.if-is_empty.false) (omega (arith, h, length-map ws window_of, ap length c.as_slice.ensures.value))) (c.requires.allowed s e)

pub returns-then-is_empty : goal.returns-then-is_empty
unfolding activity_view
returns-then-is_empty c =
    let none : c.args.candidate.now.windows ≡ [] = none_left _ (rw (← c.as_slice.ensures.value) (eqb-true _ _ (sym c.is_empty.ensures ∙ c.if-is_empty.true))) in
    nearest_alike _ _ _ _ _ (λ s _ _. (distance_right _ c.requires.formed).field s (ap (map window_of) none)) _ c.nearest_between.ensures
