-- `mark` meets its contract: each number picks its condition.
use Rattle.std.proofs.Common.{rules, ◌+◌, ◌∙◌, leb, length, map, ap, ap₂, arith}
use Rattle.activity.specs.View.{number_of}
use Rattle.placed.specs.declared.row.Row.{Row}
use Rattle.placed.proofs.Rows.{volumes_first}
use Rattle.direct.proofs.Ended.{ready_first}
use Rattle.conditions.proofs.Picked.{picked, needs, windows_are, after_are, units_are, state_is, engines_are, peaks_are, charge_is, volume_is, warmup_is}
use Rattle.conditions.proofs.mark.Goals as goal

pub mark_windows-requires : goal.mark_windows-requires
mark_windows-requires c =
    let N = needs _ _ _ _ _ c.requires.ready.2 _ c.requires.ready.1.1 in
    let M = N.markable _ _ c.bit-by.ensures.1 c.requires.table_in_bounds.0 c.requires.table_in_bounds.1 in search rules

pub mark_after-requires : goal.mark_after-requires
mark_after-requires c =
    let N = needs _ _ _ _ _ c.requires.ready.2 _ c.requires.ready.1.1 in
    let M = N.markable _ _ c.bit-by.ensures.1 c.requires.table_in_bounds.0 c.requires.table_in_bounds.1 in search rules

pub mark_units-requires : goal.mark_units-requires
mark_units-requires c =
    let N = needs _ _ _ _ _ c.requires.ready.2 _ c.requires.ready.1.1 in
    let M = N.markable _ _ c.bit-by.ensures.1 c.requires.table_in_bounds.0 c.requires.table_in_bounds.1 in search rules

pub mark_state-requires : goal.mark_state-requires
mark_state-requires c =
    let N = needs _ _ _ _ _ c.requires.ready.2 _ c.requires.ready.1.1 in
    let M = N.markable _ _ c.bit-by.ensures.1 c.requires.table_in_bounds.0 c.requires.table_in_bounds.1 in search rules

pub mark_engines-requires : goal.mark_engines-requires
mark_engines-requires c =
    let N = needs _ _ _ _ _ c.requires.ready.2 _ c.requires.ready.1.1 in
    let M = N.markable _ _ c.bit-by.ensures.1 c.requires.table_in_bounds.0 c.requires.table_in_bounds.1 in search rules

pub mark_peaks-requires : goal.mark_peaks-requires
mark_peaks-requires c =
    let N = needs _ _ _ _ _ c.requires.ready.2 _ c.requires.ready.1.1 in
    let M = N.markable _ _ c.bit-by.ensures.1 c.requires.table_in_bounds.0 c.requires.table_in_bounds.1 in search rules

pub mark_charge-requires : goal.mark_charge-requires
mark_charge-requires c =
    let N = needs _ _ _ _ _ c.requires.ready.2 _ c.requires.ready.1.1 in
    let M = N.markable _ _ c.bit-by.ensures.1 c.requires.table_in_bounds.0 c.requires.table_in_bounds.1 in search rules

pub candidate-requires : goal.candidate-requires
candidate-requires c = c.requires.ready.1.1.few

pub mark_volume-requires : goal.mark_volume-requires
mark_volume-requires c =
    let N = needs _ _ _ _ _ c.requires.ready.2 _ c.requires.ready.1.1 in
    let M = N.markable _ _ c.bit-by.ensures.1 c.requires.table_in_bounds.0 c.requires.table_in_bounds.1 in (omega (arith, N.few, c.entries-in-7.ensures.size), M)

pub mark_warmup-requires : goal.mark_warmup-requires
mark_warmup-requires c =
    let N = needs _ _ _ _ _ c.requires.ready.2 _ c.requires.ready.1.1 in
    let M = N.markable _ _ c.bit-by.ensures.1 c.requires.table_in_bounds.0 c.requires.table_in_bounds.1 in search rules

pub returns-in-0 : goal.returns-in-0
returns-in-0 c = λ placed B. picked _ _ _ _ 0 _ _ _ _ _ c.requires.ready.0 c.in-0.is c.bit-by.ensures.0 (windows_are _ _ _ _ _ c.requires.ready.2 placed B) (rw c.as_slice.ensures.value at c.mark_windows.ensures)

pub returns-in-1 : goal.returns-in-1
returns-in-1 c =
    λ placed B.
    let same = ready_first _ _ _ c.entries.ensures.value c.entries.ensures.size (map number_of c.args.candidate.now.after) (length c.args.candidate.now.after) in
    picked _ _ _ _ 1 _ _ _ _ _ c.requires.ready.0 c.in-1.is c.bit-by.ensures.0 (λ s k. ap (λ t. leb t s) same ∙ after_are _ _ _ _ _ c.requires.ready.2 placed B s k) (rw c.as_slice-in-1.ensures.value at c.mark_after.ensures)

pub returns-in-2 : goal.returns-in-2
returns-in-2 c = λ placed B. picked _ _ _ _ 2 _ _ _ _ _ c.requires.ready.0 c.in-2.is c.bit-by.ensures.0 (units_are _ _ _ _ _ c.requires.ready.2 placed B) (search rules)

pub returns-in-3 : goal.returns-in-3
returns-in-3 c = λ placed B. picked _ _ _ _ 3 _ _ _ _ _ c.requires.ready.0 c.in-3.is c.bit-by.ensures.0 (state_is _ _ _ _ _ c.requires.ready.2 placed B) (search rules)

pub returns-in-4 : goal.returns-in-4
returns-in-4 c = λ placed B. picked _ _ _ _ 4 _ _ _ _ _ c.requires.ready.0 c.in-4.is c.bit-by.ensures.0 (engines_are _ _ _ _ _ c.requires.ready.2 placed B) (search rules)

pub returns-in-5 : goal.returns-in-5
returns-in-5 c = λ placed B. picked _ _ _ _ 5 _ _ _ _ _ c.requires.ready.0 c.in-5.is c.bit-by.ensures.0 (peaks_are _ _ _ _ _ c.requires.ready.2 placed B) (search rules)

pub returns-in-6 : goal.returns-in-6
returns-in-6 c = λ placed B. picked _ _ _ _ 6 _ _ _ _ _ c.requires.ready.0 c.in-6.is c.bit-by.ensures.0 (charge_is _ _ _ _ _ c.requires.ready.2 placed B) (search rules)

pub returns-in-7 : goal.returns-in-7
returns-in-7 c =
    λ placed B.
    let own = ap (λ (row : Row). row.volume) c.candidate.ensures in
    let sum = volumes_first _ _ _ c.entries-in-7.ensures.value c.entries-in-7.ensures.size in
    picked _ _ _ _ 7 _ _ _ _ _ c.requires.ready.0 c.in-7.is c.bit-by.ensures.0 (λ s k. ap₂ (λ x y. leb (x + y) c.args.header.volume) own sum ∙ volume_is _ _ _ _ _ c.requires.ready.2 placed B s k) c.mark_volume.ensures

pub returns-in-8 : goal.returns-in-8
returns-in-8 c = λ placed B. picked _ _ _ _ 8 _ _ _ _ _ c.requires.ready.0 c.in-8.is c.bit-by.ensures.0 (warmup_is _ _ _ _ _ c.requires.ready.2 placed B) (search rules)
