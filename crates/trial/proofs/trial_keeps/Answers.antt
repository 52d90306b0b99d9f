-- `trial_keeps` meets its contract: the trial's charges are those with the activity added, from where it begins to draw to the tick reached.
use Rattle.std.proofs.Common.{rules, ℕ, ◌≤◌, ◌≡◌, refl, sym, ap, ◌∙◌, subst, true, false, List, ℤ, pos, ◌≤ℤ◌, length, get_or, set, length-set, to_z, of_z, w64, arith}
use Rattle.std.specs.Int.Signed.{le_z}
use Rattle.std.proofs.Math.Seq.{get_or-set_same}
use mathlib.Core.Logic.{⊎_elim}
use native.Mathlib.Nat.{eq-or-lt_of_le}
use borrow.Author.Tests.{eq-eqb}
use Rattle.rules.proofs.Tests.{both_ways}
use mir.Val.{SFits}
use mir.Facts.{to_z-of_z}
use Rattle.activity.specs.declared.Header.{Header as HeaderStruct}
use Rattle.charge.specs.declared.own.OwnDraw.{OwnDraw as OwnStruct}
use Rattle.charge.specs.Charge.{OwnDraw, own_view, at_tick, kept_by}
use Rattle.charge.proofs.Running.{charge_most}
use Rattle.trial.specs.declared.base.Base.{Base}
use Rattle.trial.specs.Trial.{draw_with, Ran}
use Rattle.trial.proofs.Trying.{Tried, tried_first, tried_on, tried_under, tried_back, tried_last}
use Rattle.trial.proofs.Added.{draws_before, draws_after}
use Rattle.trial.proofs.trial_keeps.Goals as goal

module _ (b : Base) (own : OwnStruct) (trial : List ℤ) (size : length trial ≡ 4097) (in_time : own.end ≤ b.drawn.header.horizon) (v : ℤ) (first : v ≡ get_or b.charges.now own.heat (pos 0)) where
  abbrev h : HeaderStruct
  h = b.drawn.header

  abbrev o : OwnDraw
  o = own_view own

  -- the draws of the placed, and those with the activity added
  abbrev base : ℕ → ℕ
  base = at_tick b.drawn.draws.now

  abbrev all : ℕ → ℕ
  all = draw_with (at_tick b.drawn.draws.now) (own_view own)

  -- the trial where it begins
  begun_size : length (set trial own.heat v) ≡ 4097
  begun_size = length-set trial own.heat v ∙ size

  begun : Tried h all own.heat (set trial own.heat v)
  begun =
      let d = b.drawn.drawing in
      let e = own.heat_le_start in
      let f = own.start_le_end in
      tried_first h base all b.kept own.heat (omega arith) (λ t l. draws_before base o t e l) _
      (get_or-set_same trial own.heat v (pos 0) (omega (arith, d.short)) ∙ first ∙ b.charges_are.at own.heat (omega arith))

  begun_most : get_or (set trial own.heat v) own.heat (pos 0) ≤ℤ pos h.capacity
  begun_most = rw begun.at (charge_most h all own.heat b.first)

  -- where it left the activity's ticks
  module _ (t : ℕ) (xs : List ℤ) (r : Ran h all own.heat t (set trial own.heat v) xs) where
    owned : Tried h all t xs
    owned =
        let e = own.heat_le_start in
        let f = own.start_le_end in
        tried_on h base all b.kept own.heat (omega arith) (set trial own.heat v) begun all t xs r (λ u _ _. refl)

    owned_size : length xs ≡ 4097
    owned_size = r.size ∙ begun_size

    owned_most : get_or xs t (pos 0) ≤ℤ pos h.capacity
    owned_most = rw owned.at (charge_most h all t b.first)

    owned_under : t ≤ h.horizon → le_z (pos h.floor) (get_or xs t (pos 0)) ≡ false → kept_by h all ≡ false
    owned_under l f = tried_under h base all b.kept t l xs owned f

    -- where it ended
    module _ (z : t ≡ own.end) (u : ℕ) (ys : List ℤ) (q : Ran h base own.end u xs ys) (l : u ≤ h.horizon) where
      tried : Tried h all u ys
      tried = tried_on h base all b.kept own.end in_time xs (subst (λ (v : ℕ). Tried h all v xs) z owned) base u ys q (λ v k _. draws_after base o v own.start_le_end k)

      back_same : get_or ys u (pos 0) ≡ get_or b.charges.now u (pos 0) → kept_by h all ≡ true
      back_same f = tried_back h base all b.kept u l ys tried (f ∙ b.charges_are.at u l) (λ v k. draws_after base o v own.start_le_end (omega (arith, q.began)))

      back_under : le_z (pos h.floor) (get_or ys u (pos 0)) ≡ false → kept_by h all ≡ false
      back_under f = tried_under h base all b.kept u l ys tried f

      back_last : u ≡ h.horizon → le_z (pos h.floor) (get_or ys u (pos 0)) ≡ true → kept_by h all ≡ le_z (pos h.handover) (get_or ys u (pos 0))
      back_last f k = tried_last h base all b.kept u l ys tried f k

pub run_own-ended-requires-clause-under_capacity : goal.run_own-ended-requires-clause-under_capacity
run_own-ended-requires-clause-under_capacity c =
    let f : SFits w64 (get_or c.args.base.now.charges.now c.args.own.heat (pos 0)) = search rules in
    begun_most c.args.base.now c.args.own c.args.trial.now (search rules) c.requires.in_time _ (to_z-of_z f)

pub returns-then-ended-own : goal.returns-then-ended-own
returns-then-ended-own c =
    let f : SFits w64 (get_or c.args.base.now.charges.now c.args.own.heat (pos 0)) = search rules in
    let e = c.run_own-ended.ensures in
    sym (owned_under c.args.base.now c.args.own c.args.trial.now (search rules) c.requires.in_time _ (to_z-of_z f) _ _ e.ran_to.1 (omega arith) (e.left_early c.if-ended-own.true))

pub run_back-t-requires-clause-under_capacity : goal.run_back-t-requires-clause-under_capacity
run_back-t-requires-clause-under_capacity c =
    let f : SFits w64 (get_or c.args.base.now.charges.now c.args.own.heat (pos 0)) = search rules in
    let e = c.run_own-ended.ensures in
    let z : c.run_own-ended.result ≡ c.args.own.end = omega (arith, e.ran_to.0) in
    rw (← z) (owned_most c.args.base.now c.args.own c.args.trial.now (search rules) c.requires.in_time _ (to_z-of_z f) _ _ e.ran_to.1)

pub returns-then-last-base : goal.returns-then-last-base
returns-then-last-base c =
    let own = c.run_own-ended.ensures.ran_to in
    let back = c.run_back-t.ensures.ran_to in
    let f : SFits w64 (get_or c.args.base.now.charges.now c.args.own.heat (pos 0)) = search rules in
    let x : SFits w64 (get_or c.run_back-t.new.charges c.run_back-t.result (pos 0)) = search rules in
    let y : SFits w64 (get_or c.args.base.now.charges.now c.run_back-t.result (pos 0)) = search rules in
    let z : c.run_own-ended.result ≡ c.args.own.end = omega (arith, own.0) in
    let same = sym (to_z-of_z x) ∙ ap (to_z w64) c.if-last-base.true ∙ to_z-of_z y in
    eq-eqb _ _ c.if-last-base.true ∙ sym (back_same c.args.base.now c.args.own c.args.trial.now (search rules) c.requires.in_time _ (to_z-of_z f) _ _ own.1 z _ _ back.1 back.0 same)

pub returns-then-from-last : goal.returns-then-from-last
returns-then-from-last c =
    let h = c.args.base.now.drawn.header in
    let own = c.run_own-ended.ensures.ran_to in
    let back = c.run_back-t.ensures in
    let f : SFits w64 (get_or c.args.base.now.charges.now c.args.own.heat (pos 0)) = search rules in
    let x : SFits w64 (get_or c.run_back-t.new.charges c.run_back-t.result (pos 0)) = search rules in
    let z : c.run_own-ended.result ≡ c.args.own.end = omega (arith, own.0) in
    let floor = to_z-of_z {w = w64} (record { sfits = c.from.type_inv }) ∙ c.from.ensures in
    let handover = to_z-of_z {w = w64} (record { sfits = c.from-then-from-last.type_inv }) ∙ c.from-then-from-last.ensures in
    let over = rw (floor, to_z-of_z x) at c.if-from-last.true in
    let n : c.run_back-t.result ≡ h.horizon = ⊎_elim (λ e. e) (λ l. absurd (⊎_elim (both_ways over) (λ q. c.if-last-base.false (ap (of_z w64) q)) (back.left_early l))) (eq-or-lt_of_le back.ran_to.0) in
    rw (handover, to_z-of_z x) (sym (back_last c.args.base.now c.args.own c.args.trial.now (search rules) c.requires.in_time _ (to_z-of_z f) _ _ own.1 z _ _ back.ran_to.1 back.ran_to.0 n over))

pub returns-else-from-last : goal.returns-else-from-last
returns-else-from-last c =
    let own = c.run_own-ended.ensures.ran_to in
    let back = c.run_back-t.ensures.ran_to in
    let f : SFits w64 (get_or c.args.base.now.charges.now c.args.own.heat (pos 0)) = search rules in
    let x : SFits w64 (get_or c.run_back-t.new.charges c.run_back-t.result (pos 0)) = search rules in
    let z : c.run_own-ended.result ≡ c.args.own.end = omega (arith, own.0) in
    let floor = to_z-of_z {w = w64} (record { sfits = c.from.type_inv }) ∙ c.from.ensures in
    let under = rw (floor, to_z-of_z x) at c.if-from-last.false in
    c.if-from-last.false ∙ sym (back_under c.args.base.now c.args.own c.args.trial.now (search rules) c.requires.in_time _ (to_z-of_z f) _ _ own.1 z _ _ back.1 back.0 under)
