-- The projection, run on from tick to tick.
-- Assumes nothing.
use Prim.Native.Nat.{ℕ, ◌+◌, ◌≤◌, ◌<◌, ◌^◌}
use mathlib.Core.Path.{◌≡◌, refl, sym, ap, ◌∙◌}
use mathlib.Core.List.{List}
use native.Mathlib.Numerals.{add-one}
use native.Mathlib.Omega.{arith}
use lib.IntN.{ℤ, pos}
use lib.ListN.{length, get_or, set, length-set}
use lib.Seq.{get_or-set_same, get_or-set_other}
use Rattle.std.proofs.lemmas.Int.{ints}
use Rattle.rules.specs.MeetsB.{further, projected}
use Rattle.rules.specs.declared.Projection.{Projection}
use Rattle.rules.proofs.Projecting.{projected_right}
use Rattle.rules.proofs.Tests.{last_or}
use Rattle.activity.specs.declared.Header.{Header as HeaderStruct}
use Rattle.charge.specs.Charge.{charge_next, charge_by}
use Rattle.charge.proofs.Step.{InTicks, next_in}
use Rattle.charge.proofs.Running.{charge_next_lem}

-- up to tick t: what is handed back, the range of the last charge, and the charges written
pub record ProjectedTo (h : HeaderStruct) (draw : ℕ → ℕ) (t : ℕ) (p : Projection) (xs : List ℤ) : Type 0 where
  pub is : p ≡ projected (charge_by h draw) t
  pub range : InTicks t p.last
  pub size : length xs ≡ 4097
  pub at : (u : ℕ) → u ≤ t → get_or xs u (pos 0) ≡ charge_by h draw u

module _ (h : HeaderStruct) (draw : ℕ → ℕ) where
  pub projected_first : (xs : List ℤ) (c : ℤ) → c ≡ pos h.first → h.first < 2 ^ 32 → length xs ≡ 4097 → ProjectedTo h draw 0 (record { last = c; lowest = c; tick = 0 }) (set xs 0 c)
  unfolding projected charge_by
  projected_first xs c e f l =
      record {
        is = λ i. record { last = e i; lowest = e i; tick = 0 };
        range = rw e (omega (arith, ints));
        size = length-set xs 0 c ∙ l;
        at = λ u k. let z : u ≡ 0 = omega arith in rw z (get_or-set_same xs 0 c (pos 0) (omega arith) ∙ e);
      }

  projected_next : (t : ℕ) → further (t + 1) (charge_by h draw (t + 1)) (projected (charge_by h draw) t) ≡ projected (charge_by h draw) (t + 1)
  unfolding projected
  projected_next t = rw add-one refl

  module _ (t : ℕ) (p q : Projection) (xs : List ℤ) (c : ℤ) (s : ProjectedTo h draw t p xs) where
    pub projected_more : c ≡ charge_next h.capacity h.rate (draw t) p.last → q ≡ further (t + 1) c p → h.capacity < 2 ^ 32 → draw t < 2 ^ 32 → t < 4096 → ProjectedTo h draw (t + 1) q (set xs (t + 1) c)
    unfolding further
    projected_more e f k d l =
        let before : p.last ≡ charge_by h draw t = ap (λ (p : Projection). p.last) s.is ∙ (projected_right (charge_by h draw) t).last in
        let is : c ≡ charge_by h draw (t + 1) = e ∙ ap (charge_next h.capacity h.rate (draw t)) before ∙ sym (charge_next_lem h draw t) in
        record {
          is = f ∙ (λ i. further (t + 1) (is i) (s.is i)) ∙ projected_next t;
          range = rw (f ∙ (λ i. further (t + 1) (e i) p)) (next_in h.capacity h.rate (draw t) t p.last k d s.range);
          size = length-set xs (t + 1) c ∙ s.size;
          at = λ u m. last_or (λ u. get_or (set xs (t + 1) c) u (pos 0) ≡ charge_by h draw u) (t + 1) u (omega arith) (get_or-set_same xs (t + 1) c (pos 0) (omega (arith, s.size)) ∙ is) (λ m. get_or-set_other xs (t + 1) u c (pos 0) (omega arith) ∙ s.at u (omega arith));
        }
