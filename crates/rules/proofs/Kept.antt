-- No limit is broken: not by the empty schedule, and not by a valid start more.
use Prim.Native.Nat.{ℕ, zero, suc, ◌+◌, ◌≤◌}
use mathlib.Core.Path.{◌≡◌, refl}
use mathlib.Core.Bool.{Bool, true, false, cond}
use mathlib.Core.List.{[], ◌∷◌}
use native.Mathlib.Omega.{arith}
use lib.Dec.{leb, leb-zero}
use lib.IntN.{ℤ, pos, ◌+ℤ◌, ◌-ℤ◌}
use lib.Signed.{◌≤ℤ◌}
use Rattle.rules.specs.Plan.{Header, Activity, Schedule, at}
use Rattle.rules.specs.Tests.{every, total}
use Rattle.rules.specs.MeetsU.{units_kept}
use Rattle.rules.specs.MeetsS.{meets_s, needs_kept}
use Rattle.rules.specs.Load.{load, load_kept}
use Rattle.rules.specs.MeetsE.{meets_e, engines_kept}
use Rattle.rules.specs.MeetsP.{meets_p, peaks_kept}
use Rattle.rules.specs.MeetsB.{meets_b, charge, charge_kept, drawn, smaller}
use Rattle.rules.specs.MeetsV.{meets_v, volume_kept, total_volume}
use Rattle.rules.specs.Conditions.{conditions, meets}
use Rattle.rules.specs.Kept.{Kept}
use Rattle.rules.specs.WellFormed.{HeaderFormed}
use Rattle.rules.specs.Demand.{Valid}
use Rattle.rules.proofs.Tests.{each_all, and_both}
use Rattle.rules.proofs.Signed.{signed}
use Rattle.rules.proofs.Projecting.{kept_when}

-- with nothing placed
load_kept_none : (f : Activity → ℕ) (limit : ℕ) (h : Header) → load_kept f limit h [] ≡ true
unfolding load_kept load total
load_kept_none f limit h = each_all _ _ (λ t _. leb-zero limit)

module _ (h : Header) (F : HeaderFormed h) (reachable : pos h.handover ≤ℤ charge h [] h.horizon) where
  record Charged (c : ℤ) : Type 0 where
    level : ℕ
    is : c ≡ pos level
    enough : h.floor ≤ level

  capped : (x : ℕ) → h.floor ≤ x → (b : Bool) → leb h.capacity x ≡ b → Charged (cond b (pos h.capacity) (pos x))
  capped x k true e = record { level = h.capacity; is = refl; enough = F.floor }
  capped x k false e = record { level = x; is = refl; enough = k }

  next : (c : ℤ) → Charged c → Charged (smaller (pos h.capacity) (c +ℤ pos h.rate -ℤ pos 0))
  unfolding smaller
  next c C = rw C.is (capped (C.level + h.rate + 0) (omega (arith, C.enough)) (leb h.capacity (C.level + h.rate + 0)) refl)

  charged : (t : ℕ) → Charged (charge h [] t)
  unfolding charge drawn total
  charged zero = record { level = h.first; is = refl; enough = F.first.0 }
  charged (suc t) = next (charge h [] t) (charged t)

  charge_none : charge_kept h [] ≡ true
  charge_none = (kept_when h []).1 (record { floor = λ t _. let C = charged t in rw C.is (omega (signed, C.enough)); handover = reachable })

  pub none_kept : Kept h []
  unfolding units_kept needs_kept every engines_kept peaks_kept volume_kept total_volume total
  none_kept =
      record {
        units = refl;
        needs = refl;
        engines = load_kept_none _ _ h;
        peaks = load_kept_none _ _ h;
        charge = charge_none;
        volume = leb-zero h.volume;
      }

pub more_kept : (h : Header) (ps : Schedule) (a : Activity) (s : ℕ) → Valid h ps a s → Kept h ps → Kept h (at a s ∷ ps)
unfolding meets conditions units_kept meets_s meets_e meets_p meets_b meets_v
more_kept h ps a s v K =
    record {
      units = and_both (v.meets_all 2 (omega arith)) K.units;
      needs = v.meets_all 3 (omega arith);
      engines = v.meets_all 4 (omega arith);
      peaks = v.meets_all 5 (omega arith);
      charge = v.meets_all 6 (omega arith);
      volume = v.meets_all 7 (omega arith);
    }
