-- Every reply is right, beside any schedule.
use Prim.Native.Nat.{ℕ, ◌<◌}
use mathlib.Core.Path.{◌≡◌, refl, sym, subst}
use mathlib.Core.Bool.{Bool, true}
use mathlib.Core.Option.{Option, none, some}
use native.Mathlib.Omega.{arith}
use Rattle.rules.specs.Plan.{Header, Activity, Schedule}
use Rattle.rules.specs.Conditions.{all_conditions, meets, meets_set}
use Rattle.rules.specs.Answer.{valid, common, nearest, letters, answered, answer}
use Rattle.rules.specs.Outcomes.{starts, distance, reply}
use Rattle.rules.specs.Demand.{Start, Valid, RefusedWith, PlacedAt, Right}
use Rattle.rules.specs.declared.Outcome.TheVariants.{Placed, Refused}
use Rattle.rules.proofs.Tests.{not_ever}
use Rattle.rules.proofs.Sets.{meets_at, meets_all, all_of_them}
use Rattle.rules.proofs.Nearest.{Best, Found, found}
use Rattle.rules.proofs.Letters.{Least, letters_least}

pub never : {s m : ℕ} → Placed s ≡ Refused m → ⊥
never e = let z : ◌≡◌ {A = ℕ} 0 1 = cc in omega arith

same_start : {s r : ℕ} → Placed s ≡ Placed r → s ≡ r
same_start e = cc

same_set : {m l : ℕ} → Refused m ≡ Refused l → m ≡ l
same_set e = cc

module _ (h : Header) (ps : Schedule) (a : Activity) where
  abbrev test : ℕ → ℕ → Bool
  test = meets h ps a

  abbrev n : ℕ
  n = starts h a

  below : (s : ℕ) → Start h a s → s < n
  unfolding starts
  below s k = omega arith

  in_time_lem : (s : ℕ) → s < n → Start h a s
  unfolding starts
  in_time_lem s k = omega arith

  pub valid_of : (s : ℕ) → s < n → valid test n s ≡ true → Valid h ps a s
  unfolding valid
  valid_of s k e = record { start = in_time_lem s k; meets_all = λ c g. meets_at test all_conditions s c e g (all_of_them c g) }

  of_valid : (s : ℕ) → Valid h ps a s → valid test n s ≡ true
  unfolding valid
  of_valid s v = meets_all test all_conditions s (λ c g _. v.meets_all c g)

  refused_with : (m : ℕ) → Least test n m → RefusedWith h ps a m
  refused_with m L =
      record {
        small = L.small;
        none = λ s k. L.none s (below s k);
        least = λ b g e. let w = L.least b g e in (w.0, in_time_lem w.0 w.1, w.2);
        turn = λ b g. (λ q. let w = (L.turn b g).0 q in (w.0, in_time_lem w.0 w.1, w.2), λ w. (L.turn b g).1 (w.0, below w.0 w.1, w.2));
      }

  placed_at : (s : ℕ) → Best (valid test n) (distance a) n s → PlacedAt h ps a s
  placed_at s B =
      record {
        valid = valid_of s B.below B.passes;
        nearest = λ r v. B.near r (below r v.start) (of_valid r v);
        earlier = λ r v. B.earlier r (below r v.start) (of_valid r v);
      }

  go : (o : Option ℕ) → Found (valid test n) (distance a) n o → Right h ps a (answered test n o)
  unfolding answered common valid
  go none F =
      let no_start : (s : ℕ) → Valid h ps a s → ⊥ = λ s v. F s (below s v.start) (of_valid s v) in
      record {
        exactly = (λ _. no_start, λ _. (letters test n, refl));
        refused = λ m e. subst (RefusedWith h ps a) (same_set e) (refused_with (letters test n) (letters_least test n (not_ever (meets_set test all_conditions) n F)));
        placed = λ s e. absurd (never (sym e));
      }
  go (some s) B =
      record {
        exactly = (λ w. absurd (never w.1), λ f. absurd (f s (placed_at s B).valid));
        refused = λ m e. absurd (never e);
        placed = λ r e. subst (PlacedAt h ps a) (same_start e) (placed_at s B);
      }

  pub replied : Right h ps a (reply h ps a)
  unfolding reply answer
  replied = go (nearest (valid test n) (distance a) n) (found (valid test n) (distance a) n)
