-- What the first line and an activity line say, and what is wrong in a refused one.
-- Assumes nothing.
use Prim.Native.Nat.{ℕ}
use mathlib.Core.Path.{◌≡◌, refl, ◌∙◌, ap}
use mathlib.Core.List.{List, []}
use native.Mathlib.Omega.{arith}
use lib.ListN.{length}
use Rattle.rules.specs.Bytes.{bytes}
use Rattle.rules.specs.Plan.{Header, Activity}
use Rattle.rules.specs.Number.{value_of, decimal}
use Rattle.rules.specs.Lines.{fields, field, line_of}
use Rattle.rules.specs.HeaderLine.{header_of}
use Rattle.rules.specs.ActivityLine.{activity_of}
use Rattle.rules.specs.Print.{header_text, activity_text}
use Rattle.rules.specs.WellFormed.{HeaderFormed, ActivityFormed}
use Rattle.rules.specs.Forms.{last_byte, LineFormed, NumberFormed, FieldsFault, plan_forms, act_forms}
use Rattle.rules.proofs.Says.{Says, said}
use Rattle.rules.proofs.NumberText.{number_text}
use Rattle.rules.proofs.Join.{line_joined}
use Rattle.rules.proofs.KindFacts.{counted, counted_of, numbers_say, windows_say, settings_say_lem}
use Rattle.rules.proofs.FieldSteps.{RightTo, none_yet, field_step, number_step}

-- the line of its fields one by one
whole_line : (n : ℕ) (l : List ℕ) → length (fields l) ≡ n → last_byte l ≡ 10 → line_of (counted n (field (fields l))) ≡ l
whole_line n l e f = ap line_of (counted_of n (fields l) [] e) ∙ line_joined l f

-- a number field is the number's text
as_read : {lo hi : ℕ} {s : List ℕ} → NumberFormed lo hi s → decimal (value_of s) ≡ s
as_read {s = s} f = number_text s f.written

-- the header h is what the line l says
pub record HeaderSaid (l : List ℕ) (h : Header) : Type 0 where
  pub formed : HeaderFormed h
  pub text : header_text h ≡ l
  pub fields_right : RightTo (plan_forms (fields l)) (fields l) 11

pub header_says : (l : List ℕ) → LineFormed (bytes "plan") 12 l → Says (HeaderSaid l) (FieldsFault (plan_forms (fields l)) (fields l)) (header_of (fields l))
unfolding header_of header_text
header_says l L =
    number_step 0 (omega arith) none_yet _ refl (λ horizon before.
    number_step 1 (omega arith) before _ refl (λ minute before.
    number_step 2 (omega arith) before _ refl (λ capacity before.
    number_step 3 (omega arith) before _ refl (λ floor before.
    number_step 4 (omega arith) before _ refl (λ first before.
    number_step 5 (omega arith) before _ refl (λ rate before.
    number_step 6 (omega arith) before _ refl (λ handover before.
    number_step 7 (omega arith) before _ refl (λ engines before.
    number_step 8 (omega arith) before _ refl (λ peak before.
    number_step 9 (omega arith) before _ refl (λ volume before.
    number_step 10 (omega arith) before _ refl (λ heater before.
    said record {
      formed = record {
        horizon = (horizon.low, horizon.high);
        minute = minute.high;
        capacity = (capacity.low, capacity.high);
        floor = floor.high;
        first = (first.low, first.high);
        rate = rate.high;
        handover = handover.high;
        engines = engines.high;
        peak = peak.high;
        volume = volume.high;
        heater = heater.high;
      };
      text = rw (as_read horizon, as_read minute, as_read capacity, as_read floor, as_read first, as_read rate, as_read handover, as_read engines, as_read peak, as_read volume, as_read heater, ← L.first_word) (whole_line 12 l L.field_count L.ends);
      fields_right = before;
    })))))))))))

-- the activity a is what the line l says
pub record ActivitySaid (h : Header) (l : List ℕ) (a : Activity) : Type 0 where
  pub formed : ActivityFormed h a
  pub text : activity_text a ≡ l
  pub fields_right : RightTo (act_forms h.horizon) (fields l) 14

pub activity_says : (h : Header) (l : List ℕ) → LineFormed (bytes "act") 15 l → Says (ActivitySaid h l) (FieldsFault (act_forms h.horizon) (fields l)) (activity_of h (fields l))
unfolding activity_of activity_text
activity_says h l L =
    number_step 0 (omega arith) none_yet _ refl (λ id before.
    number_step 1 (omega arith) before _ refl (λ priority before.
    number_step 2 (omega arith) before _ refl (λ duration before.
    number_step 3 (omega arith) before _ refl (λ preferred before.
    field_step 4 (omega arith) before (windows_say (field (fields l) 5)) (λ xs windows _ before.
    field_step 5 (omega arith) before (numbers_say 65535 8 (field (fields l) 6)) (λ xs after _ before.
    field_step 6 (omega arith) before (numbers_say 31 32 (field (fields l) 7)) (λ xs units _ before.
    field_step 7 (omega arith) before (settings_say_lem (field (fields l) 8)) (λ xs needs _ before.
    field_step 8 (omega arith) before (settings_say_lem (field (fields l) 9)) (λ xs sets _ before.
    number_step 9 (omega arith) before _ refl (λ engines before.
    number_step 10 (omega arith) before _ refl (λ peak before.
    number_step 11 (omega arith) before _ refl (λ draw before.
    number_step 12 (omega arith) before _ refl (λ volume before.
    number_step 13 (omega arith) before _ refl (λ warm before.
    said record {
      formed = record {
        id = id.high;
        priority = priority.high;
        duration = (duration.low, duration.high);
        preferred = preferred.high;
        windows = windows.1;
        after = after.1;
        units = units.1;
        needs = needs.1;
        sets = sets.1;
        engines = engines.high;
        peak = peak.high;
        draw = draw.high;
        volume = volume.high;
        warm = warm.high;
      };
      text = rw (as_read id, as_read priority, as_read duration, as_read preferred, windows.0, after.0, units.0, needs.0, sets.0, as_read engines, as_read peak, as_read draw, as_read volume, as_read warm, ← L.first_word) (whole_line 15 l L.field_count L.ends);
      fields_right = before;
    }))))))))))))))
