-- The field that is named as wrong is the one at fault: of the fields left to right, the first that is not what it must be. A refused file has such a fault (`refused_fault` of `rules`); of 6 and 7 the field is said by definition.
use Rattle.std.specs.Prelude.{ℕ, suc, ◌≡◌, List, length}
use Rattle.rules.specs.Plan.{Header, Activity}
use Rattle.rules.specs.Lines.{fields}
use Rattle.rules.specs.Forms.{FieldsFault, plan_forms, act_forms}
use Rattle.rules.specs.Faults.{line_at, Begins}
use Rattle.wording.specs.FirstWrong.{plan_fields, act_fields, first_wrong}
use Rattle.refusal.specs.Refused.{horizon_of, field_of}

pub record Named : Type 0 where
  -- of the fields of a plan's first line
  pub in_plan : (fs : List (List ℕ)) (k : ℕ) (f : FieldsFault (plan_forms fs) fs k) → first_wrong 1 (plan_fields fs) ≡ suc f.i
  -- of those of an activity's line in a plan of horizon T
  pub in_act : (T : ℕ) (fs : List (List ℕ)) (k : ℕ) (f : FieldsFault (act_forms T) fs k) → first_wrong 1 (act_fields T fs) ≡ suc f.i
  -- of the file s, refused for a field of its first line
  pub on_first_line : (s : List ℕ) (k : ℕ) (f : FieldsFault (plan_forms (fields (line_at s 1))) (fields (line_at s 1)) k) → field_of (horizon_of s) k 1 (line_at s 1) ≡ suc f.i
  -- of the file s, refused for a field of the line after those of the header h and the activities xs
  pub on_act_line : (s : List ℕ) (h : Header) (xs : List Activity) (k : ℕ) → Begins s h xs → (f : FieldsFault (act_forms h.horizon) (fields (line_at s (suc (suc (length xs))))) k) → field_of (horizon_of s) k (suc (suc (length xs))) (line_at s (suc (suc (length xs)))) ≡ suc f.i
