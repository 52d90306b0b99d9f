-- The printed form of a well-formed plan whose handover charge can be reached is accepted as that plan.
-- Assumes nothing.
use mathlib.Core.Path.{◌≡◌, refl, sym, ap, ◌∙◌, subst}
use mathlib.Core.Bool.{false}
use mathlib.Core.List.Memᴰ
use mathlib.Core.List.{List, [], ◌∷◌, ◌++◌, map, append-nil, Memᴰ}
use mathlib.Core.Option.{none}
use Prim.Native.Nat.{ℕ, suc, ◌+◌, ◌<◌, ◌≤◌}
use native.Mathlib.Nat.{add-zero}
use native.Mathlib.Omega.{arith}
use lib.ListN.{length, length-append}
use lib.Seq.{append_snoc}
use borrow.Author.Tests.{lt-leb, le-ltb}
use Rattle.rules.specs.Plan.{Header, Activity, Plan}
use Rattle.rules.specs.Lines.{lines}
use Rattle.rules.specs.Order.{order}
use Rattle.rules.specs.Outcomes.{activity_at}
use Rattle.rules.specs.Reading.{accepted, on_line, activity_lines, plan_lines, out_of_reach, judged, after_lines, reading}
use Rattle.rules.specs.Print.{header_text, activity_text, activities_text, plan_text}
use Rattle.rules.specs.WellFormed.{HeaderFormed, ActivityFormed, WellFormed, Reachable}
use Rattle.rules.proofs.Signed.{le_lt_z}
use Rattle.rules.proofs.LineBack.{header_back, activity_back}
use Rattle.rules.proofs.Short.{plan_length}
use Rattle.rules.proofs.Ids.{Distinct, new_id, none_misplaced}
use Rattle.rules.proofs.Order.{order_length}
use Rattle.rules.proofs.Projecting.{reach_is}

module _ (h : Header) (xs : List Activity) (g : HeaderFormed h) (few : length xs ≤ 64) (each : (a : Activity) → Memᴰ a xs → ActivityFormed h a) (ids : Distinct xs) where
  -- the lines of the activities `rest`, after those of earlier lines, and then more lines
  activities_back : (earlier rest : List Activity) (n : ℕ) (more : List (List ℕ)) → earlier ++ rest ≡ xs → activity_lines h earlier n (map activity_text rest ++ more) ≡ activity_lines h xs (n + length rest) more
  unfolding activity_lines on_line
  activities_back earlier [] n more e = rw (sym (append-nil earlier) ∙ e, add-zero)
  activities_back earlier (a ∷ rest) n more e =
      let b = activity_back h a g (each a (rw e at (Memᴰ.append_right earlier (Memᴰ.head {x = a} {xs = rest} refl)))) in
      let few : length earlier < 64 = omega (arith, length-append earlier (a ∷ rest), ap length e) in
      let count : n + suc (length rest) ≡ suc n + length rest = omega arith in
      rw (b.form, lt-leb 64 (length earlier) few, b.says, new_id earlier a rest (subst Distinct (sym e) ids), count)
      (activities_back (earlier ++ (a ∷ [])) rest (suc n) more (append_snoc earlier a rest ∙ e))

  -- the lines of the header and of all the activities, and then more lines
  pub lines_back : (more : List (List ℕ)) → plan_lines (header_text h ∷ (map activity_text xs ++ more)) ≡ activity_lines h xs (suc (suc (length xs))) more
  unfolding plan_lines on_line
  lines_back more =
      let b = header_back h g in
      let count : 2 + length xs ≡ suc (suc (length xs)) = omega arith in
      rw (b.form, b.says, ← count) (activities_back [] xs 2 more refl)

  -- the lines of the printed activities
  printed_lines : (rest : List Activity) → ((a : Activity) → Memᴰ a rest → ActivityFormed h a) → lines (activities_text rest) ≡ map activity_text rest
  unfolding activities_text lines
  printed_lines [] f = refl
  printed_lines (a ∷ rest) f = (activity_back h a g (f a (Memᴰ.head refl))).next (activities_text rest) ∙ ap (λ (ls : List (List ℕ)). activity_text a ∷ ls) (printed_lines rest (λ b m. f b (Memᴰ.tail m)))

  -- so the printed form reads back, line by line
  pub printed_back : plan_lines (lines (header_text h ++ activities_text xs)) ≡ accepted (record { header = h; activities = xs })
  unfolding activity_lines
  printed_back = rw ((header_back h g).next (activities_text xs), printed_lines xs each, ← append-nil (map activity_text xs)) (lines_back [])

-- the lines of a well-formed plan draw no refusal, nor does its `after`: 9 is left
pub left_to_judge : (p : Plan) → WellFormed p → after_lines (plan_lines (lines (plan_text p))) ≡ judged p none
unfolding plan_text after_lines activity_at
left_to_judge p w =
    rw (
      printed_back p.header p.activities w.header w.few w.each w.ids,
      none_misplaced (order p.activities) (λ k id l. w.after k id (rw (order_length p.activities) at l)),
    )

pub read_printed : (p : Plan) → WellFormed p → Reachable p → reading (plan_text p) ≡ accepted p
unfolding reading judged
read_printed p w r =
    let reached : out_of_reach p.header ≡ false = reach_is p.header ∙ le_lt_z _ _ r in
    rw (le-ltb 60000 (length (plan_text p)) (plan_length p w), left_to_judge p w, reached)
