-- A table marked start by start.
-- Assumes nothing.
use Prim.Native.Nat.{ℕ, ◌+◌, ◌-◌, ◌<◌, ◌≤◌}
use mathlib.Core.Path.{◌≡◌, refl, ap, ◌∙◌, subst⁻¹}
use mathlib.Core.Bool.{Bool, cond}
use mathlib.Core.List.{List, ◌++◌}
use native.Mathlib.Omega.{arith}
use lib.ListN.{length, get_or, set, take, drop, length-set}
use Rattle.std.proofs.lemmas.List.{length-take-le, length-append, length-drop, get_or-take, get_or-drop, get_or-append_right}
use Rattle.std.proofs.Math.ListN.{get_or-append}
use lib.Seq.{get_or-set_same, get_or-set_other}
use borrow.Author.Count.{below_more}
use Rattle.sets.specs.Table.{Marked, Markable}

module _ (test : ℕ → Bool) (by : ℕ) where
  pub none_marked : (l : List ℕ) → Marked test by 0 l l
  none_marked l = record { size = refl; raised = λ s h. absurd (omega arith); rest = λ s h. refl }

  pub more_marked : (n : ℕ) (old new : List ℕ) (v : ℕ) → n < length old → v ≡ get_or new n 0 + cond (test n) by 0 → Marked test by n old new → Marked test by (n + 1) old (set new n v)
  more_marked n old new v l e m =
      record {
        size = length-set new n v ∙ m.size;
        raised =
            below_more (λ s. get_or (set new n v) s 0 ≡ get_or old s 0 + cond (test s) by 0) n (λ s h. get_or-set_other new n s v 0 (omega arith) ∙ m.raised s h)
            (get_or-set_same new n v 0 (omega (arith, m.size)) ∙ e ∙ ap (λ x. x + cond (test n) by 0) (m.rest n (omega arith)));
        rest = λ s h. get_or-set_other new n s v 0 (omega arith) ∙ m.rest s (omega arith);
      }

  -- by another test that says the same
  pub same_marked : (other : ℕ → Bool) (n : ℕ) (old new : List ℕ) → ((s : ℕ) → s < n → other s ≡ test s) → Marked other by n old new → Marked test by n old new
  same_marked other n old new f m = record { size = m.size; raised = λ s h. m.raised s h ∙ ap (λ b. get_or old s 0 + cond b by 0) (f s h); rest = m.rest }

  -- the next start is raised
  pub marked_more : (s : ℕ) (old new next : List ℕ) (b : Bool) → s < length old → Marked test by s old new → next ≡ set new s (get_or new s 0 + cond b by 0) → b ≡ test s → Marked test by (s + 1) old next
  marked_more s old new next b l m e q = subst⁻¹ (Marked test by (s + 1) old) e (more_marked s old new _ l (ap (λ (x : Bool). get_or new s 0 + cond x by 0) q) m)

  -- the first n entries marked, before the others
  pub marked_front : (n : ℕ) (old new : List ℕ) → n ≤ length old → Marked test by n (take n old) new → Marked test by n old (new ++ drop n old)
  marked_front n old new l m =
      let size = m.size ∙ length-take-le n old l in
      record {
        size = length-append new (drop n old) ∙ omega (arith, size, length-drop n old);
        raised = λ s h. get_or-append new (drop n old) 0 s (omega (arith, size)) ∙ m.raised s h ∙ ap (λ x. x + cond (test s) by 0) (get_or-take n old s 0 h);
        rest = λ s h. get_or-append_right new (drop n old) n s 0 size h ∙ get_or-drop n old (s - n) 0 ∙ ap (λ k. get_or old k 0) (omega arith);
      }

  -- its entry can be raised
  pub markable_at : (n s : ℕ) (old new : List ℕ) → s < n → Markable by n old → Marked test by s old new → (s < length new) × (get_or new s 0 + by < 65536)
  markable_at n s old new k r m = (omega (arith, r.long, m.size), omega (arith, m.rest s (omega arith), r.free s))
