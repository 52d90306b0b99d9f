-- Laws of the first place whose `after` names no activity at an earlier place.
-- Assumes nothing.
use Rattle.std.proofs.Common.{◌≡◌, ◌∙◌, ◌≤◌, ◌<◌, ◌+◌, ℕ, true, false, List, [], ◌∷◌, map, length, take, drop, eqb, slice_index_or, refl}
use Rattle.std.proofs.Math.Option.{none, some}
use Rattle.std.proofs.Math.Bool.{or_comm}
use Rattle.std.proofs.Math.Seq.{drop-cons}
use Rattle.std.proofs.Common.{add-one, drop_of_length-le}
use Rattle.std.specs.List.{list_any, list_all}
use Rattle.std.proofs.lemmas.List.Folds.{list_any_more}
use Rattle.rules.specs.Plan.{Header, Activity}
use Rattle.rules.specs.Tests.{any_of, every}
use Rattle.rules.specs.Reading.{has_id, misplaced}
use Rattle.rules.proofs.Library.{every_is, every_same}
use Rattle.plan.specs.Said.{said_by, LinesIn}
use Rattle.plan.proofs.Ids.{says_id, id_is_at}
use Rattle.order.specs.declared.Line.{Line}

-- the lines of s, where the first i are tried: the activities at their places, the latest first, and what is left
pub record Tried (h : Header) (s : List ℕ) (lines : List Line) (i : ℕ) : Type 0 where
  pub earlier : List Activity
  pub known : (id : ℕ) → has_id id earlier ≡ list_any (says_id id) (take i lines)
  pub left : misplaced [] (map (said_by h s) lines) ≡ misplaced earlier (map (said_by h s) (drop i lines))

module _ (h : Header) (s : List ℕ) (lines : List Line) where
  pub tried_none : Tried h s lines 0
  unfolding has_id any_of
  tried_none = record { earlier = []; known = λ id. refl; left = refl }

  pub tried_all : (i : ℕ) → length lines ≤ i → Tried h s lines i → misplaced [] (map (said_by h s) lines) ≡ none
  unfolding misplaced
  tried_all i k t = let n : drop i lines ≡ [] = drop_of_length-le lines k in rw n at t.left

  module _ (g : LinesIn h s lines) (i : ℕ) (d : Line) (k : i < length lines) (t : Tried h s lines i) where
    test : (id : ℕ) → has_id id t.earlier ≡ list_any (says_id id) (take i lines)
    test = t.known

    after : every (λ id. has_id id t.earlier) (said_by h s (slice_index_or lines i d)).after ≡ list_all (λ id. list_any (says_id id) (take i lines)) (said_by h s (slice_index_or lines i d)).after
    after = every_is _ _ ∙ every_same _ _ test _

    pub tried_hit : list_all (λ id. list_any (says_id id) (take i lines)) (said_by h s (slice_index_or lines i d)).after ≡ false → misplaced [] (map (said_by h s) lines) ≡ some (said_by h s (slice_index_or lines i d))
    unfolding misplaced
    tried_hit e = t.left ∙ rw (drop-cons lines i d k, after, e)

    pub tried_more : list_all (λ id. list_any (says_id id) (take i lines)) (said_by h s (slice_index_or lines i d)).after ≡ true → Tried h s lines (i + 1)
    unfolding misplaced has_id any_of
    tried_more e =
        record {
          earlier = said_by h s (slice_index_or lines i d) ∷ t.earlier;
          known = λ id. rw (list_any_more (says_id id) lines i d k, ← id_is_at h s lines g i k d, ← t.known id) (or_comm (eqb (slice_index_or lines i d).id id) (has_id id t.earlier));
          left = t.left ∙ rw (drop-cons lines i d k, after, e, add-one);
        }
