-- OrderRight determines the order: place by place, the same line comes next.
-- Assumes nothing.
use Prim.Native.Nat.{ℕ, zero, suc, ◌<◌, ◌≤◌}
use mathlib.Core.Path.{◌≡◌, sym, ◌∙◌, ap}
use mathlib.Core.List.{List}
use native.Mathlib.Omega.{arith}
use native.Mathlib.Nat.{not-suc-le-zero}
use lib.ListN.{length}
use lib.Seq.{ext_get_or}
use Rattle.rules.specs.Plan.{Activity}
use Rattle.rules.specs.Outcomes.{no_activity}
use Rattle.rules.specs.OrderRight.{nth_activity, OrderRight}
use Rattle.rules.proofs.Tests.{last_or}
use Rattle.rules.proofs.Cases.{by_order, from_or}

module _ (xs : List Activity) where
  -- line i comes no later than line j: "by priority, lowest number first, then by line"
  abbrev NoLater : ℕ → ℕ → Type 0
  NoLater i j = ((nth_activity xs i).priority ≤ (nth_activity xs j).priority) × ((nth_activity xs i).priority ≡ (nth_activity xs j).priority → i ≤ j)

  -- a line comes no later than those at the places after it
  no_later : (ys : List Activity) (O : OrderRight xs ys) (k m : ℕ) → k ≤ m → m < length ys → NoLater (O.line k) (O.line m)
  no_later ys O k m l h =
      from_or (λ m. m < length ys → NoLater (O.line k) (O.line m)) k m l
      (λ _. omega arith)
      (λ g i. rw (← O.same k (omega arith), ← O.same m i) (O.rising k m g i, λ e. omega (arith, O.then k m g i e)))
      h

  -- where two orders have the same lines before place k, the one's line there comes no later than the other's, which it has there or after it
  next : (ys zs : List Activity) (O : OrderRight xs ys) (Q : OrderRight xs zs) (k : ℕ) → k < length xs → ((j : ℕ) → j < k → O.line j ≡ Q.line j) → NoLater (O.line k) (Q.line k)
  next ys zs O Q k h e =
      let w = O.all (Q.line k) (Q.known k (omega arith)) in
      by_order w.0 k
      (λ l. absurd (Q.once w.0 k l (omega arith) (sym (e w.0 l) ∙ w.2)))
      (λ l. rw w.2 at (no_later ys O k w.0 l w.1))

  module _ (ys zs : List Activity) (O : OrderRight xs ys) (Q : OrderRight xs zs) where
    same_lines : (n : ℕ) → n ≤ length xs → (k : ℕ) → k < n → O.line k ≡ Q.line k
    same_lines zero h k l = absurd (not-suc-le-zero l)
    same_lines (suc n) h k l =
        let earlier : (j : ℕ) → j < n → O.line j ≡ Q.line j = same_lines n (omega arith) in
        let one = next ys zs O Q n h earlier in
        let other = next zs ys Q O n h (λ j g. sym (earlier j g)) in
        last_or (λ k. O.line k ≡ Q.line k) n k l (omega (arith, one.1 (omega arith), other.1 (omega arith))) (earlier k)

    -- two lists that are right are one
    pub order_same : ys ≡ zs
    order_same =
        ext_get_or no_activity ys zs (O.count ∙ sym Q.count) (λ k h.
        O.same k h ∙ ap (nth_activity xs) (same_lines (length xs) (omega arith) k (omega arith)) ∙ sym (Q.same k (omega arith)))
