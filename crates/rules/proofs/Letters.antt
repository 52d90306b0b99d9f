-- The letters of a refusal, over any test of a condition at a start.
use Prim.Native.Nat.{ℕ, zero, suc, ◌+◌, ◌-◌, ◌^◌, ◌<◌, ◌≤◌}
use mathlib.Core.Path.{◌≡◌, refl, sym, ◌∙◌, ap}
use mathlib.Core.Logic.{◌≢◌, ◌↔◌}
use mathlib.Core.Bool.{Bool, true, false, cond}
use native.Mathlib.Omega.{arith}
use native.Mathlib.Nat.{not-suc-le-zero, add-zero, add-suc}
use lib.Dec.{ltb}
use borrow.Author.Tests.{ltb-true, ltb-false}
use Rattle.rules.specs.Conditions.{condition_count, all_conditions, has, meets_set}
use Rattle.rules.specs.Answer.{common, kept, letters}
use Rattle.rules.proofs.Tests.{ever_at, ever_found, ever_none, last_or}
use Rattle.rules.proofs.Sets.{left_out, others, kept_of, other_of, to_kept, meets_at, meets_all, all_of_them}

module _ (test : ℕ → ℕ → Bool) (n : ℕ) where
  -- fewer conditions keep a start in common
  fewer : (m l : ℕ) → ((c : ℕ) → c < condition_count → has l c ≡ true → has m c ≡ true) → common test n m ≡ true → common test n l ≡ true
  unfolding common
  fewer m l f e =
      let w = ever_found (meets_set test m) n e in
      ever_at (meets_set test l) n w.0 w.1 (meets_all test l w.0 (λ c h g. meets_at test m w.0 c w.2 h (f c h g)))

  -- the set m when the first c letters have been gone through
  record Left (c m : ℕ) : Type 0 where
    small : m ≤ all_conditions
    none : common test n m ≡ false
    needed : (b : ℕ) → b < c → has m b ≡ true → common test n (m - 2 ^ b) ≡ true
    ahead : (b : ℕ) → c ≤ b → b < condition_count → has m b ≡ true

  step : (c m : ℕ) → c < condition_count → Left c m → (t : Bool) → common test n (m - 2 ^ c) ≡ t → Left (suc c) (cond t m (m - 2 ^ c))
  step c m h L true e =
      record {
        small = L.small;
        none = L.none;
        needed = λ b g. last_or (λ i. has m i ≡ true → common test n (m - 2 ^ i) ≡ true) c b g (λ _. e) (L.needed b);
        ahead = λ b g. L.ahead b (omega arith);
      }
  step c m h L false e =
      let mine : has m c ≡ true = L.ahead c (omega arith) h in
      record {
        small = omega (arith, L.small);
        none = e;
        needed = λ b g f.
            let other : b ≢ c = other_of m c b mine f in
            let below : b < c = omega arith in
            let its : has m b ≡ true = kept_of m c b mine f in
            fewer (m - 2 ^ b) (m - 2 ^ c - 2 ^ b) (λ d k x.
            to_kept m b d its
            (kept_of m c d mine (kept_of (m - 2 ^ c) b d f x))
            (other_of (m - 2 ^ c) b d f x))
            (L.needed b below its);
        ahead = λ b g k. to_kept m c b mine (L.ahead b (omega arith) k) (omega arith);
      }

  left : (c : ℕ) → c ≤ condition_count → common test n all_conditions ≡ false → Left c (kept test n c)
  unfolding kept
  left zero h e = record { small = omega arith; none = e; needed = λ b g. absurd (not-suc-le-zero g); ahead = λ b _ g. all_of_them b g }
  left (suc c) h e = step c (kept test n c) h (left c (omega arith) e) (common test n (kept test n c - 2 ^ c)) refl

  -- where no start is valid
  module _ (e : common test n all_conditions ≡ false) where
    -- going through later letters changes nothing of the earlier
    later : (b j c : ℕ) → b + j ≤ condition_count → c < b → has (kept test n (b + j)) c ≡ has (kept test n b) c
    unfolding kept
    later b zero c h k = rw add-zero
    later b (suc j) c h k =
        let L : Left (b + j) (kept test n (b + j)) = left (b + j) (omega arith) e in
        let same : has (kept test n (b + j) - 2 ^ (b + j)) c ≡ has (kept test n (b + j)) c = others (kept test n (b + j)) (b + j) c (L.ahead (b + j) (omega arith) (omega arith)) (omega arith) in
        rw add-suc (dropped (common test n (kept test n (b + j) - 2 ^ (b + j))) (kept test n (b + j)) (2 ^ (b + j)) c same ∙ later b j c (omega arith) k)
      where
        dropped : (t : Bool) (m d c : ℕ) → has (m - d) c ≡ has m c → has (cond t m (m - d)) c ≡ has m c
        dropped true m d c q = refl
        dropped false m d c q = q

    -- at its turn, letter b stays exactly when the others kept have a start in common
    at_turn : (b : ℕ) → b < condition_count → has (kept test n (suc b)) b ≡ common test n (kept test n b - 2 ^ b)
    unfolding kept
    at_turn b h =
        let L : Left b (kept test n b) = left b (omega arith) e in
        go (kept test n b) (L.ahead b (omega arith) h) (common test n (kept test n b - 2 ^ b))
      where
        go : (m : ℕ) → has m b ≡ true → (t : Bool) → has (cond t m (m - 2 ^ b)) b ≡ t
        go m q true = q
        go m q false = left_out m b q

    -- a letter gone through is settled
    settled : (b c : ℕ) → b ≤ condition_count → c < b → has (letters test n) c ≡ has (kept test n b) c
    unfolding letters
    settled b c h k =
        let all : b + (condition_count - b) ≡ condition_count = omega arith in
        sym (ap (λ (d : ℕ). has (kept test n d) c) all) ∙ later b (condition_count - b) c (omega arith) k

    -- what is kept at letter b's turn: of the earlier letters those that stay, and all the others
    kept_then : (b c : ℕ) → b < condition_count → c < condition_count → (c < b → has (letters test n) c ≡ true) → has (kept test n b) c ≡ true
    kept_then b c h k f = go (ltb c b) refl
      where
        go : (t : Bool) → ltb c b ≡ t → has (kept test n b) c ≡ true
        go true q = sym (settled b c (omega arith) (ltb-true c b q)) ∙ f (ltb-true c b q)
        go false q = (left b (omega arith) e).ahead c (ltb-false c b q) k

    -- a letter is in the answer exactly when, at its turn, the others kept have a start in common
    pub turn : (b : ℕ) → b < condition_count → (has (letters test n) b ≡ true) ↔ ((s : ℕ) × (s < n) × ((c : ℕ) → c < condition_count → c ≢ b → (c < b → has (letters test n) c ≡ true) → test c s ≡ true))
    unfolding common
    turn b h =
        let L : Left b (kept test n b) = left b (omega arith) e in
        let mine : has (kept test n b) b ≡ true = L.ahead b (omega arith) h in
        let stays : has (letters test n) b ≡ common test n (kept test n b - 2 ^ b) = settled (suc b) b h (omega arith) ∙ at_turn b h in (
          λ q.
              let w = ever_found (meets_set test (kept test n b - 2 ^ b)) n (sym stays ∙ q) in
              (w.0, w.1, λ c k o f. meets_at test (kept test n b - 2 ^ b) w.0 c w.2 k (to_kept (kept test n b) b c mine (kept_then b c h k f) o)),
          λ w. stays ∙ ever_at (meets_set test (kept test n b - 2 ^ b)) n w.0 w.1
              (meets_all test (kept test n b - 2 ^ b) w.0 (λ c k q.
              w.2 c k (other_of (kept test n b) b c mine q) (λ l. settled b c (omega arith) l ∙ kept_of (kept test n b) b c mine q))),
        )

  -- a set whose conditions have no start in common, and have one without any one of them
  pub record Least (m : ℕ) : Type 0 where
    pub small : m ≤ all_conditions
    pub none : (s : ℕ) → s < n → ((c : ℕ) → c < condition_count → has m c ≡ true → test c s ≡ true) → ⊥
    pub least : (b : ℕ) → b < condition_count → has m b ≡ true → (s : ℕ) × (s < n) × ((c : ℕ) → c < condition_count → has m c ≡ true → c ≢ b → test c s ≡ true)
    pub turn : (b : ℕ) → b < condition_count → (has m b ≡ true) ↔ ((s : ℕ) × (s < n) × ((c : ℕ) → c < condition_count → c ≢ b → (c < b → has m c ≡ true) → test c s ≡ true))

  pub letters_least : common test n all_conditions ≡ false → Least (letters test n)
  unfolding common
  letters_least e =
      let m : ℕ = letters test n in
      let L : Left condition_count m = unfold letters in (left condition_count (omega arith) e) in
      record {
        small = L.small;
        none = λ s h f. ever_none (meets_set test m) n s L.none h (meets_all test m s f);
        least = λ b h q.
            let w = ever_found (meets_set test (m - 2 ^ b)) n (L.needed b h q) in
            (w.0, w.1, λ c k f o. meets_at test (m - 2 ^ b) w.0 c w.2 k (to_kept m b c q f o));
        turn = turn e;
      }
