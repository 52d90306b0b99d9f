-- A list whose slots behind its items hold one value is known by its items.
use Rattle.std.specs.Prelude.{ℕ, ◌≡◌, ◌-◌, ◌≤◌, List, ◌++◌, length, take, drop, replicate}
use Rattle.std.proofs.Common.{arith, sym, ap, ◌∙◌, take-append-drop, length-take-le}

pub filled : {A : Type 0} (b : A) (n count : ℕ) (slots : List A) → count ≤ n → length slots ≡ n → drop count slots ≡ replicate (n - count) b → take count slots ++ replicate (n - length (take count slots)) b ≡ slots
filled b n count slots few whole behind =
    let k : length (take count slots) ≡ count = length-take-le count slots (omega (arith, few, whole)) in
    ap (λ m. take count slots ++ replicate (n - m) b) k ∙ ap (λ r. take count slots ++ r) (sym behind) ∙ take-append-drop count slots
