-- W: a start is allowed where there is no window, or one of them has it.
-- Assumes nothing.
use Rattle.std.proofs.Common.{◌≡◌, ℕ, true, ◌&&◌, ◌||◌, List, [], ◌∷◌, leb, length, map, refl, ap, arith}
use Rattle.std.specs.List.{list_any}
use Rattle.items.specs.declared.Item.{Item}
use Rattle.rules.specs.Tests.{any_of}
use Rattle.rules.specs.MeetsW.{inside, allowed}
use Rattle.activity.specs.View.{window_of}

any_window : (ws : List Item) (s : ℕ) → list_any (λ (w : Item). leb w.first s && leb s w.third) ws ≡ any_of (inside s) (map window_of ws)
unfolding any_of inside
any_window [] s = refl
any_window (w ∷ ws) s = ap (λ b. (leb w.first s && leb s w.third) || b) (any_window ws s)

pub allowed_none : (ws : List Item) (s : ℕ) → length ws ≡ 0 → allowed (map window_of ws) s ≡ true
unfolding allowed
allowed_none [] s e = refl
allowed_none (w ∷ ws) s e = absurd (omega arith)

pub allowed_some : (ws : List Item) (s : ℕ) → (length ws ≡ 0 → ⊥) → list_any (λ (w : Item). leb w.first s && leb s w.third) ws ≡ allowed (map window_of ws) s
unfolding allowed
allowed_some [] s e = absurd (e refl)
allowed_some (w ∷ ws) s e = any_window (w ∷ ws) s
