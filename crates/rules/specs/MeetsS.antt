-- S (01, Nine conditions): "with the candidate added, every need of it and of the placed ones is met in each tick that the needing activity holds".
use Rattle.std.specs.Prelude.{ℕ, ◌+◌, Bool, cond, ◌&&◌, List, [], ◌∷◌, leb, eqb}
use Rattle.std.proofs.Math.Option.{Option, none, some}
use Rattle.rules.specs.Plan.{Header, Setting, Activity, Entry, Schedule, at, end}
use Rattle.rules.specs.Tests.{each, every}

-- a variable's value, and the tick from which it stands
pub record Standing : Type 0 where
  pub since : ℕ
  pub value : ℕ

-- the value that these sets give the variable v, if any
unfoldable pub given : List Setting → ℕ → Option ℕ
given [] v = none
given (x ∷ xs) v = cond (eqb x.variable v) (some x.value) (given xs v)

-- "A set takes effect from its activity's end": e's set of v, if in effect by t, stands over b of the earlier places unless b took effect later
unfoldable pub over : Entry → Option ℕ → ℕ → Standing → Standing
over e none t b = b
over e (some k) t b = cond (leb (end e) t && leb b.since (end e)) (record { since = end e; value = k }) b

-- "A variable is 0 at tick 0"; "the one with the latest effect tick stands; at equal ticks, that of the later place"
unfoldable pub standing : Schedule → ℕ → ℕ → Standing
standing [] v t = record { since = 0; value = 0 }
standing (e ∷ placed) v t = over e (given e.activity.sets v) t (standing placed v t)

-- the need n is met at tick t
unfoldable pub met : Schedule → ℕ → Setting → Bool
met placed t n = eqb (standing placed n.variable t).value n.value

-- over a whole schedule; "One tick at which one need is unmet spoils the start"
unfoldable pub needs_kept : Header → Schedule → Bool
needs_kept h placed = every (λ e. every (λ n. each (λ i. met placed (e.start + i) n) e.activity.duration) e.activity.needs) placed

unfoldable pub meets_s : Header → Schedule → Activity → ℕ → Bool
meets_s h placed a s = needs_kept h (at a s ∷ placed)
