-- A plan as it is written: each plan has one spelling (01, The plan file).
use Rattle.std.specs.Prelude.{ℕ, List, [], ◌∷◌, ◌++◌, map}
use Rattle.rules.specs.Bytes.{bytes}
use Rattle.rules.specs.Plan.{Header, Window, Setting, Activity, Plan}
use Rattle.rules.specs.Number.{decimal}
use Rattle.rules.specs.Lines.{parted, line_of}

-- "A list is `-` when empty, else items parted by commas"
unfoldable pub list_text : {A : Type 0} → (A → List ℕ) → List A → List ℕ
list_text write [] = bytes "-"
list_text write (x ∷ xs) = parted 44 (write x ∷ map write xs)

-- `a:p:b`
unfoldable pub window_text : Window → List ℕ
window_text w = parted 58 (decimal w.from ∷ decimal w.preferred ∷ decimal w.to ∷ [])

-- `v=k`
unfoldable pub setting_text : Setting → List ℕ
setting_text x = parted 61 (decimal x.variable ∷ decimal x.value ∷ [])

unfoldable pub header_text : Header → List ℕ
header_text h =
    line_of (
    bytes "plan"
    ∷ decimal h.horizon
    ∷ decimal h.minute
    ∷ decimal h.capacity
    ∷ decimal h.floor
    ∷ decimal h.first
    ∷ decimal h.rate
    ∷ decimal h.handover
    ∷ decimal h.engines
    ∷ decimal h.peak
    ∷ decimal h.volume
    ∷ decimal h.heater
    ∷ [])

unfoldable pub activity_text : Activity → List ℕ
activity_text a =
    line_of (
    bytes "act"
    ∷ decimal a.id
    ∷ decimal a.priority
    ∷ decimal a.duration
    ∷ decimal a.preferred
    ∷ list_text window_text a.windows
    ∷ list_text decimal a.after
    ∷ list_text decimal a.units
    ∷ list_text setting_text a.needs
    ∷ list_text setting_text a.sets
    ∷ decimal a.engines
    ∷ decimal a.peak
    ∷ decimal a.draw
    ∷ decimal a.volume
    ∷ decimal a.warm
    ∷ [])

unfoldable pub activities_text : List Activity → List ℕ
activities_text [] = []
activities_text (a ∷ rest) = activity_text a ++ activities_text rest

unfoldable pub plan_text : Plan → List ℕ
plan_text p = header_text p.header ++ activities_text p.activities
