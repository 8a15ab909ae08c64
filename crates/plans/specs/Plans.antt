-- Plans and their runs.
use Rattle.std.specs.Prelude.{◌≡◌, ℕ, ◌<◌, Bool, true, List, [], ◌∷◌}
use Rattle.port.specs.Limits.{In}
use Rattle.port.specs.declared.Move.{Move}

-- Each move leads from a condition below n to one.
abbrev pub Within : ℕ → List Move → Type 0
Within n moves = (m : Move) → In m moves → (m.condition < n) × (m.outcome < n)

-- A plan is a finite tree: stop, or work an operation and go on as its outcome says.
pub data Plan : Type 0 where
  stop : Plan
  work : (operation : ℕ) → (next : ℕ → Plan) → Plan

-- The moves that operation o may make in condition c.
abbrev pub Can : List Move → ℕ → ℕ → Move → Type 0
Can moves c o m = In m moves × (m.condition ≡ c) × (m.operation ≡ o)

-- Operation o is possible in condition c.
abbrev pub Possible : List Move → ℕ → ℕ → Type 0
Possible moves c o = (m : Move) × Can moves c o m

-- A run of a plan from condition c: the moves of one way through it, to the end.
abbrev pub IsRun : List Move → Plan → ℕ → List Move → Type 0
IsRun moves stop c [] = Unit {0}
IsRun moves stop c (m ∷ ms) = ⊥
IsRun moves (work o next) c [] = ⊥
IsRun moves (work o next) c (m ∷ ms) = Can moves c o m × IsRun moves (next m.outcome) m.outcome ms

-- The last condition of a run from c.
abbrev pub end : ℕ → List Move → ℕ
end c [] = c
end c (m ∷ ms) = end m.outcome ms

-- Each operation that the plan works is possible where it is worked.
abbrev pub Works : List Move → Plan → ℕ → Type 0
Works moves stop c = Unit {0}
Works moves (work o next) c =
    Possible moves c o × ((m : Move) → Can moves c o m → Works moves (next m.outcome) m.outcome)

-- On every run of the plan from c, `keep` holds in every condition passed but the last, and `goal` in the last.
abbrev pub Attains : List Move → (ℕ → Bool) → (ℕ → Bool) → Plan → ℕ → Type 0
Attains moves keep goal plan c =
    Works moves plan c
    × ((ms : List Move) → IsRun moves plan c ms → ((m : Move) → In m ms → keep m.condition ≡ true) × (goal (end c ms) ≡ true))
