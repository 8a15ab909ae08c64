-- Ports as they are held in memory.
use Rattle.std.specs.Prelude.{◌≡◌, Bool, true, false, List, [], ◌∷◌, codes}
use Rattle.std.specs.Global.{Global}
use Rattle.port.specs.declared.held.Port.{Port}
use Rattle.port.specs.Limits.{In}
use Rattle.port.specs.Model.{Model, model_of, first}
use Rattle.port.specs.Valid.{Valid}
use Rattle.cases_words.specs.Limits.{move}
use Rattle.cases_words.specs.Ports.{header, request, port, conditions, moves, heads, go, back, quay, moved, PortRow, yes_is, no_is}

-- with any allocator there is such a port; or there is none
abbrev pub HeldAs : Bool → Model → Type 0
HeldAs true m = (heap : Global) → (p : Port) × (model_of p ≡ m)
HeldAs false m = (p : Port) → model_of p ≡ m → ⊥

abbrev pub held : List PortRow
held =
    yes_is first ∷ yes_is quay ∷ yes_is (moved []) ∷ yes_is (port heads conditions [] []) ∷
    -- no marks; a start stage that there is not; no conditions; two that are the same; an operation that there is not; a stage;
    -- an empty text; a text that is no formula
    no_is (port (header 0 1 1 0 0) (0 ∷ []) [] []) ∷
    no_is (port (header 2 2 2 3 2) conditions moves []) ∷
    no_is (port heads [] [] []) ∷
    no_is (port heads (0 ∷ 1 ∷ 1 ∷ []) [] []) ∷
    no_is (moved (move 0 4 0 0 ∷ [])) ∷
    no_is (port heads conditions moves (go ∷ request 5 0 (codes "1") (codes "a") ∷ [])) ∷
    no_is (port heads conditions moves (back ∷ request 0 1 (codes "1") [] ∷ [])) ∷
    no_is (port heads conditions moves (request 0 1 (codes "a|") (codes "1") ∷ [])) ∷
    []

abbrev pub HeldHold : Type 0
HeldHold = (r : PortRow) → In r held → HeldAs r.holds r.port

-- and of all ports: what each holds is valid, and each valid port can be held
pub record SameLimits : Type 0 where
  pub valid : (p : Port) → Valid (model_of p)
  pub held : (heap : Global) (m : Model) → Valid m → (p : Port) × (model_of p ≡ m)
