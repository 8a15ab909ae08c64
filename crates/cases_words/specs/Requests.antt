-- Requests and ports as they are held in memory.
use Rattle.std.specs.Prelude.{◌≡◌, ℕ, Bool, true, false, List, [], ◌∷◌, map, codes}
use Rattle.std.specs.Global.{Global}
use Rattle.port.specs.declared.Request.{Request}
use Rattle.port.specs.Limits.{In, Staged, KeepsWorded, ReachesWorded}
use Rattle.port.specs.Model.{RequestModel, request_model}
use Rattle.cases_words.specs.Rows.{Said}

-- requests, whether their stages are among two, and whether their keep texts and their reach texts are formulas over two marks
pub record RequestsRow : Type 0 where
  pub requests : List RequestModel
  pub staged : Bool
  pub keeps : Bool
  pub reaches : Bool

abbrev request : ℕ → ℕ → List ℕ → List ℕ → RequestModel
request from to keep reach = record { from = from; to = to; keep = keep; reach = reach }

abbrev row : List RequestModel → Bool → Bool → Bool → RequestsRow
row requests staged keeps reaches = record { requests = requests; staged = staged; keeps = keeps; reaches = reaches }

abbrev pub requests : List RequestsRow
requests =
    row [] true true true ∷
    row (request 0 1 (codes "1") (codes "a") ∷ request 1 0 (codes "!b") (codes "!a&!b") ∷ []) true true true ∷
    row (request 0 1 (codes "1") (codes "a") ∷ request 2 0 (codes "!b") (codes "!a&!b") ∷ []) false true true ∷
    row (request 0 2 (codes "1") (codes "a") ∷ []) false true true ∷
    row (request 0 1 (codes "c") (codes "a") ∷ []) true false true ∷
    row (request 0 1 (codes "1") (codes "a") ∷ request 1 0 (codes "b!") (codes "!a&!b") ∷ []) true false true ∷
    row (request 0 1 (codes "1") (codes "a&") ∷ []) true true false ∷
    row (request 0 1 (codes "1") (codes "a") ∷ request 1 0 (codes "!b") (codes "c") ∷ []) true true false ∷
    []

-- with any allocator there are such requests, and whatever they are in memory, the row says what they keep to
pub record Holds (r : RequestsRow) : Type 0 where
  pub held : Global → List Request
  pub such : (heap : Global) → map request_model (held heap) ≡ r.requests
  pub staged : (qs : List Request) → map request_model qs ≡ r.requests → Said r.staged (Staged 2 qs)
  pub keeps : (qs : List Request) → map request_model qs ≡ r.requests → Said r.keeps (KeepsWorded 2 qs)
  pub reaches : (qs : List Request) → map request_model qs ≡ r.requests → Said r.reaches (ReachesWorded 2 qs)

abbrev pub RequestsHold : Type 0
RequestsHold = (r : RequestsRow) → In r requests → Holds r
