-- What drafts say: what stands in memory of a port, before every record is read.
use Rattle.std.proofs.Common.{arith}
use Rattle.std.specs.Prelude.{ℕ, ◌<◌, ◌≤◌, List, [], ◌∷◌, length, refl, codes}
use denote.RawPtr.{null_ptr}
use Rattle.std.specs.Global.{Global, Vec}
use Rattle.port.specs.declared.Header.{Header}
use Rattle.port.specs.declared.Move.{Move}
use Rattle.port.specs.declared.Request.{Request}
use Rattle.port.specs.declared.Text.{Text}
use Rattle.port.specs.Model.{Model}
use Rattle.records.specs.declared.draft.Draft.{Draft}
use Rattle.records.specs.Drafts.{draft_model}
use Rattle.cases_words.specs.Rows.{Row, gives, Shown}
use Rattle.cases_words.specs.Limits.{move}
use Rattle.cases_words.specs.Ports.{header, request, port, heads}

module _ (heap : Global) where
  -- a list in memory
  abbrev vec : {A : Type 0} (xs : List A) → length xs ≤ 4096 → Vec A
  vec xs l = record { ptr = null_ptr; len = length xs; cap = length xs; alloc = heap; items = xs; ok = (refl, omega arith); small = omega arith }

  abbrev text : (w : List ℕ) → 0 < length w → length w ≤ 63 → Text
  text w some few = record { bytes = vec w (omega (arith, few)); some = some; few = few }

  abbrev owned : (from to : ℕ) → Text → Text → Request
  owned from to keep reach = record { from = from; to = to; keep = keep; reach = reach }

  -- a request to keep to mark a and to get where mark b is not; and one the other way round
  abbrev go : Request
  go = owned 0 1 (text (codes "a") (omega arith) (omega arith)) (text (codes "!b") (omega arith) (omega arith))

  abbrev back : Request
  back = owned 1 0 (text (codes "!b") (omega arith) (omega arith)) (text (codes "a") (omega arith) (omega arith))

  abbrev draft : (h : Header) → h.marks ≤ 16 → Vec ℕ → Vec Move → Vec Request → Draft
  draft h few conditions moves requests =
      record { header = h; conditions = conditions; moves = moves; requests = requests; marks_few = few }

  abbrev conditions : Vec ℕ
  conditions = vec (0 ∷ 1 ∷ 3 ∷ []) (omega arith)

  abbrev moves : Vec Move
  moves = vec (move 0 0 1 4 ∷ move 1 1 0 0 ∷ []) (omega arith)

  -- its header, conditions, moves and requests, these with their texts; whether they make a port is not asked
  abbrev pub drafts : List (Row Model)
  drafts =
      gives (draft_model (draft heads (omega arith) (vec [] (omega arith)) (vec [] (omega arith)) (vec [] (omega arith))))
      (port heads [] [] []) (port (header 2 4 5 2 1) [] [] []) ∷
      gives (draft_model (draft (header 0 0 0 7 9) (omega arith) conditions (vec [] (omega arith)) (vec [] (omega arith))))
      (port (header 0 0 0 7 9) (0 ∷ 1 ∷ 3 ∷ []) [] []) (port (header 0 0 0 7 9) (3 ∷ 1 ∷ 0 ∷ []) [] []) ∷
      gives (draft_model (draft heads (omega arith) conditions moves (vec [] (omega arith))))
      (port heads (0 ∷ 1 ∷ 3 ∷ []) (move 0 0 1 4 ∷ move 1 1 0 0 ∷ []) []) (port heads (0 ∷ 1 ∷ 3 ∷ []) (move 1 1 0 0 ∷ move 0 0 1 4 ∷ []) []) ∷
      gives (draft_model (draft heads (omega arith) conditions moves (vec (go ∷ []) (omega arith))))
      (port heads (0 ∷ 1 ∷ 3 ∷ []) (move 0 0 1 4 ∷ move 1 1 0 0 ∷ []) (request 0 1 (codes "a") (codes "!b") ∷ []))
      (port heads (0 ∷ 1 ∷ 3 ∷ []) (move 0 0 1 4 ∷ move 1 1 0 0 ∷ []) (request 0 1 (codes "!b") (codes "a") ∷ [])) ∷
      gives (draft_model (draft heads (omega arith) conditions (vec [] (omega arith)) (vec (go ∷ back ∷ []) (omega arith))))
      (port heads (0 ∷ 1 ∷ 3 ∷ []) [] (request 0 1 (codes "a") (codes "!b") ∷ request 1 0 (codes "!b") (codes "a") ∷ []))
      (port heads (0 ∷ 1 ∷ 3 ∷ []) [] (request 0 1 (codes "a") (codes "!b") ∷ [])) ∷
      []

-- with any allocator
abbrev pub DraftsShown : Type 0
DraftsShown = (heap : Global) → Shown (drafts heap)
