-- What a port says, apart from how it is kept in memory.
use Rattle.std.specs.Prelude.{ℕ, List, [], ◌∷◌, map, vec_items}
use Rattle.port.specs.declared.Header.{Header}
use Rattle.port.specs.declared.Move.{Move}
use Rattle.port.specs.declared.Request.{Request}
use Rattle.port.specs.declared.held.Port.{Port}

-- a request: from a stage to a stage, with the bytes of its two texts
pub record RequestModel : Type 0 where
  pub from : ℕ
  pub to : ℕ
  pub keep : List ℕ
  pub reach : List ℕ

-- a port: its counts and where it starts, its conditions as numbers of marks, its moves and its requests
pub record Model : Type 0 where
  pub header : Header
  pub conditions : List ℕ
  pub moves : List Move
  pub requests : List RequestModel

abbrev pub request_model : Request → RequestModel
request_model q = record { from = q.from; to = q.to; keep = vec_items q.keep.bytes; reach = vec_items q.reach.bytes }

abbrev pub model_of : Port → Model
model_of p =
    record { header = p.header; conditions = vec_items p.conditions; moves = vec_items p.moves; requests = map request_model (vec_items p.requests) }

-- the port before any load: one mark, operation and stage, the condition without marks, no move and no request
abbrev pub first : Model
first =
    record { header = record { marks = 1; operations = 1; stages = 1; stage = 0; condition = 0 }; conditions = 0 ∷ []; moves = []; requests = [] }
