-- Which port models are ports.
use Rattle.std.specs.Prelude.{◌<◌, ◌≤◌, length}
use Rattle.port.specs.Limits.{In, Marked, Rise, MovesExist, MovesRise, TextOk}
use Rattle.port.specs.Numbers.{most_marks, most_operations, most_stages, most_conditions, most_moves, most_requests}
use Rattle.port.specs.Model.{Model, RequestModel}

pub record Valid (m : Model) : Type 0 where
  pub marks_some : 0 < m.header.marks
  pub marks_few : m.header.marks ≤ most_marks
  pub operations_some : 0 < m.header.operations
  pub operations_few : m.header.operations ≤ most_operations
  pub stages_some : 0 < m.header.stages
  pub stages_few : m.header.stages ≤ most_stages
  -- the start stage and the start condition exist
  pub stage : m.header.stage < m.header.stages
  pub start : m.header.condition < length m.conditions
  pub conditions_few : length m.conditions ≤ most_conditions
  pub conditions_marked : Marked m.header.marks m.conditions
  pub conditions_rise : Rise m.conditions
  pub moves_few : length m.moves ≤ most_moves
  pub moves_exist : MovesExist (length m.conditions) m.header.operations m.moves
  pub moves_rise : MovesRise m.moves
  pub requests_few : length m.requests ≤ most_requests
  pub requests_staged : (q : RequestModel) → In q m.requests → (q.from < m.header.stages) × (q.to < m.header.stages)
  pub requests_worded : (q : RequestModel) → In q m.requests → TextOk m.header.marks q.keep × TextOk m.header.marks q.reach
