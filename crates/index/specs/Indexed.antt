-- The port behind an index.
use Rattle.std.specs.Prelude.{ℕ, List, vec_items, vec_len}
use Rattle.port.specs.declared.Move.{Move}
use Rattle.port.specs.declared.held.Port.{Port}
use Rattle.index.specs.declared.MoveIndex.{MoveIndex}

-- the port itself
abbrev pub port_of : MoveIndex → Port
port_of index = index.port.now

-- its moves
abbrev pub moves_of : MoveIndex → List Move
moves_of index = vec_items (port_of index).moves

-- how many conditions it has
abbrev pub count_of : MoveIndex → ℕ
count_of index = vec_len (port_of index).conditions
