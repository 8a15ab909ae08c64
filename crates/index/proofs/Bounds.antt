-- What a port's limits give of its moves.
use Rattle.std.proofs.Common.{◌≡◌, ℕ, ◌<◌, ◌≤◌, List, length, vec_items, vec_len, ap, ⊎_elim, arith}
use Rattle.std.specs.List.Sorted.{IsNonDecreasingBy}
use Rattle.std.proofs.lemmas.List.Sorted.{IsNonDecreasingBy-from_default}
use Rattle.std.proofs.lemmas.Bool.{cases_lt}
use Rattle.port.specs.Limits.{In, at, no_move, key, Limited, MovesExist, MovesRise}
use Rattle.port.specs.declared.Move.{Move}
use Rattle.port.specs.declared.held.Port.{Port}
use Rattle.plans.specs.Plans.{Within}
use Rattle.index.specs.Indexed.{count_of, moves_of, port_of}
use Rattle.index.specs.declared.MoveIndex.{MoveIndex}
use Rattle.index.proofs.Lists.{in_each}

-- an operation of a port is one of 256
pub exist_wide : (n o : ℕ) (ms : List Move) → o ≤ 32 → MovesExist n o ms → MovesExist n 256 ms
exist_wide n o ms few exist i l = let e = exist i l in let p = e.1 in (e.0, omega arith, e.2)

module _ (n : ℕ) (ms : List Move) (few : n ≤ 256) (exist : MovesExist n 256 ms) (rise : MovesRise ms) where
  keys : (i j : ℕ) → i ≤ j → j < length ms → key (at ms i) ≤ key (at ms j)
  keys i j h l = ⊎_elim (λ q. let x = rise i j q l in omega arith) (λ q. let e : i ≡ j = omega arith in let x = ap (λ k. key (at ms k)) e in omega arith) (cases_lt i j)

  -- conditions rise
  pub conditions_rise : (i j : ℕ) → i ≤ j → j < length ms → (at ms i).condition ≤ (at ms j).condition
  conditions_rise i j h l =
      let x = keys i j h l in
      let e = exist j l in
      let o = e.1 in
      let d = e.2 in
      let small = few in
      omega arith

pub index_within : (index : MoveIndex) → Within (count_of index) (moves_of index)
index_within index = in_each no_move (λ m. (m.condition < count_of index) × (m.outcome < count_of index)) (moves_of index) (λ i l. let e = (port_of index).moves_exist i l in (e.0, e.2))

pub index_limited : (index : MoveIndex) (m : Move) → In m (moves_of index) → Limited m
index_limited index = in_each no_move Limited (moves_of index) (λ i l.
    let exist = (port_of index).moves_exist i l in
    let condition = exist.0 in
    let operation = exist.1 in
    let outcome = exist.2 in
    let conditions = (port_of index).conditions_few in
    let operations = (port_of index).operations_few in
    (omega arith, omega arith, omega arith, index.timed i l))

pub port_exist : (p : Port) → MovesExist (vec_len p.conditions) 256 (vec_items p.moves)
port_exist p = exist_wide (vec_len p.conditions) p.header.operations (vec_items p.moves) p.operations_few p.moves_exist

-- the moves of a port stand in their order
pub port_keys : (p : Port) → IsNonDecreasingBy key (vec_items p.moves)
port_keys p = IsNonDecreasingBy-from_default key (vec_items p.moves) no_move (keys (vec_len p.conditions) (vec_items p.moves) p.conditions_few (port_exist p) p.moves_rise)
