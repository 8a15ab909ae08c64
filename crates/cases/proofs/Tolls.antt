-- What a run comes to in tolls.
use Rattle.std.proofs.Common.{◌*◌, ◌≤◌, List, [], ◌∷◌, length, get_or, arith}
use Rattle.port.specs.declared.Move.{Move}
use Rattle.costs.specs.Costs.{cost, Small}
use Rattle.cases.specs.Tolls.{toll_model}

pub toll_bound : (ms : List Move) → Small ms → get_or (cost toll_model ms) 0 0 ≤ 65536 * length ms
toll_bound [] s = omega arith
toll_bound (m ∷ ms) s = let h = toll_bound ms s.1 in let l = s.0.3 in omega arith
