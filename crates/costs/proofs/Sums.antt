-- What a run comes to in each model.
use Rattle.std.proofs.Common.{◌≡◌, ◌*◌, ◌≤◌, List, [], ◌∷◌, length, get_or, refl, arith}
use Rattle.port.specs.declared.Move.{Move}
use Rattle.costs.specs.Costs.{cost, Small}
use Rattle.costs.specs.Models.{moves_model, minutes_model}

pub moves_count : (ms : List Move) → get_or (cost moves_model ms) 0 0 ≡ length ms
moves_count [] = refl
moves_count (m ∷ ms) = let h = moves_count ms in omega arith

pub minutes_count : (ms : List Move) → get_or (cost minutes_model ms) 1 0 ≡ length ms
minutes_count [] = refl
minutes_count (m ∷ ms) = let h = minutes_count ms in omega arith

pub minutes_bound : (ms : List Move) → Small ms → get_or (cost minutes_model ms) 0 0 ≤ 65535 * length ms
minutes_bound [] s = omega arith
minutes_bound (m ∷ ms) s = let h = minutes_bound ms s.1 in let l = s.0.3 in omega arith
