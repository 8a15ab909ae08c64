use Rattle.std.proofs.Common.{◌≡◌, ℕ, ◌+◌, List, [], ◌∷◌, get_or, ap, arith}
use Rattle.costs.proofs.Sums.{moves_count}
use Rattle.costs.proofs.models.MoveCountCostModel.TheImpl.Goals as goal

pub join-tells : goal.join-tells
join-tells c h =
    let first = ap (λ (xs : List ℕ). get_or xs 0 0) h.same in
    let count = moves_count h.moves in
    let short = h.short in
    let sum : c.result.moves ≡ c.args.c.moves + 1 = c.ensures.joined (omega arith) in
    ap {B = List ℕ} (λ n. n ∷ []) sum
