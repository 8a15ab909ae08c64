use Rattle.std.proofs.Common.{ℕ, List, [], ◌∷◌, get_or, ap, ap₂, arith}
use Rattle.costs.proofs.Sums.{minutes_count, minutes_bound}
use Rattle.costs.proofs.models.MinutesCostModel.TheImpl.Goals as goal

pub join-tells : goal.join-tells
join-tells c h =
    let first = ap (λ (xs : List ℕ). get_or xs 0 0) h.same in
    let second = ap (λ (xs : List ℕ). get_or xs 1 0) h.same in
    let count = minutes_count h.moves in
    let bound = minutes_bound h.moves h.small in
    let short = h.short in
    let told = c.ensures.joined (omega arith) (omega arith) in
    ap₂ {C = List ℕ} (λ n o. n ∷ (o ∷ [])) told.0 told.1
