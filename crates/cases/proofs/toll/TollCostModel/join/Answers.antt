use Rattle.std.proofs.Common.{◌≡◌, ℕ, ◌+◌, List, [], ◌∷◌, get_or, ap, arith}
use Rattle.cases.proofs.Tolls.{toll_bound}
use Rattle.cases.proofs.toll.TollCostModel.join.Goals as goal

pub returns : goal.returns
returns c h =
    let first = ap (λ (xs : List ℕ). get_or xs 0 0) h.same in
    let bound = toll_bound h.moves h.small in
    let sum : c.saturating_add-total.result ≡ c.args.c.total + (c.args.m.now.minutes + 1) = omega arith in
    ap {B = List ℕ} (λ n. n ∷ []) sum
