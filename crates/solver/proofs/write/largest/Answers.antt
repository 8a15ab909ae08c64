use Rattle.std.proofs.Common.{ℕ, List, unwrap_or, sym, ap, ◌∙◌, map-id}
use Rattle.std.specs.List.{reduce}
use Rattle.std.specs.Ordering.{max_by_ordering, nat_cmp}
use Rattle.std.proofs.lemmas.Iterator.{YieldsList-from_slice}
use Rattle.std.proofs.lemmas.Iterator.Consumers.{reduce_from_yields_List, YieldsList-from_copied}
use Rattle.std.proofs.lemmas.List.Folds.{max_of_map}
use Rattle.solver.proofs.write.largest.Goals as goal

pub returns : goal.returns
returns c =
    let ranks = c.args.ranks.now in
    c.unwrap_or.ensures
    ∙ ap (λ o. unwrap_or o 0) (reduce_from_yields_List _ c.copied.result _ c.max.ensures.ran (YieldsList-from_copied (YieldsList-from_slice ranks cc)))
    ∙ ap (λ (xs : List ℕ). unwrap_or (reduce (λ (p z : ℕ). max_by_ordering (nat_cmp p z) p z) xs) 0) (sym (map-id ranks))
    ∙ max_of_map (λ (x : ℕ). x) ranks
