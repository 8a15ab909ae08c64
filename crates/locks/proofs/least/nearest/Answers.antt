use Rattle.std.proofs.Common.{◌≡◌, ℕ, List, Option, map, option_map, ap, ◌∙◌, subst, sym, rules}
use Rattle.std.specs.Slice.Iter.{iter_rest}
use Rattle.port.specs.Model.{model_of}
use Rattle.port.specs.declared.Move.{Move}
use Rattle.std.specs.Iterator.Runs.{ItemsMapTo}
use Rattle.locks.specs.Targets.{Nearest}
use Rattle.locks.specs.Works.{change}
use Rattle.locks.proofs.Going.{nearest_of, outcome_at}
use Rattle.locks.proofs.least.nearest.Goals as goal

pub returns : goal.returns
returns c =
    let changes = change (model_of c.args.port.now) c.args.condition in
    let ms = c.moves_of-moves.result.now in
    let run = c.min_by_key.ensures.runs in
    let rest : iter_rest run.0.from ≡ ms = ap iter_rest run.1 ∙ c.iter.ensures.rest in
    let reads = subst (λ (xs : List Move). ItemsMapTo run.0 (λ y. y.now) xs) rest (c.iter.ensures.runs run.0 run.0.seen) in
    let picked = nearest_of run.0 _ _ ms changes reads run.2 (λ a k f' h. search rules) c.min_by_key.result run.3 in
    let same : c.map.result ≡ option_map outcome_at c.min_by_key.result = search rules in
    subst (λ (ds : List ℕ). Nearest changes ds c.map.result) c.moves_of-moves.ensures (subst (λ (r : Option ℕ). Nearest changes (map (λ (m : Move). m.outcome) ms) r) (sym same) picked)
