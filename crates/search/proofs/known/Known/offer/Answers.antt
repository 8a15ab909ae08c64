use Rattle.search.proofs.Few.{after_open}
use Rattle.index.proofs.Bounds.{index_within}
use Rattle.index.specs.Indexed.{count_of, moves_of}
use Rattle.std.proofs.Math.Logic.{∥∥₁_map}
use Rattle.costs.specs.Compare.{shown}
use Rattle.tables.specs.Tables.{looked}
use Rattle.plans.specs.Flags.{has}
use Rattle.index.specs.Indexed.{moves_of}
use Rattle.search.proofs.Steps.{offered_from}
use Rattle.search.proofs.known.Known.offer.Goals as goal

pub returns-then-is_open : goal.returns-then-is_open
returns-then-is_open g c =
    let k = g.C.CostModel in
    let known = c.args.self.now in
    let open-here = c.is_open.ensures.0 c.if-is_open.true in
    offered_from k.model (looked k.exact known.costs.now) (moves_of known.index.now) c.args.c c.moves_from.result.now c.moves_from.ensures.from (has known.keep.now) (shown k.exact c.cheapest.result) open-here.0 open-here.1 c.cheapest.ensures

pub cheapest-requires-clause-few : goal.cheapest-requires-clause-few
cheapest-requires-clause-few g c =
    let k = g.C.CostModel in
    let known = c.args.self.now in
    let index = known.index.now in
    let open-here = c.is_open.ensures.0 c.if-is_open.true in
    ∥∥₁_map known.spare (λ spare. after_open k.model k.exact known.costs.now (count_of index) (moves_of index) (index_within index) c.args.c c.moves_from.result.now c.moves_from.ensures.from spare open-here.0)
