use Rattle.search.specs.Groups.{Left, Lowered}
use Rattle.costs.specs.Compare.{shown}
use Rattle.tables.specs.Tables.{looked}
use Rattle.search.proofs.known.Known.cheapest.Given as goal

abbrev pub invariant-loop-group : goal.invariant-loop-group
invariant-loop-group g l =
    let k = g.C.CostModel in
    Left l.moves l.group-iterator.rest.now × Lowered k.model (looked k.exact l.self.costs.now) l.moves l.group-iterator.rest.now (shown k.exact l.low)
