use Rattle.search.specs.Groups.{Left, Unmet}
use Rattle.tables.specs.Tables.{looked}
use Rattle.search.proofs.known.Known.operation.Given as goal

abbrev pub invariant-loop-group : goal.invariant-loop-group
invariant-loop-group g l =
    let k = g.C.CostModel in
    Left l.moves l.group-iterator.rest.now × Unmet k.model (looked k.exact l.self.costs.now) l.moves l.group-iterator.rest.now (k.exact l.cost)
