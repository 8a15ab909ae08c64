use Rattle.search.specs.Groups.{Topped}
use Rattle.costs.specs.Compare.{shown}
use Rattle.tables.specs.Tables.{looked}
use Rattle.search.proofs.known.Known.worst.Given as goal

abbrev pub invariant-loop-m : goal.invariant-loop-m
invariant-loop-m g l = let k = g.C.CostModel in Topped k.model (looked k.exact l.self.costs.now) l.moves l.m-index (shown k.exact l.top)
