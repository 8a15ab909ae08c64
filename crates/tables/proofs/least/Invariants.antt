use Rattle.tables.specs.Tables.{LeastOf}
use Rattle.tables.proofs.least.Given as goal

abbrev pub invariant-loop-condition : goal.invariant-loop-condition
invariant-loop-condition g l = let k = g.C.CostModel in LeastOf k.model k.exact l.offers l.condition l.best
