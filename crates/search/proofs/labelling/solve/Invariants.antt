use Rattle.std.proofs.Common.{◌-◌, vec_items}
use Rattle.search.specs.Labels.{done}
use Rattle.plans.specs.Flags.{has}
use Rattle.index.specs.Indexed.{count_of, moves_of}
use Rattle.search.specs.Steps.{SearchState}
use Rattle.search.proofs.labelling.solve.Given as goal

abbrev pub invariant-loop-label : goal.invariant-loop-label
invariant-loop-label g l =
    let k = g.C.CostModel in
    SearchState k.model k.exact (moves_of l.index) (has l.keep) (has l.goal) (count_of l.index) (vec_items l.costs) (vec_items l.offers)

abbrev pub decreases-loop-label : goal.decreases-loop-label
decreases-loop-label g l = count_of l.index - done (vec_items l.costs)
