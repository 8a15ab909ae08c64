use Rattle.std.proofs.Common.{rules, tests}
use Rattle.std.proofs.lemmas.Iterator.{YieldsList-from_map_by, YieldsList-from_slice}
use Rattle.std.proofs.lemmas.Iterator.Consumers.{map_from_collect}
use Rattle.solver.specs.Choices.{exact_of}
use Rattle.solver.proofs.write.costs_of.Goals as goal

pub returns : goal.returns
returns g c =
    let k = g.C.CostModel in
    map_from_collect _ c.collect.ensures.ran
    (YieldsList-from_map_by _ k.exact (exact_of k.model k.exact) (YieldsList-from_slice c.args.choices.now cc) c.map.ensures.closure (λ x r q called. search (rules, tests)))
