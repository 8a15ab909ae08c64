use Rattle.std.proofs.Common.{vec_items}
use Rattle.rounds.specs.Rounds.{domain_in}
use Rattle.solver.proofs.Choosing.{ChosenTo}
use Rattle.solver.proofs.policy.choose_all.Given as goal

abbrev pub invariant-loop-task : goal.invariant-loop-task
invariant-loop-task g l = ChosenTo g.C.CostModel.model g.C.CostModel.exact (domain_in l.index) (vec_items l.choices) l.task-index
