use Rattle.std.proofs.Common.{◌≡◌, ◌+◌, ◌*◌, ◌-◌}
use Rattle.plans.specs.Domains.{domain_of}
use Rattle.port.specs.Model.{model_of}
use Rattle.index.specs.Indexed.{port_of}
use Rattle.rounds.proofs.judging.judge.Given as goal

abbrev pub invariant-loop-rounds : goal.invariant-loop-rounds
invariant-loop-rounds l = port_of l.rounds.index ≡ l.port

abbrev pub decreases-loop-rounds : goal.decreases-loop-rounds
decreases-loop-rounds l = let D = domain_of (model_of l.port) in D.stages * D.conditions + 1 - l.rounds.count
