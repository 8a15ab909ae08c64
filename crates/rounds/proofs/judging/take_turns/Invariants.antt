use Rattle.rounds.specs.Rounds.{Turned, domain_in}
use Rattle.rounds.proofs.judging.take_turns.Given as goal

abbrev pub invariant-loop-task : goal.invariant-loop-task
invariant-loop-task l = Turned (domain_in l.index) l.initial.stages l.tasks l.stages l.task-index
