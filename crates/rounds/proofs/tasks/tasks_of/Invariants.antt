use Rattle.std.proofs.Common.{take, vec_items}
use Rattle.std.specs.List.{AllZip}
use Rattle.port.specs.Model.{request_model}
use Rattle.port.specs.declared.Request.{Request}
use Rattle.rounds.specs.Tasks.{IsTask}
use Rattle.rounds.specs.declared.tasks.Task.{Task}
use Rattle.rounds.proofs.tasks.tasks_of.Given as goal

abbrev pub invariant-loop-request : goal.invariant-loop-request
invariant-loop-request l =
    AllZip (λ (q : Request) (t : Task). IsTask l.port.header.marks (vec_items l.port.conditions) (request_model q) t)
    (take l.request-index (vec_items l.port.requests)) (vec_items l.tasks)
