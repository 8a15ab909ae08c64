use Rattle.std.proofs.Common.{vec_items, sym, subst}
use Rattle.plans.specs.Domains.{domain_of}
use Rattle.plans.proofs.Formed.{port_formed}
use Rattle.port.specs.Model.{model_of}
use Rattle.port.specs.declared.held.Port.{Port}
use Rattle.index.specs.Indexed.{port_of}
use Rattle.rounds.specs.Tasks.{DomainTasks}
use Rattle.rounds.proofs.Freshness.{tasks_told}
use Rattle.rounds.proofs.Goings.{going_start}
use Rattle.rounds.proofs.judging.Rounds.new.Goals as goal

pub invariant_of-result : goal.invariant_of-result
invariant_of-result c =
    let p : Port = port_of c.in_ok-index.index in
    record {
      going = going_start (domain_of (model_of p)) (port_formed p) (vec_items c.in_ok-tasks.tasks) (vec_items c.in_ok-stages.stages)
          (subst (λ (q : Port). DomainTasks (domain_of (model_of q)) (vec_items c.in_ok-tasks.tasks)) (sym c.in_ok-index.ensures)
          (tasks_told c.args.port.now (vec_items c.in_ok-tasks.tasks) c.in_ok-tasks.ensures))
          (rw (c.stages.ensures, c.conditions.ensures, p.conditions.ok.0) at c.in_ok-stages.ensures);
    }
