use Rattle.std.proofs.Common.{List, vec_items, sym, subst}
use Rattle.port.specs.Model.{model_of}
use Rattle.port.specs.declared.held.Port.{Port}
use Rattle.plans.specs.Domains.{domain_of}
use Rattle.rounds.specs.Verdicts.{Judges}
use Rattle.rounds.specs.declared.tasks.Task.{Task}
use Rattle.solver.specs.Choices.{Chosen}
use Rattle.solver.proofs.solution.work_out.Goals as goal

pub choose_all-requires : goal.choose_all-requires
choose_all-requires g c =
    let e = c.in_ok-index.ensures in
    let told : Judges (domain_of (model_of c.in_ok-index.field-0.index.port.now)) c.deref.result.now (vec_items c.in_ok-index.field-0.ranks) =
    subst (λ (p : Port). Judges (domain_of (model_of p)) c.deref.result.now (vec_items c.in_ok-index.field-0.ranks)) (sym e.index)
    (subst (λ (ts : List Task). Judges (domain_of (model_of c.args.port.now)) ts (vec_items c.in_ok-index.field-0.ranks)) (sym c.deref.ensures.value) e.told) in
    record { keep = told.works; goals = told.ends }

pub returns : goal.returns
returns g c =
    let e = c.in_ok-index.ensures in
    record {
      ranked = e.told.ranked;
      chosen = subst (λ (p : Port). Chosen g.C.CostModel.model g.C.CostModel.exact (domain_of (model_of p)) (vec_items c.in_ok-choices.choices)) e.index
          c.in_ok-choices.ensures;
    }
