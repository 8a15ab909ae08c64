use Rattle.std.proofs.Common.{vec_items, ap, ◌∙◌, subst}
use Rattle.std.specs.List.{flat_map}
use Rattle.plans.specs.Domains.{domain_of}
use Rattle.plans.proofs.Formed.{port_formed}
use Rattle.port.specs.Model.{model_of}
use Rattle.port.specs.declared.held.Port.{Port}
use Rattle.index.specs.Indexed.{port_of}
use Rattle.rounds.specs.Stages.{rank_row}
use Rattle.rounds.specs.Verdicts.{Judges}
use Rattle.rounds.proofs.Ends.{going_done}
use Rattle.rounds.proofs.judging.judge.Goals as goal

pub returns-clause-told : goal.returns-clause-told
returns-clause-told c =
    let r = c.loop-rounds.rounds in
    let p : Port = port_of r.index in
    subst (λ (q : Port). Judges (domain_of (model_of q)) (vec_items r.tasks) (vec_items c.in_ok-ranks.ranks)) c.loop-rounds.invariant
    (going_done (domain_of (model_of p)) (port_formed p) (vec_items r.tasks) (vec_items r.stages) r.count r.changed r.going c.loop-rounds-test.false
    (vec_items c.in_ok-ranks.ranks) (c.in_ok-ranks.ensures ∙ ap (flat_map rank_row) c.deref.ensures.value))
