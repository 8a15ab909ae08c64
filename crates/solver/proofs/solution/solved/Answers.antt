use Rattle.std.proofs.Common.{ℕ, List, map, get_or, vec_items, ap, ◌∙◌}
use Rattle.port.specs.Model.{model_of}
use Rattle.plans.specs.Domains.{domain_of}
use Rattle.plans.proofs.Formed.{port_formed}
use Rattle.solver.specs.Choices.{choice_entry, exact_of}
use Rattle.solver.specs.Solving.{largest_of, start_of, zeros}
use Rattle.solver.proofs.Solutions.{worked_tabled}
use Rattle.solver.proofs.solution.solved.Goals as goal

pub returns : goal.returns
returns g c =
    let k = g.C.CostModel.model in
    let e = g.C.CostModel.exact in
    let p = c.args.port.now in
    let start = start_of (model_of p) in
    let same = c.deref-3.ensures.value in
    let told = c.summarize-summary.ensures in
    worked_tabled k e (domain_of (model_of p)) (port_formed p) (vec_items c.in_ok-choices.field-0.choices) (vec_items c.in_ok-choices.field-0.ranks) c.in_ok-choices.ensures
    (vec_items c.in_ok-entries.entries) (vec_items c.in_ok-costs.costs)
    (c.in_ok-entries.ensures ∙ ap (λ cs. map choice_entry cs) c.deref.ensures.value)
    (c.in_ok-costs.ensures ∙ ap (λ cs. map (exact_of k e) cs) c.deref-2.ensures.value)
    start c.summarize-summary.result (told.kept ∙ ap zeros same) (told.rounds ∙ ap largest_of same) (told.start ∙ ap (λ (rs : List ℕ). get_or rs start 0) same)
