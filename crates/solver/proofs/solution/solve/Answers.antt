use Rattle.std.proofs.Common.{ℕ, ◌<◌, vec_items, sym, ◌∙◌, subst, arith}
use Rattle.port.specs.Model.{model_of}
use Rattle.plans.specs.Domains.{domain_of}
use Rattle.plans.specs.Simulation.{Domain}
use Rattle.solver.specs.Solving.{pairs_of, start_of}
use Rattle.solver.proofs.Solutions.{copied_filled, copied_front, start_is, start_within}
use Rattle.solver.proofs.solution.solve.Goals as goal

pub returns : goal.returns
returns g c =
    let p = c.args.port.now in
    let D : Domain = domain_of (model_of p) in
    let t = c.in_ok-tables.tables in
    copied_filled g.C.CostModel.model g.C.CostModel.exact D (start_of (model_of p)) (vec_items t.entries) (vec_items t.costs) (vec_items t.ranks) t.summary c.in_ok-tables.ensures
    c.args.entries.now _ c.args.costs.now _ c.args.ranks.now _
    (copied_front (vec_items t.entries) c.args.entries.now c.copy_from_slice.new.self c.len.result (c.copy_from_slice.ensures.after ∙ c.deref.ensures.value) (omega (arith, c.len.ensures, t.entries.ok.0)))
    (copied_front (vec_items t.costs) c.args.costs.now c.copy_from_slice-2.new.self c.len-2.result (c.copy_from_slice-2.ensures.after ∙ c.deref-2.ensures.value) (omega (arith, c.len-2.ensures, t.costs.ok.0)))
    (copied_front (vec_items t.ranks) c.args.ranks.now c.copy_from_slice-3.new.self c.len-3.result (c.copy_from_slice-3.ensures.after ∙ c.deref-3.ensures.value) (omega (arith, c.len-3.ensures, t.ranks.ok.0)))
    (sym c.has_room.ensures ∙ c.if-not-has_room.false) (subst (λ (i : ℕ). i < pairs_of D) (start_is p) (start_within p))
