use Rattle.std.proofs.Common.{◌≡◌, ◌++◌, length, vec_items, sym, ap, ◌∙◌, zero-mul, arith}
use Rattle.std.proofs.lemmas.Result.{err_from_is_err_and}
use Rattle.plans.specs.Simulation.{Domain}
use Rattle.index.specs.Indexed.{port_of}
use Rattle.rounds.specs.Rounds.{domain_in}
use Rattle.solver.proofs.Choosing.{chosen_more, chosen_all, searched_row}
use Rattle.solver.proofs.policy.choose_all.Goals as goal

pub loop-task-init : goal.loop-task-init
loop-task-init g c =
    let D : Domain = domain_in c.args.index.now in
    (ap length c.new-choices.ensures.items ∙ sym (zero-mul D.conditions), λ j l. absurd (omega arith))

pub loop-task-preserved : goal.loop-task-preserved
loop-task-preserved g c =
    let D : Domain = domain_in c.args.index.now in
    let a = rw (c.deref.ensures.value, c.deref-in-loop-task.ensures.value, (port_of c.args.index.now).conditions.ok.0) at c.in_ok-row.ensures in
    chosen_more g.C.CostModel.model g.C.CostModel.exact D (vec_items c.loop-task.choices) (vec_items c.in_ok-row.row)
    (vec_items c.extend_from_slice.new.self) c.loop-task.task-index
    (c.in_ok-extend_from_slice.ensures.items ∙ ap (λ xs. vec_items c.loop-task.choices ++ xs) c.deref-in-loop-task-2.ensures.value)
    c.loop-task.invariant a.sized
    (searched_row g.C.CostModel.model g.C.CostModel.exact D c.args.tasks.now c.loop-task.task-index c.task-item.result (vec_items c.in_ok-row.row)
    c.requires.keep c.requires.goals c.loop-task-test.true c.task-item.is a)

pub returns-in_err-extend_from_slice : goal.returns-in_err-extend_from_slice
returns-in_err-extend_from_slice g c =
    let p = err_from_is_err_and c.from_residual-in_err-extend_from_slice.result c.from_residual-in_err-extend_from_slice.ensures.1 in
    rw p.1 tt

pub returns : goal.returns
returns g c =
    let D : Domain = domain_in c.args.index.now in
    let e : c.loop-task.task-index ≡ length D.tasks = omega (arith, c.loop-task.auto.task-index-end, c.loop-task-test.false, c.requires.keep.many) in
    chosen_all g.C.CostModel.model g.C.CostModel.exact D (vec_items c.loop-task.choices) c.loop-task.task-index e c.loop-task.invariant
