use Rattle.std.proofs.Common.{◌<◌, length, ap, ◌∙◌, arith}
use Rattle.rounds.specs.Rounds.{domain_in}
use Rattle.rounds.proofs.Turns.{turned_start, turn_ends, turn_fresh, turn_leaves, turn_rows, turn_wide, turned_more}
use Rattle.rounds.proofs.judging.take_turns.Goals as goal

pub loop-task-init : goal.loop-task-init
loop-task-init c = turned_start (domain_in c.args.index.now) c.args.tasks.now c.args.stages.now c.requires

pub offset_bounds-stages-task : goal.offset_bounds-stages-task
offset_bounds-stages-task c =
    let l : c.loop-task.task-index < length c.loop-task.tasks = omega arith in
    let ends = turn_ends c.args.index.now c.requires c.loop-task.invariant l c.task-item.result in
    let leaves = turn_leaves c.args.index.now c.requires c.loop-task.invariant l c.task-item.result in
    record { fits = omega (arith, ends.0, leaves, ends.1) }

pub bounds-stages-task : goal.bounds-stages-task
bounds-stages-task c =
    let l : c.loop-task.task-index < length c.loop-task.tasks = omega arith in
    let ends = turn_ends c.args.index.now c.requires c.loop-task.invariant l c.task-item.result in
    let leaves = turn_leaves c.args.index.now c.requires c.loop-task.invariant l c.task-item.result in
    omega (arith, ends.0, leaves)

pub refresh-requires-clause-wide : goal.refresh-requires-clause-wide
refresh-requires-clause-wide c =
    let l : c.loop-task.task-index < length c.loop-task.tasks = omega arith in
    turn_wide c.args.index.now c.requires c.loop-task.invariant l c.task-item.result c.index-stages-task.result

pub refresh-requires-clause-fresh : goal.refresh-requires-clause-fresh
refresh-requires-clause-fresh c =
    let l : c.loop-task.task-index < length c.loop-task.tasks = omega arith in
    turn_fresh c.args.index.now c.requires c.loop-task.invariant l c.task-item.result c.index-stages-task.result

pub offset_bounds-stages-task-in-loop-task : goal.offset_bounds-stages-task-in-loop-task
offset_bounds-stages-task-in-loop-task c =
    let l : c.loop-task.task-index < length c.loop-task.tasks = omega arith in
    let ends = turn_ends c.args.index.now c.requires c.loop-task.invariant l c.task-item.result in
    let leaves = turn_leaves c.args.index.now c.requires c.loop-task.invariant l c.task-item.result in
    record { fits = omega (arith, leaves, ends.1, c.in_ok-refresh.ensures.same.from) }

pub bounds-stages-task-in-loop-task : goal.bounds-stages-task-in-loop-task
bounds-stages-task-in-loop-task c =
    let l : c.loop-task.task-index < length c.loop-task.tasks = omega arith in
    omega (arith, turn_leaves c.args.index.now c.requires c.loop-task.invariant l c.task-item.result, c.in_ok-refresh.ensures.same.from)

pub narrow-requires : goal.narrow-requires
narrow-requires c =
    let l : c.loop-task.task-index < length c.loop-task.tasks = omega arith in
    ap length c.deref.ensures.value
    ∙ turn_rows c.args.index.now c.requires c.loop-task.invariant l c.task-item.result c.index-stages-task.result c.refresh.new.self c.in_ok-refresh.ensures.same c.in_ok-refresh.ensures.fresh c.index-stages-task-in-loop-task.result

pub loop-task-preserved : goal.loop-task-preserved
loop-task-preserved c =
    let l : c.loop-task.task-index < length c.loop-task.tasks = omega arith in
    turned_more c.args.index.now c.requires c.loop-task.invariant l c.task-item.result c.index-stages-task.result
    c.refresh.new.self c.in_ok-refresh.ensures.same c.in_ok-refresh.ensures.fresh c.index-stages-task-in-loop-task.result c.narrow.new.self
    (rw c.deref.ensures.value at c.narrow.ensures)
