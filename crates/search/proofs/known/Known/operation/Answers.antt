use Rattle.std.proofs.Common.{sym, ap, ◌∙◌, subst, true≢false}
use Rattle.search.specs.Groups.{Left, Unmet}
use Rattle.search.specs.declared.groups.Groups.{Groups}
use Rattle.tables.specs.Tables.{looked}
use Rattle.search.proofs.Group.{unmet_none, unmet_more, unmet_all, met, left_all, left_next}
use Rattle.costs.proofs.Order.{weaken}
use Rattle.tables.proofs.Options.{looked_sized}
use Rattle.search.proofs.known.Known.operation.Goals as goal

pub loop-group-init : goal.loop-group-init
loop-group-init g c =
    let k = g.C.CostModel in
    let ms = c.args.moves.now in
    let cs = c.args.self.now.costs.now in
    let V = looked k.exact cs in
    let good = looked_sized k.model k.exact g.met.C.CostModel.sized cs in
    subst (λ rest. Left ms rest × Unmet k.model V ms rest (k.exact c.args.cost)) (sym (ap (λ (s : Groups). s.rest.now) c.into_iter-group-iterator.ensures.into_iter_gives))
    (left_all (weaken k.laws) V good ms, unmet_none (weaken k.laws) V good ms (k.exact c.args.cost))

pub returns-then-attains : goal.returns-then-attains
returns-then-attains g c =
    let k = g.C.CostModel in
    let cs = c.args.self.now.costs.now in
    met (weaken k.laws) (looked k.exact cs) (looked_sized k.model k.exact g.met.C.CostModel.sized cs) c.args.moves.now _ _ _ c.loop-group.invariant.0 c.in-Some.ensures.steps _ (c.attains.ensures.0 c.if-attains.true) c.loop-group.invariant.1

pub loop-group-preserved : goal.loop-group-preserved
loop-group-preserved g c =
    let k = g.C.CostModel in
    let ms = c.args.moves.now in
    let cs = c.args.self.now.costs.now in
    let V = looked k.exact cs in
    let good = looked_sized k.model k.exact g.met.C.CostModel.sized cs in
    let left = c.loop-group.invariant.0 in
    let splits = c.in-Some.ensures.steps in (
      left_next (weaken k.laws) V good ms _ _ _ left splits,
      unmet_more (weaken k.laws) V good ms _ _ _ left splits _ (λ w. true≢false (sym (c.attains.ensures.1 w) ∙ c.if-attains.false)) c.loop-group.invariant.1,
    )

pub returns : goal.returns
returns g c =
    let k = g.C.CostModel in
    let cs = c.args.self.now.costs.now in
    unmet_all (weaken k.laws) (looked k.exact cs) (looked_sized k.model k.exact g.met.C.CostModel.sized cs) c.args.moves.now c.loop-group.group-iterator.rest.now c.in-None.ensures.steps _ c.loop-group.invariant.1
