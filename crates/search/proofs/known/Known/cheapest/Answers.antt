use Rattle.search.proofs.Few.{after_among}
use Rattle.std.proofs.Math.Logic.{∥∥₁_map}
use Rattle.std.proofs.Common.{None, sym, ap, subst}
use Rattle.search.specs.Groups.{Left, Lowered}
use Rattle.search.specs.declared.groups.Groups.{Groups}
use Rattle.tables.specs.Tables.{looked}
use Rattle.search.proofs.Group.{lowered_none, lowered_more, lowered_all, left_all, left_next}
use Rattle.costs.proofs.Order.{weaken}
use Rattle.tables.proofs.Options.{looked_sized}
use Rattle.search.proofs.known.Known.cheapest.Goals as goal

pub loop-group-init : goal.loop-group-init
loop-group-init g c =
    let k = g.C.CostModel in
    let ms = c.args.moves.now in
    let cs = c.args.self.now.costs.now in
    let V = looked k.exact cs in
    let good = looked_sized k.model k.exact g.met.C.CostModel.sized cs in
    subst (λ rest. Left ms rest × Lowered k.model V ms rest None) (sym (ap (λ (s : Groups). s.rest.now) c.into_iter-group-iterator.ensures.into_iter_gives))
    (left_all (weaken k.laws) V good ms, lowered_none (weaken k.laws) V good ms)

pub loop-group-preserved : goal.loop-group-preserved
loop-group-preserved g c =
    let k = g.C.CostModel in
    let ms = c.args.moves.now in
    let cs = c.args.self.now.costs.now in
    let V = looked k.exact cs in
    let good = looked_sized k.model k.exact g.met.C.CostModel.sized cs in
    let left = c.loop-group.invariant.0 in
    let splits = c.in-Some.ensures.steps in (
      left_next (weaken k.laws) V good ms _ _ _ left splits,
      subst (Lowered k.model V ms c.next.new.self.rest.now) (sym c.lower-low.ensures) (lowered_more (weaken k.laws) V good ms _ _ _ left splits _ _ c.worst.ensures c.loop-group.invariant.1),
    )

pub returns : goal.returns
returns g c =
    let k = g.C.CostModel in
    let cs = c.args.self.now.costs.now in
    lowered_all (weaken k.laws) (looked k.exact cs) (looked_sized k.model k.exact g.met.C.CostModel.sized cs) c.args.moves.now c.loop-group.group-iterator.rest.now c.in-None.ensures.steps _ c.loop-group.invariant.1

pub worst-requires : goal.worst-requires
worst-requires g c =
    let k = g.C.CostModel in
    let left = c.loop-group.invariant.0 in
    let splits = c.in-Some.ensures.steps in
    ∥∥₁_map c.requires.few (after_among k.model k.exact c.args.self.now.costs.now c.args.moves.now c.in-Some.group.now (λ m h. left.among m (splits.mine m h).0))
