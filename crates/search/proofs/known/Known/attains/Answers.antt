use Rattle.search.proofs.Few.{after_below}
use Rattle.std.proofs.Math.Logic.{∥∥₁_map}
use Rattle.std.proofs.Common.{sym, ◌∙◌, true≢false}
use Rattle.tables.specs.Tables.{looked}
use Rattle.search.proofs.Group.{greatest_is, worst_below}
use Rattle.costs.proofs.Order.{weaken}
use Rattle.tables.proofs.Options.{looked_sized}
use Rattle.search.proofs.known.Known.attains.Goals as goal

pub returns-then-all_below : goal.returns-then-all_below
returns-then-all_below g c =
    let k = g.C.CostModel in
    let cs = c.args.self.now.costs.now in
    greatest_is (weaken k.laws) (looked k.exact cs) (looked_sized k.model k.exact g.met.C.CostModel.sized cs) c.args.moves.now (k.exact c.args.cost) _ _ c.worst.ensures c.comes_to.ensures

pub returns-else-all_below : goal.returns-else-all_below
returns-else-all_below g c =
    let k = g.C.CostModel in
    let cs = c.args.self.now.costs.now in (
      (λ e. absurd (true≢false (sym e ∙ c.if-all_below.false))),
      (λ w. c.all_below.ensures.1 (worst_below k.laws (looked k.exact cs) (looked_sized k.model k.exact g.met.C.CostModel.sized cs) c.args.moves.now (k.exact c.args.cost) w)),
    )

pub worst-requires : goal.worst-requires
worst-requires g c =
    let k = g.C.CostModel in
    ∥∥₁_map c.requires (after_below k.model k.exact c.args.self.now.costs.now c.args.moves.now (k.exact c.args.cost) (c.all_below.ensures.0 c.if-all_below.true))
