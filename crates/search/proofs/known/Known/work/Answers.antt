use Rattle.std.proofs.Math.Logic.{∥∥₁_map}
use Rattle.std.proofs.Common.{◌≡◌, Some, None, sym, ap, ◌∙◌, subst, rules}
use Rattle.plans.specs.Plans.{Can}
use Rattle.costs.specs.Compare.{shown}
use Rattle.index.specs.Indexed.{moves_of}
use Rattle.search.specs.Groups.{Lowest}
use Rattle.search.specs.Labels.{After, Worst}
use Rattle.search.specs.Steps.{LowestAt}
use Rattle.tables.specs.Tables.{looked}
use Rattle.tables.proofs.Options.{some_inj}
use Rattle.search.proofs.Steps.{lowest_from, none_from}
use Rattle.search.proofs.known.Known.work.Goals as goal

pub returns-in_err-lowest : goal.returns-in_err-lowest
returns-in_err-lowest g c =
    let k = g.C.CostModel in
    let ms = moves_of c.args.self.now.index.now in
    let V = looked k.exact c.args.self.now.costs.now in
    let f = k.exact c.in_ok-cost.cost in
    let has : V c.args.c ≡ Some f = ap (shown k.exact) (sym c.cost_at.ensures ∙ c.in_ok-cost.was) in
    let none : Lowest k.model V c.moves_from.result.now f None = subst (Lowest k.model V c.moves_from.result.now f) c.in_err-lowest.was c.operation.ensures in
    let told : LowestAt k.model k.exact ms V c.args.c None =
    λ h e o w. none_from k.model V ms c.args.c c.moves_from.result.now c.moves_from.ensures.from f none o (subst (Worst k.model (After V) (Can ms c.args.c o)) (some_inj (sym e ∙ has)) w) in
    search rules

pub returns : goal.returns
returns g c =
    let k = g.C.CostModel in
    let V = looked k.exact c.args.self.now.costs.now in
    let f = k.exact c.in_ok-cost.cost in
    let found : Lowest k.model V c.moves_from.result.now f (Some c.in_ok-lowest.lowest) = subst (Lowest k.model V c.moves_from.result.now f) c.in_ok-lowest.was c.operation.ensures in
    let low = lowest_from k.model V (moves_of c.args.self.now.index.now) c.args.c c.moves_from.result.now c.moves_from.ensures.from f c.in_ok-lowest.lowest found in
    (ap (shown k.exact) (sym c.cost_at.ensures ∙ c.in_ok-cost.was), low.0, low.1)

pub operation-requires-clause-few : goal.operation-requires-clause-few
operation-requires-clause-few g c =
    let k = g.C.CostModel in
    let known = c.args.self.now in
    ∥∥₁_map known.early (λ early. early c.args.c (k.exact c.in_ok-cost.cost) (ap (shown k.exact) (sym c.cost_at.ensures ∙ c.in_ok-cost.was)))
