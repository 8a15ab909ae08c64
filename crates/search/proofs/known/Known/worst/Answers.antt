use Rattle.std.proofs.Common.{◌≡◌, ◌+◌, get_or, Some, None, sym, ap, ◌∙◌, subst, rules}
use Rattle.std.proofs.Math.Logic.{∥∥₁_elim}
use Rattle.std.proofs.Props.{props}
use Rattle.port.specs.Limits.{at, no_move}
use Rattle.search.specs.Groups.{Topped}
use Rattle.costs.specs.Compare.{topped, shown}
use Rattle.search.specs.Labels.{Greatest}
use Rattle.tables.specs.Tables.{looked}
use Rattle.search.proofs.Group.{topped_more, missing}
use Rattle.costs.proofs.Order.{weaken}
use Rattle.index.proofs.Lists.{in_get_d}
use Rattle.tables.proofs.Options.{looked_sized}
use Rattle.search.proofs.known.Known.worst.Goals as goal

pub returns-in_err-c : goal.returns-in_err-c
returns-in_err-c g c =
    let k = g.C.CostModel in
    let ms = c.args.moves.now in
    let cs = c.args.self.now.costs.now in
    let i = c.loop-m.m-index in
    let told : Greatest k.model (looked k.exact cs) ms None =
    missing (weaken k.laws) (looked k.exact cs) (looked_sized k.model k.exact g.met.C.CostModel.sized cs) ms i c.loop-m-test.true
    (ap (shown k.exact) (sym c.cost_after.ensures ∙ c.in_err-c.was)) in
    search rules

pub loop-m-preserved : goal.loop-m-preserved
loop-m-preserved g c =
    let k = g.C.CostModel in
    let ms = c.args.moves.now in
    let cs = c.args.self.now.costs.now in
    let i = c.loop-m.m-index in
    let V = looked k.exact cs in
    let has : get_or cs (at ms i).outcome None ≡ Some c.in_ok-c.c = sym c.cost_after.ensures ∙ c.in_ok-c.was in
    let new : k.exact c.extend.result ≡ topped k.model (k.model.join (at ms i) (k.exact c.in_ok-c.c)) (shown k.exact c.loop-m.top) =
    ∥∥₁_elim c.requires (search props) (λ few. c.extend.ensures (few (at ms i) _ (in_get_d no_move ms i c.loop-m-test.true) has)) in
    subst (λ x. Topped k.model V ms (i + 1) (Some x)) (sym new)
    (topped_more (weaken k.laws) V (looked_sized k.model k.exact g.met.C.CostModel.sized cs) ms i _ c.loop-m-test.true (ap (shown k.exact) has) _ c.loop-m.invariant)
