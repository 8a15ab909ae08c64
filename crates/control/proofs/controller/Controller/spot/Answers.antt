use Rattle.std.proofs.Common.{sym, ◌∙◌}
use Rattle.control.proofs.Opened.{spotted}
use Rattle.control.proofs.controller.Controller.spot.Goals as goal

pub returns : goal.returns
returns g c =
    let self = c.args.self.now in
    spotted g.C.CostModel.model g.C.CostModel.exact self.terms.port.now self.terms.policy self.stage c.args.marks c.args.request
    (sym c.offers.ensures ∙ c.if-not-offers.false) c.condition_of.result c.condition_of.ensures c.ok_or.result c.ok_or.ensures.value
