use Rattle.std.proofs.Common.{length, None, ap, ◌∙◌, rules}
use Rattle.port.specs.Model.{model_of}
use Rattle.plans.specs.Domains.{domain_of}
use Rattle.control.specs.Controllers.{beside}
use Rattle.control.proofs.Outed.{barred, carried, roomy, solved_there, tended_there}
use Rattle.control.proofs.tour.outing.Goals as goal

pub returns : goal.returns
returns g c =
    let k = g.C.CostModel.model in
    let e = g.C.CostModel.exact in
    let p = c.args.port.now in
    let t = c.from.result in
    let M = g.L.Lock.home c.args.lock.now in
    let m = g.L.Lock.present c.args.lock.now in
    let ks = c.args.commands.now in
    let rs = c.run.new.log.items in
    let a = c.in_ok-controller.controller in
    let o = c.in_ok-controller.ensures.opened in
    let L = g.L.Lock in
    let before = c.args.lock.now in
    let after = c.run.new.lock in
    let s = solved_there k e p t _ _ _ c.from.ensures.0 c.from.ensures.1 c.from.ensures.2 c.in_ok-tables.ensures.solved in
    let log =
    carried k e p t s L.present L.works g.C.CostModel.laws M before after ks rs c.run.new.self.stage c.run.new.self.out o.4
    (tended_there k e L.present L.works a.terms.port.now p a.terms.policy t M a.stage p.header.stage a.out None (ap (λ x. x.now) o.0) o.1 o.2 o.3 m before after ks
    rs (beside c.run.new.self (L.present after)) c.run.ensures.tended) in
    record { home = c.run.ensures.home; told = log.told; carried = log }

pub returns-in_err-controller-clause-told : goal.returns-in_err-controller-clause-told
returns-in_err-controller-clause-told g c =
    let k = g.C.CostModel.model in
    let e = g.C.CostModel.exact in
    let p = c.args.port.now in
    let t = c.from.result in
    let m = g.L.Lock.present c.args.lock.now in
    let d = c.in_ok-tables.ensures in
    let same = c.from.ensures in
    let s = solved_there k e p t _ _ _ same.0 same.1 same.2 d.solved in
    let room =
    roomy (domain_of (model_of p)) t.entries.now t.costs.now t.ranks.now (ap length same.0 ∙ d.entries_long) (ap length same.1 ∙ d.costs_long)
    (ap length same.2 ∙ d.ranks_long) in
    barred k e p t m s room c.in_err-controller.field-0.0 c.in_err-controller.ensures.opened c.from_residual-in_err-controller.result _
    c.from_residual-in_err-controller.ensures.1 (λ y h. search rules) _
