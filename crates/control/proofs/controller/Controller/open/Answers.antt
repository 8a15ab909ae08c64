use Rattle.std.proofs.Common.{sym, refl, ◌∙◌}
use Rattle.control.proofs.Opened.{refused_dropped, accepted, promises, opening}
use Rattle.control.proofs.controller.Controller.open.Goals as goal

pub returns-then-not-has_tables-clause-opening : goal.returns-then-not-has_tables-clause-opening
returns-then-not-has_tables-clause-opening g c =
    opening g.C.CostModel.model g.C.CostModel.exact c.args.port.now c.args.policy (g.L.Lock.present c.args.lock.now)

pub returns-then-rank-ne0-clause-opening : goal.returns-then-rank-ne0-clause-opening
returns-then-rank-ne0-clause-opening g c =
    opening g.C.CostModel.model g.C.CostModel.exact c.args.port.now c.args.policy (g.L.Lock.present c.args.lock.now)

pub returns-then-rank-ne0-clause-opened : goal.returns-then-rank-ne0-clause-opened
returns-then-rank-ne0-clause-opened g c =
    refused_dropped g.C.CostModel.model g.C.CostModel.exact c.args.port.now c.args.policy (g.L.Lock.present c.args.lock.now) c.marks.result
    c.marks.ensures (sym c.has_tables.ensures ∙ c.if-not-has_tables.false) c.in_ok-condition.condition
    (sym c.in_ok-condition.ensures.ok_part ∙ c.condition_of.ensures) c.rank.result c.rank.ensures c.if-rank-ne0.true

pub returns : goal.returns
returns g c =
    let k = g.C.CostModel.model in
    let e = g.C.CostModel.exact in
    let p = c.args.port.now in
    let t = c.args.policy in
    let m = g.L.Lock.present c.args.lock.now in
    let o =
    accepted k e p t m c.marks.result c.marks.ensures (sym c.has_tables.ensures ∙ c.if-not-has_tables.false) c.in_ok-condition.condition
    (sym c.in_ok-condition.ensures.ok_part ∙ c.condition_of.ensures) c.rank.result c.rank.ensures c.if-rank-ne0.false in
    record { opened = (refl, refl, refl, refl, o); promised = promises k e p t m g.C.CostModel.laws o; opening = opening k e p t m }
