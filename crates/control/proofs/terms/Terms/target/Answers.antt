use Rattle.std.proofs.Common.{rules, List, Bor, subst}
use Rattle.std.specs.List.{ItemBy}
use Rattle.port.specs.declared.Request.{Request}
use Rattle.control.proofs.Requests.{target_of}
use Rattle.control.proofs.terms.Terms.target.Goals as goal

pub returns : goal.returns
returns g c =
    let i = c.args.request in
    target_of c.args.self.now.port.now i c.map_or.result c.get.result _
    (subst (λ (xs : List Request). ItemBy (λ (x : Bor Request). x.now) xs i i c.get.result) c.deref.ensures.value c.get.ensures.lookup)
    (λ x h. search rules) c.map_or.ensures
