use Rattle.std.proofs.Common.{rules}
use Rattle.histories.specs.declared.Command.TheVariants.{Quote}
use Rattle.control.specs.declared.answer.Reply.TheVariants.{Quoted}
use Rattle.control.proofs.Done.{did_refused}
use Rattle.control.proofs.controller.Controller.quote.Goals as goal

pub returns-in_err-quote : goal.returns-in_err-quote
returns-in_err-quote g c =
    did_refused g.C.CostModel.model g.C.CostModel.exact c.args.self.now c.marks.result (g.L.Lock.present c.args.lock.now) c.marks.ensures
    (Quote c.args.request) (λ x. Quoted x) c.from_residual.result c.in_err-quote.field-0.0 _ c.in_err-quote.ensures c.from_residual.ensures.1 (λ y h. search rules)
