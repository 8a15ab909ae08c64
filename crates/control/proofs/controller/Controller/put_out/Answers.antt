use Rattle.std.proofs.Common.{rules}
use Rattle.histories.specs.declared.Command.TheVariants.{Ask}
use Rattle.control.specs.declared.answer.Reply.TheVariants.{Granted}
use Rattle.control.proofs.Done.{did_refused}
use Rattle.control.proofs.controller.Controller.put_out.Goals as goal

pub returns-in_err-quote : goal.returns-in_err-quote
returns-in_err-quote g c =
    did_refused g.C.CostModel.model g.C.CostModel.exact c.args.self.now c.marks.result (g.L.Lock.present c.args.lock.now) c.marks.ensures
    (Ask c.args.request) (λ x. Granted x) c.from_residual.result c.in_err-quote.field-0.0 _ c.in_err-quote.ensures c.from_residual.ensures.1 (λ y h. search rules)
