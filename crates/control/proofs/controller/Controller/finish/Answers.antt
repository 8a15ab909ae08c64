use Rattle.std.proofs.Common.{rules}
use Rattle.histories.specs.declared.Command.TheVariants.{Close}
use Rattle.control.specs.declared.answer.Reply.TheVariants.{Closed}
use Rattle.control.proofs.Done.{did_refused}
use Rattle.control.proofs.controller.Controller.finish.Goals as goal

pub returns-in_err-stage : goal.returns-in_err-stage
returns-in_err-stage g c =
    did_refused g.C.CostModel.model g.C.CostModel.exact c.args.self.now c.marks.result (g.L.Lock.present c.args.lock.now) c.marks.ensures
    (Close c.args.request) (λ x. Closed x) c.from_residual.result c.in_err-stage.field-0.0 _ c.in_err-stage.ensures c.from_residual.ensures.1 (λ y h. search rules)
