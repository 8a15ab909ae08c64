use Rattle.std.proofs.Common.{refl}
use Rattle.port.specs.Model.{model_of}
use Rattle.histories.specs.declared.Command.TheVariants.{Step}
use Rattle.control.specs.Controllers.{beside}
use Rattle.control.specs.States.{step_answer}
use Rattle.control.specs.Worlds.{terms_world}
use Rattle.control.proofs.Done.{did_own}
use Rattle.control.proofs.controller.Controller.step.Goals as goal

pub returns-clause-did : goal.returns-clause-did
returns-clause-did g c = λ own.
    let self = c.args.self.now in
    let p = self.terms.port.now in (
      refl,
      did_own g.C.CostModel.exact (terms_world g.C.CostModel.model g.C.CostModel.exact self.terms) (model_of p) p.conditions_rise refl
          (g.L.Lock.home c.args.lock.now) own (beside self (g.L.Lock.present c.args.lock.now)) (Step c.args.grant.now.request)
          (step_answer c.work_on.result) (beside self (g.L.Lock.present c.work_on.new.lock)) c.work_on.ensures.does.1,
    )
