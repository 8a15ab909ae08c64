use Rattle.std.proofs.Common.{ℕ, Option, sym, subst}
use Rattle.port.specs.Model.{model_of}
use Rattle.plans.proofs.Formed.{port_valid}
use Rattle.locks.specs.Targets.{Goes}
use Rattle.locks.proofs.Going.{goes_nowhere, goes_not, goes_to, goes_least}
use Rattle.locks.proofs.least.LeastChangeLock.target.Goals as goal

pub returns-in_err-condition-clause-goes : goal.returns-in_err-condition-clause-goes
returns-in_err-condition-clause-goes c =
    let M = model_of c.args.self.now.port.now in
    subst (λ (r : Option ℕ). Goes M c.args.self.now.marks c.args.operation r) (sym c.from_residual.ensures)
    (goes_nowhere M c.args.self.now.marks c.args.operation c.in_err-condition.ensures)

pub returns-in_err-outcome-clause-goes : goal.returns-in_err-outcome-clause-goes
returns-in_err-outcome-clause-goes c =
    let M = model_of c.args.self.now.port.now in
    subst (λ (r : Option ℕ). Goes M c.args.self.now.marks c.args.operation r) (sym c.from_residual-in_err-outcome.ensures)
    (goes_not M c.args.self.now.marks c.args.operation c.in_ok-condition.condition (port_valid c.args.self.now.port.now) c.in_ok-condition.ensures c.in_err-outcome.ensures)

pub returns-clause-goes : goal.returns-clause-goes
returns-clause-goes c =
    goes_to (model_of c.args.self.now.port.now) c.args.self.now.marks c.args.operation c.in_ok-condition.condition c.in_ok-outcome.outcome c.marks_of.result
    (port_valid c.args.self.now.port.now) c.in_ok-condition.ensures c.in_ok-outcome.ensures.0 c.marks_of.ensures

pub returns-clause-least : goal.returns-clause-least
returns-clause-least c =
    goes_least (model_of c.args.self.now.port.now) c.args.self.now.marks c.args.operation c.in_ok-condition.condition c.in_ok-outcome.outcome c.marks_of.result
    (port_valid c.args.self.now.port.now) c.in_ok-condition.ensures c.in_ok-outcome.ensures c.marks_of.ensures
