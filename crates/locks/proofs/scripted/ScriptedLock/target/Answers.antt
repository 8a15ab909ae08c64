use Rattle.std.proofs.Common.{◌≡◌, ℕ, get_or, Option, sym, ap, ◌∙◌, subst, rules}
use Rattle.port.specs.Model.{model_of}
use Rattle.plans.proofs.Formed.{port_valid}
use Rattle.locks.specs.Targets.{Goes, named_by}
use Rattle.locks.specs.Works.{outcomes}
use Rattle.locks.proofs.Going.{goes_nowhere, goes_not, goes_to, goes_nth, named_none, named_in}
use Rattle.locks.proofs.scripted.ScriptedLock.target.Goals as goal

pub returns-in_err-condition-clause-goes : goal.returns-in_err-condition-clause-goes
returns-in_err-condition-clause-goes c =
    let M = model_of c.args.self.now.port.now in
    subst (λ (r : Option ℕ). Goes M c.args.self.now.marks c.args.operation r) (sym c.from_residual.ensures)
    (goes_nowhere M c.args.self.now.marks c.args.operation c.in_err-condition.ensures)

pub returns-in_err-outcome-clause-goes : goal.returns-in_err-outcome-clause-goes
returns-in_err-outcome-clause-goes c =
    let M = model_of c.args.self.now.port.now in
    let none = c.in_err-outcome.ensures ∙ ap (named_by c.unwrap_or-byte.result) c.moves_of.ensures in
    subst (λ (r : Option ℕ). Goes M c.args.self.now.marks c.args.operation r) (sym c.from_residual-in_err-outcome.ensures)
    (goes_not M c.args.self.now.marks c.args.operation c.in_ok-condition.condition (port_valid c.args.self.now.port.now) c.in_ok-condition.ensures
    (named_none c.unwrap_or-byte.result (outcomes M.moves c.in_ok-condition.condition c.args.operation) none))

pub returns-clause-goes : goal.returns-clause-goes
returns-clause-goes c =
    let M = model_of c.args.self.now.port.now in
    let named = c.in_ok-outcome.ensures ∙ ap (named_by c.unwrap_or-byte.result) c.moves_of.ensures in
    goes_to M c.args.self.now.marks c.args.operation c.in_ok-condition.condition c.in_ok-outcome.outcome c.marks_of.result
    (port_valid c.args.self.now.port.now) c.in_ok-condition.ensures
    (named_in c.unwrap_or-byte.result c.in_ok-outcome.outcome (outcomes M.moves c.in_ok-condition.condition c.args.operation) named) c.marks_of.ensures

pub returns-clause-named : goal.returns-clause-named
returns-clause-named c =
    let M = model_of c.args.self.now.port.now in
    let named = c.in_ok-outcome.ensures ∙ ap (named_by c.unwrap_or-byte.result) c.moves_of.ensures in
    let byte : c.unwrap_or-byte.result ≡ get_or c.args.self.now.script.now 0 0 = search rules in
    goes_nth M c.args.self.now.marks c.args.operation _ c.unwrap_or-byte.result c.in_ok-condition.condition c.in_ok-outcome.outcome c.marks_of.result
    (port_valid c.args.self.now.port.now) c.in_ok-condition.ensures byte named c.marks_of.ensures
