use Rattle.std.proofs.Common.{◌≡◌, ℕ, ◌+◌, Bool, true, cond, List, [], ◌∷◌, ◌++◌, get_or, take, is_ok, sym, refl, ap, ◌∙◌, subst, arith, rules}
use Rattle.std.proofs.lemmas.List.{take_all, take_more}
use Rattle.port.specs.Model.{model_of}
use Rattle.histories.specs.declared.Command.{Command}
use Rattle.histories.specs.declared.Command.TheVariants.{Quote}
use Rattle.control.specs.Controllers.{beside}
use Rattle.control.specs.Handlings.{Tended}
use Rattle.control.specs.Outings.{Logged}
use Rattle.control.specs.Worlds.{terms_world}
use Rattle.control.proofs.Courses.{does_there}
use Rattle.control.proofs.Handled.{tended_start, tended_more, handles_there}
use Rattle.control.proofs.controller.Controller.run.Goals as goal

-- what a choice is where its test holds
chosen : {X : Type 0} (b : Bool) (x y z : X) → b ≡ true → z ≡ cond b x y → z ≡ x
chosen b x y z is e = e ∙ ap (λ b. cond b x y) is

pub loop-command-init : goal.loop-command-init
loop-command-init g c =
    let k = g.C.CostModel.model in
    let e = g.C.CostModel.exact in
    let t = c.args.self.now.terms in
    let L = g.L.Lock in
    let s = c.args.lock.now in
    let begun =
    tended_start e L.present L.works (terms_world k e t) (model_of t.port.now).conditions (L.home s) (beside c.args.self.now (L.present s)) s
    c.args.log.now.items c.requires.empty in
    record {
      kept = refl;
      home = refl;
      long = search (rules, tended_start);
      room = search (rules, tended_start);
      logged = begun.logged;
      tended = begun;
    }

pub loop-command-preserved : goal.loop-command-preserved
loop-command-preserved g c =
    let k = g.C.CostModel.model in
    let e = g.C.CostModel.exact in
    let t = c.args.self.now.terms in
    let w = terms_world k e t in
    let cs = (model_of t.port.now).conditions in
    let M = g.L.Lock.home c.args.lock.now in
    let start = beside c.args.self.now (g.L.Lock.present c.args.lock.now) in
    let at = beside c.loop-command.self (g.L.Lock.present c.loop-command.lock) in
    let after = beside c.perform-answer.new.self (g.L.Lock.present c.perform-answer.new.lock) in
    let i : ℕ = c.loop-command.command-index in
    let ks = c.args.commands.now in
    let one : Command = get_or ks i (Quote 0) in
    let log = c.loop-command.log in
    let r = c.perform-answer.result in
    let inv = c.loop-command.invariant in
    let pushed : is_ok c.push.result ≡ true = ap is_ok c.unwrap.ensures in
    let does =
    does_there k e c.loop-command.self.terms t (g.L.Lock.home c.loop-command.lock) M inv.kept inv.home at one r after c.perform-answer.ensures.does.1 in
    let L = g.L.Lock in
    let s = c.args.lock.now in
    let u = c.loop-command.lock in
    let v = c.perform-answer.new.lock in
    let handles = handles_there k e L.works c.loop-command.self.terms t inv.kept at one r u v c.perform-answer.ensures.handles in
    let more = tended_more e L.present L.works w cs M start at after s u v (take i ks) log.items one r inv.tended does refl handles in
    let asked : Tended e L.present L.works w cs M start s (take (i + 1) ks) (log.items ++ (r ∷ [])) after v =
    subst (λ (x : List Command). Tended e L.present L.works w cs M start s x (log.items ++ (r ∷ [])) after v)
    (sym (take_more ks i (Quote 0) c.loop-command-test.true)) more in
    let pushes = sym (chosen _ _ _ _ pushed c.push.ensures.items) in
    record {
      kept = c.perform-answer.ensures.does.0 ∙ inv.kept;
      home = c.perform-answer.ensures.home ∙ inv.home;
      long = chosen _ _ _ _ pushed c.push.ensures.len ∙ ap (λ (x : ℕ). x + 1) inv.long;
      room = omega (arith, inv.room, c.push.ensures.capacity);
      logged = subst (λ x. Logged e w cs M start (take (i + 1) ks) x after) pushes asked.logged;
      tended = subst (λ x. Tended e L.present L.works w cs M start s (take (i + 1) ks) x after v) pushes asked;
    }

pub returns-clause-tended : goal.returns-clause-tended
returns-clause-tended g c =
    let k = g.C.CostModel.model in
    let e = g.C.CostModel.exact in
    let t = c.args.self.now.terms in
    let L = g.L.Lock in
    let s = c.args.lock.now in
    let u = c.loop-command.lock in
    let start = beside c.args.self.now (L.present s) in
    let at = beside c.loop-command.self (L.present u) in
    let ks = c.args.commands.now in
    let i : ℕ = c.loop-command.command-index in
    subst (λ (x : List Command). Tended e L.present L.works (terms_world k e t) (model_of t.port.now).conditions (L.home s) start s x c.loop-command.log.items at u)
    (take_all i ks (omega (arith, c.loop-command-test.false))) c.loop-command.invariant.tended
