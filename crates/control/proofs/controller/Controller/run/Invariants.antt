use Rattle.std.proofs.Common.{◌≡◌, ◌≤◌, length, take, vec_capacity, vec_len}
use Rattle.port.specs.Model.{model_of}
use Rattle.control.specs.Handlings.{Tended}
use Rattle.control.specs.Outings.{Logged}
use Rattle.control.specs.States.{state}
use Rattle.control.specs.Worlds.{terms_world}
use Rattle.control.proofs.controller.Controller.run.Given as goal

abbrev pub invariant-loop-command : goal.invariant-loop-command
invariant-loop-command g l = record {
  kept : l.self.terms ≡ l.initial.self.terms;
  home : g.L.Lock.home l.lock ≡ g.L.Lock.home l.initial.lock;
  long : vec_len l.log ≡ l.command-index;
  room : length l.commands ≤ vec_capacity l.log;
  logged : Logged g.C.CostModel.exact (terms_world g.C.CostModel.model g.C.CostModel.exact l.initial.self.terms)
      (model_of l.initial.self.terms.port.now).conditions (g.L.Lock.home l.initial.lock)
      (state l.initial.self.stage l.initial.self.out (g.L.Lock.present l.initial.lock))
      (take l.command-index l.commands) l.log.items
      (state l.self.stage l.self.out (g.L.Lock.present l.lock));
  tended : Tended g.C.CostModel.exact g.L.Lock.present g.L.Lock.works (terms_world g.C.CostModel.model g.C.CostModel.exact l.initial.self.terms)
      (model_of l.initial.self.terms.port.now).conditions (g.L.Lock.home l.initial.lock)
      (state l.initial.self.stage l.initial.self.out (g.L.Lock.present l.initial.lock)) l.initial.lock
      (take l.command-index l.commands) l.log.items
      (state l.self.stage l.self.out (g.L.Lock.present l.lock)) l.lock;
}
