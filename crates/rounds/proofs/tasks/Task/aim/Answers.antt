use Rattle.std.proofs.Common.{vec_items, sym, ◌∙◌}
use Rattle.costs.specs.Models.{count_list, moves_model}
use Rattle.index.specs.Indexed.{port_of}
use Rattle.rounds.specs.Rounds.{domain_in}
use Rattle.rounds.proofs.Freshness.{searched}
use Rattle.rounds.proofs.tasks.Task.aim.Goals as goal

pub returns-clause-fresh : goal.returns-clause-fresh
returns-clause-fresh c =
    searched moves_model count_list (domain_in c.args.index.now) c.args.alive.now (vec_items c.in_ok-choices.choices) _
    (c.in_ok-self.ensures.long (c.requires.reach ∙ sym c.requires.alive) ∙ c.requires.alive) c.in_ok-self.ensures.each
    (rw (c.deref.ensures.value, c.deref-2.ensures.value, (port_of c.args.index.now).conditions.ok.0) at c.in_ok-choices.ensures)
    (rw c.deref-3.ensures.value at c.in_ok-self-2.ensures)
