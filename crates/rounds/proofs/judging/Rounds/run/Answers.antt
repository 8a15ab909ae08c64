use Rattle.std.proofs.Common.{◌+◌, List, ◌++◌, length, take, drop, vec_items, vec_len, ◌∙◌, subst}
use Rattle.std.proofs.lemmas.List.{take_at}
use Rattle.plans.specs.Simulation.{Domain}
use Rattle.plans.proofs.Formed.{port_formed}
use Rattle.index.specs.Indexed.{port_of}
use Rattle.rounds.specs.Rounds.{Turned, domain_in}
use Rattle.rounds.specs.Stages.{SettledAll}
use Rattle.rounds.specs.declared.stages.Stage.{Stage}
use Rattle.rounds.proofs.Goings.{going_on}
use Rattle.rounds.proofs.judging.Rounds.run.Goals as goal

-- The slices of the tasks and the stages are written back whole.
pub invariant_of-result : goal.invariant_of-result
invariant_of-result c =
    let D : Domain = domain_in c.args.self.index in
    let k = c.args.self.count in
    let before : List Stage = vec_items c.args.self.stages in
    let turned : List Stage = c.take_turns.new.stages in
    let after : List Stage = c.settle-changed.new.stages in
    let n = vec_len c.args.self.stages in
    let tasks_back = take_at c.take_turns.new.tasks (drop (length c.take_turns.new.tasks) (vec_items c.args.self.tasks)) (vec_len c.args.self.tasks) (c.take_turns.auto.tasks ∙ c.deref_mut.ensures.len) in
    let turned_back = take_at turned (drop (length turned) before) n (c.take_turns.auto.stages ∙ c.deref_mut-2.ensures.len) in
    let after_back = take_at after (drop (length after) (take n (turned ++ drop (length turned) before))) n (c.settle-changed.auto.stages ∙ c.deref_mut-3.ensures.len) in
    let t : Turned D before c.take_turns.new.tasks turned (length D.tasks) =
    subst (λ (ss : List Stage). Turned D ss c.take_turns.new.tasks turned (length D.tasks)) c.deref_mut-2.ensures.value c.in_ok-take_turns.ensures in
    let s : SettledAll (k + 1) turned after c.settle-changed.result =
    subst (λ (ss : List Stage). SettledAll (k + 1) ss after c.settle-changed.result) (c.deref_mut-3.ensures.value ∙ turned_back) c.settle-changed.ensures in
    record {
      going = rw (tasks_back, after_back)
          (going_on D (port_formed (port_of c.args.self.index)) (vec_items c.args.self.tasks) c.take_turns.new.tasks before turned after k c.args.self.changed c.settle-changed.result c.args.self.going c.requires t s);
    }
