use Rattle.std.proofs.Common.{◌≡◌, ℕ, ◌<◌, ◌≤◌, get_or}
use Rattle.rounds.specs.Stages.{SettledBy}
use Rattle.rounds.specs.declared.stages.Stage.{Stage}
use Rattle.rounds.proofs.judging.settle.Given as goal

abbrev pub invariant-loop-stage : goal.invariant-loop-stage
invariant-loop-stage l = record {
  ended : (s : ℕ) (d : Stage) → s < l.stage-index → SettledBy l.round (get_or l.initial.stages s d) (get_or l.stages s d);
  rest : (s : ℕ) (d : Stage) → l.stage-index ≤ s → get_or l.stages s d ≡ get_or l.initial.stages s d;
}
