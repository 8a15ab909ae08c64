use Rattle.std.proofs.Common.{◌≡◌, take, vec_items}
use Rattle.std.specs.List.{flat_map}
use Rattle.rounds.specs.Stages.{rank_row}
use Rattle.rounds.proofs.judging.ranks_of.Given as goal

abbrev pub invariant-loop-stage : goal.invariant-loop-stage
invariant-loop-stage l = vec_items l.ranks ≡ flat_map rank_row (take l.stage-index l.stages)
