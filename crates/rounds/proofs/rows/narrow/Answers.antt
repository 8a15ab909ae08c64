use Rattle.std.proofs.Common.{arith}
use Rattle.rounds.proofs.Lists.{both_each}
use Rattle.rounds.proofs.rows.narrow.Goals as goal

pub returns : goal.returns
returns c = both_each _ _ _ c.loop-c.auto.row c.requires (λ k l. c.loop-c.invariant.done k (omega (arith, l)))
