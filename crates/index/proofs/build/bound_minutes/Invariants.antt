use Rattle.std.proofs.Common.{ℕ, ◌<◌}
use Rattle.port.specs.Limits.{at}
use Rattle.index.proofs.build.bound_minutes.Given as goal

abbrev pub invariant-loop-m : goal.invariant-loop-m
invariant-loop-m l = (i : ℕ) → i < l.m-index → (at l.moves i).minutes < 65536
