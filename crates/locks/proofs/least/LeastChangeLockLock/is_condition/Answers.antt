use Rattle.std.proofs.Common.{rules}
use Rattle.locks.proofs.Standing.{told}
use Rattle.locks.proofs.least.LeastChangeLockLock.is_condition.Goals as goal

pub returns : goal.returns
returns c = search (rules, told)
