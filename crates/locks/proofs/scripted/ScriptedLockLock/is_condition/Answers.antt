use Rattle.std.proofs.Common.{rules}
use Rattle.locks.proofs.Standing.{told}
use Rattle.locks.proofs.scripted.ScriptedLockLock.is_condition.Goals as goal

pub returns : goal.returns
returns c = search (rules, told)
