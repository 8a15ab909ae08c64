use Rattle.std.proofs.Common.{rules}
use Rattle.locks.proofs.Going.{rest_of}
use Rattle.locks.proofs.Outcomes.{port_in_order}
use Rattle.locks.proofs.scripted.ScriptedLockLock.work.Goals as goal

pub returns-clause-drawn : goal.returns-clause-drawn
returns-clause-drawn c t = rest_of c.args.self.now.script.now c.get.result _ c.unwrap_or-self.result c.get.ensures.lookup c.unwrap_or-self.ensures (search rules)

pub returns-clause-ordered : goal.returns-clause-ordered
returns-clause-ordered c d = port_in_order c.args.self.now.port.now d c.args.operation

pub returns-in_default-clause-ordered : goal.returns-in_default-clause-ordered
returns-in_default-clause-ordered c d = port_in_order c.args.self.now.port.now d c.args.operation
