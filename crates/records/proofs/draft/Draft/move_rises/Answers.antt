use Rattle.std.proofs.Common.{rules}
use Rattle.port.specs.Limits.{key}
use Rattle.records.proofs.Tests.{rises_by}
use Rattle.records.proofs.draft.Draft.move_rises.Goals as goal

pub returns : goal.returns
returns c =
    rises_by (λ x. x.now) key c.args.self.now.moves.items (key c.args.next) c.last.result c.is_none_or.result _ (rw c.deref.ensures.value at c.last.ensures.value) c.is_none_or.ensures (λ x k. search rules)
