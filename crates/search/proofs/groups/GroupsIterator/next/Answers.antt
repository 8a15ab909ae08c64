use Rattle.std.proofs.Common.{take, sym, subst}
use Rattle.port.specs.Limits.{no_move, at}
use Rattle.port.specs.declared.Move.{Move}
use Rattle.search.specs.Groups.{Same, Splits}
use Rattle.search.proofs.Splits.{splits}
use Rattle.search.proofs.groups.GroupsIterator.next.Goals as goal

pub returns-clause-steps : goal.returns-clause-steps
returns-clause-steps c =
    let rest = c.args.self.now.rest.now in
    let n = c.same_front-end.result in
    let first = c.in_ok-first.ensures.item.3 in
    let front : Same rest (at rest 0).operation n = subst (λ (m : Move). Same rest m.operation n) (first.1 no_move) c.same_front-end.ensures in
    subst (λ group. Splits rest group c.split_at.result.1.now) (sym c.split_at.ensures.front)
    (subst (Splits rest (take n rest)) (sym c.split_at.ensures.back) (splits rest c.args.self.now.ordered n first.0 front))
