use Rattle.std.proofs.Common.{List, refl, sym, subst, Bor}
use Rattle.std.specs.List.{ItemBy}
use Rattle.port.specs.declared.Move.{Move}
use Rattle.index.specs.Indexed.{moves_of, port_of}
use Rattle.index.specs.Indexes.{From}
use Rattle.index.proofs.Places.{read_row, row_from}
use Rattle.index.proofs.MoveIndex.moves_from.Goals as goal

pub returns-clause-row : goal.returns-clause-row
returns-clause-row c =
    let i = c.args.c in
    read_row c.args.self.now i c.get.result c.copied.result _ c.unwrap_or-row.result
    (subst (λ (rows : List (Bor (List Move))). ItemBy (λ (x : Bor (Bor (List Move))). x.now) rows i i c.get.result) c.deref.ensures.value c.get.ensures.lookup)
    c.copied.ensures c.unwrap_or-row.ensures refl

pub returns-clause-from : goal.returns-clause-from
returns-clause-from c =
    subst (From (moves_of c.args.self.now) c.args.c) (sym (returns-clause-row c)) (row_from (port_of c.args.self.now) c.args.c)
