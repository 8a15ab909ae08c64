use Rattle.std.proofs.Common.{◌≡◌, vec_items, sym, ◌∙◌, rules}
use Rattle.index.specs.Indexes.{flagged}
use Rattle.index.proofs.Places.{index_apart, index_bare}
use Rattle.index.proofs.MoveIndex.leads.Goals as goal

pub returns-clause-apart : goal.returns-clause-apart
returns-clause-apart c e =
    let s = c.args.self.now in
    let read : c.unwrap_or.result ≡ flagged (vec_items s.into) c.args.c c.args.d = search rules in
    index_apart s c.args.c c.args.d (sym read ∙ e)

pub returns-clause-bare : goal.returns-clause-bare
returns-clause-bare c apart =
    let s = c.args.self.now in
    let read : c.unwrap_or.result ≡ flagged (vec_items s.into) c.args.c c.args.d = search rules in
    read ∙ index_bare s c.args.c c.args.d apart
