use Rattle.std.proofs.Common.{sym, ◌∙◌, arith, le-ltb}
use Rattle.formula.proofs.Truths.{stands_none}
use Rattle.formula.proofs.stands_in.Goals as goal

pub returns-else-k-lt16 : goal.returns-else-k-lt16
returns-else-k-lt16 c = le-ltb c.args.k 16 c.if-k-lt16.false ∙ sym (stands_none c.args.marks c.args.k (omega arith) c.if-k-lt16.false)
