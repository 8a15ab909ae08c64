use Rattle.std.proofs.Common.{sym, ◌∙◌}
use Rattle.search.proofs.known.Known.choose.Goals as goal

pub returns-in-Some : goal.returns-in-Some
returns-in-Some g c = (sym c.item_or.ensures ∙ c.if-item_or.false, c.in-Some.ensures)
