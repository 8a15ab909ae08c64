use Rattle.records.proofs.Maps.{fields_counted}
use Rattle.records.proofs.kinds.Kind.has_fields.Goals as goal

pub returns : goal.returns
returns c = fields_counted c.args.self c.args.map c.defined.result c.defined.ensures
