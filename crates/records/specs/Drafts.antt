-- What a draft says: the port as far as the records read so far tell it.
use Rattle.std.specs.Prelude.{map, vec_items}
use Rattle.port.specs.Model.{Model, request_model}
use Rattle.records.specs.declared.draft.Draft.{Draft}

abbrev pub draft_model : Draft → Model
draft_model d =
    record { header = d.header; conditions = vec_items d.conditions; moves = vec_items d.moves; requests = map request_model (vec_items d.requests) }
