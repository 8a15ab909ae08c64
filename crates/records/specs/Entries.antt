-- What the records of the code say.
use Rattle.port.specs.Model.{RequestModel}
use Rattle.reading.specs.Reading.{Head, Entry, condition_entry, move_entry, request_entry}
use Rattle.records.specs.declared.records.Head.{Head as CodeHead}
use Rattle.records.specs.declared.records.Record.{Record}
use Rattle.records.specs.declared.records.Record.TheVariants.{Condition, Move, Request}
use Rattle.records.specs.declared.records.RequestAt.{RequestAt}
use Rattle.records.specs.Kinds.{kind_number}

-- how a record begins
abbrev pub head_of : CodeHead → Head
head_of h = record { kind = kind_number h.kind; place = h.place; map = h.map; map_place = h.map_place }

-- a request whose texts are still in the sheet
abbrev pub request_at : RequestAt → RequestModel
request_at a = record { from = a.from; to = a.to; keep = a.keep.bytes.now; reach = a.reach.bytes.now }

-- a record
abbrev pub entry_of : Record → Entry
entry_of (Condition c) = condition_entry c
entry_of (Move v) = move_entry v
entry_of (Request a) = request_entry (request_at a)
