-- What is judged of a kind byte, as the code answers it.
use Rattle.std.specs.Prelude.{ℕ, cond, Ok, Err, Result}
use Rattle.faults.specs.declared.layers.PortFault.{PortFault}
use Rattle.faults.specs.declared.layers.PortFault.TheVariants.{Record, Many}
use Rattle.faults.specs.declared.layers.RecordFault.TheVariants.{Kind}
use Rattle.port.specs.Model.{Model}
use Rattle.reading.specs.Reading.{follows, room}

-- the kind k at the place p may come next, and then there is room for it: the first of the two that fails is told
abbrev pub admission : Model → ℕ → ℕ → Result (Unit {0}) PortFault
admission m k p = cond (follows m k) (cond (room m k) (Ok tt) (Err (Many p))) (Err (Record (Kind p)))
