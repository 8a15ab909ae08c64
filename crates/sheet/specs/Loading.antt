-- What a load promises.
use Rattle.std.specs.Prelude.{◌≡◌, ℕ, List, Ok, Err, Result}
use Rattle.faults.specs.declared.errors.LoadError.{LoadError}
use Rattle.faults.specs.declared.errors.LoadError.TheVariants.{Fault, Memory}
use Rattle.port.specs.declared.held.Port.{Port}
use Rattle.port.specs.Model.{Model, model_of}
use Rattle.reading.specs.Reading.{Read, held, refused, reading}

-- The answer is that of the reading: this reading of its value, or the fault, with the records before it. Want of
-- memory says nothing of the sheet.
abbrev pub TellsReading : {V : Type 0} → (V → Read) → Read → Result V LoadError → Type 0
TellsReading value x (Ok v) = x ≡ value v
TellsReading value x (Err (Fault f n)) = x ≡ refused f n
TellsReading value x (Err Memory) = Unit {0}

-- A load does what the sheet's reading says; refused, or for want of memory, it keeps the port as it was.
abbrev pub Loaded : {U : Type 0} → List ℕ → Port → Port → Result U LoadError → Type 0
Loaded t before after (Ok _) = reading t ≡ held (model_of after)
Loaded t before after (Err (Fault f n)) = (reading t ≡ refused f n) × (after ≡ before)
Loaded t before after (Err Memory) = after ≡ before

-- the port m is the one held, but for want of memory
abbrev pub HoldsPort : {U : Type 0} → Model → Port → Result U LoadError → Type 0
HoldsPort m after (Ok _) = model_of after ≡ m
HoldsPort m after (Err (Fault f n)) = ⊥
HoldsPort m after (Err Memory) = Unit {0}
