-- What a load promises: the answer that is told, the port that a load leaves, and the port that is held.
use Rattle.std.specs.Prelude.{◌≡◌, Bool, true, false, List, [], ◌∷◌, ◌++◌, take, codes, ℕ, Ok, Err, Result}
use Rattle.std.specs.Global.{Global}
use Rattle.faults.specs.declared.errors.LoadError.{LoadError}
use Rattle.faults.specs.declared.errors.LoadError.TheVariants.{Fault, Memory}
use Rattle.faults.specs.declared.layers.ByteFault.TheVariants.{Opening}
use Rattle.faults.specs.declared.layers.RecordFault.TheVariants.{Byte, Kind}
use Rattle.faults.specs.declared.layers.PortFault.TheVariants.{Record, Sequence, Start}
use Rattle.port.specs.declared.held.Port.{Port}
use Rattle.port.specs.Limits.{In}
use Rattle.port.specs.Model.{Model, model_of, first}
use Rattle.reading.specs.Reading.{Read, held, refused, finish, reading}
use Rattle.reading.specs.SheetOf.{sheet_of}
use Rattle.sheet.specs.Loading.{TellsReading, Loaded, HoldsPort}
use Rattle.cases_words.specs.Rows.{Said}
use Rattle.cases_words.specs.Ports.{port, heads, quay, moved}
use Rattle.cases_words.specs.Sheets.{quay_sheet}
use Rattle.cases_words.specs.Fields.{ends}

-- ── the answer ──

-- what is read, what a value stands for in it, and an answer
pub record TellsRow : Type 0 where
  pub read : Read
  pub value : Model → Read
  pub answer : Result Model LoadError
  pub holds : Bool

abbrev tells_row : Bool → Read → (Model → Read) → Result Model LoadError → TellsRow
tells_row holds read value answer = record { read = read; value = value; answer = answer; holds = holds }

-- the port after so many records, if its start condition is there
abbrev last : Model → Read
last m = finish 3 m

abbrev startless : Model
startless = port heads (0 ∷ 1 ∷ []) [] []

abbrev pub tells : List TellsRow
tells =
    -- a value is what is read, and no other
    tells_row true (held quay) held (Ok quay) ∷
    tells_row true (held first) held (Ok first) ∷
    tells_row false (held quay) held (Ok first) ∷
    tells_row false (refused Start 3) held (Ok startless) ∷
    -- a value stands for what it is told to
    tells_row true (held quay) last (Ok quay) ∷
    tells_row true (refused Start 3) last (Ok startless) ∷
    tells_row false (held startless) last (Ok startless) ∷
    tells_row false (refused Start 2) last (Ok startless) ∷
    -- a fault is that of the reading, with as many records before it
    tells_row true (refused Start 3) held (Err (Fault Start 3)) ∷
    tells_row true (refused (Sequence 17) 3) last (Err (Fault (Sequence 17) 3)) ∷
    tells_row false (refused Start 3) held (Err (Fault Start 2)) ∷
    tells_row false (refused (Sequence 17) 3) held (Err (Fault (Sequence 19) 3)) ∷
    tells_row false (refused (ends 17) 3) held (Err (Fault (Sequence 17) 3)) ∷
    tells_row false (held quay) held (Err (Fault Start 0)) ∷
    -- for want of memory there may be any
    tells_row true (held quay) held (Err Memory) ∷
    tells_row true (refused Start 3) held (Err Memory) ∷
    []

abbrev pub TellsHold : Type 0
TellsHold = (r : TellsRow) → In r tells → Said r.holds (TellsReading r.value r.read r.answer)

-- ── the load ──

-- a sheet, what a port says before and what one says after, and an answer
pub record LoadRow : Type 0 where
  pub sheet : List ℕ
  pub before : Model
  pub after : Model
  pub answer : Result (Unit {0}) LoadError
  pub holds : Bool

abbrev row : Bool → List ℕ → Model → Model → Result (Unit {0}) LoadError → LoadRow
row holds sheet before after answer = record { sheet = sheet; before = before; after = after; answer = answer; holds = holds }

-- the port that the first three conditions of the sheet tell
abbrev three : Model
three = port heads (0 ∷ 1 ∷ 3 ∷ []) [] []

abbrev pub loads : List LoadRow
loads =
    -- a sheet that is taken: the port after is the one that it tells, whatever there was before
    row true quay_sheet first quay (Ok tt) ∷
    row true quay_sheet quay quay (Ok tt) ∷
    row true (take 17 quay_sheet) quay three (Ok tt) ∷
    row true (sheet_of first) quay first (Ok tt) ∷
    row false quay_sheet first first (Ok tt) ∷
    row false quay_sheet first three (Ok tt) ∷
    row false quay_sheet quay (moved []) (Ok tt) ∷
    row false (take 14 quay_sheet) first first (Ok tt) ∷
    -- one that is refused, by its fault and the records before it: the port is as it was
    row true (take 14 quay_sheet) quay quay (Err (Fault Start 2)) ∷
    row true (codes "GATS") first first (Err (Fault (Record (Byte Opening)) 0)) ∷
    row true (take 17 quay_sheet ++ (1 ∷ 1 ∷ 2 ∷ [])) first first (Err (Fault (Sequence 17) 3)) ∷
    row true (quay_sheet ++ (1 ∷ 0 ∷ [])) first first (Err (Fault (Record (Kind 57)) 9)) ∷
    row true [] quay quay (Err (Fault (ends 0) 0)) ∷
    row false (take 14 quay_sheet) quay quay (Err (Fault Start 1)) ∷
    row false (take 14 quay_sheet) quay quay (Err (Fault (ends 14) 2)) ∷
    row false (take 14 quay_sheet) first quay (Err (Fault Start 2)) ∷
    row false (quay_sheet ++ (1 ∷ 0 ∷ [])) first quay (Err (Fault (Record (Kind 57)) 9)) ∷
    row false quay_sheet first first (Err (Fault Start 0)) ∷
    -- want of memory: the port is as it was, whatever the sheet
    row true quay_sheet first first (Err Memory) ∷
    row true (take 14 quay_sheet) quay quay (Err Memory) ∷
    row false quay_sheet first quay (Err Memory) ∷
    row false (take 14 quay_sheet) quay first (Err Memory) ∷
    []

-- a load of these two ports; or of no two that say these models
abbrev pub LoadSaid : Bool → List ℕ → Model → Model → Result (Unit {0}) LoadError → (Global → Port) → (Global → Port) → Type 0
LoadSaid true sheet from to answer before after = (heap : Global) → Loaded sheet (before heap) (after heap) answer
LoadSaid false sheet from to answer before after = (b a : Port) → model_of b ≡ from → model_of a ≡ to → Loaded sheet b a answer → ⊥

-- with any allocator there are such ports in memory, and of them it is said
pub record LoadIs (holds : Bool) (sheet : List ℕ) (from to : Model) (answer : Result (Unit {0}) LoadError) : Type 0 where
  pub before : Global → Port
  pub after : Global → Port
  pub is_from : (heap : Global) → model_of (before heap) ≡ from
  pub is_to : (heap : Global) → model_of (after heap) ≡ to
  pub said : LoadSaid holds sheet from to answer before after

abbrev pub LoadsHold : Type 0
LoadsHold = (r : LoadRow) → In r loads → LoadIs r.holds r.sheet r.before r.after r.answer

-- ── the port that is held ──

-- the port that is asked for, what the port after says, and an answer
pub record HoldsRow : Type 0 where
  pub asked : Model
  pub after : Model
  pub answer : Result (Unit {0}) LoadError
  pub holds : Bool

abbrev holds_row : Bool → Model → Model → Result (Unit {0}) LoadError → HoldsRow
holds_row holds asked after answer = record { asked = asked; after = after; answer = answer; holds = holds }

abbrev pub holdings : List HoldsRow
holdings =
    holds_row true quay quay (Ok tt) ∷
    holds_row true first first (Ok tt) ∷
    holds_row false quay first (Ok tt) ∷
    holds_row false quay (moved []) (Ok tt) ∷
    -- there is no fault
    holds_row false quay quay (Err (Fault Start 0)) ∷
    holds_row false first first (Err (Fault (ends 0) 3)) ∷
    -- want of memory says nothing here; that the port is as it was, a load says
    holds_row true quay quay (Err Memory) ∷
    holds_row true quay first (Err Memory) ∷
    []

-- with any allocator there is such a port in memory, and of each it is said
pub record HoldsIs (r : HoldsRow) : Type 0 where
  pub port : Global → Port
  pub is : (heap : Global) → model_of (port heap) ≡ r.after
  pub said : (p : Port) → model_of p ≡ r.after → Said r.holds (HoldsPort r.asked p r.answer)

abbrev pub HoldingsHold : Type 0
HoldingsHold = (r : HoldsRow) → In r holdings → HoldsIs r

-- ── and of all loads ──

-- what a load of a sheet comes to, by what is read: the port is held; or the reading's fault is told, and no other, and the port is as it was
abbrev pub ComesTo : Read → Port → Port → Result (Unit {0}) LoadError → Type 0
ComesTo (held m) before after r = HoldsPort m after r
ComesTo (refused f n) before after (Ok _) = ⊥
ComesTo (refused f n) before after (Err (Fault g k)) = (g ≡ f) × ((k ≡ n) × (after ≡ before))
ComesTo (refused f n) before after (Err Memory) = after ≡ before

-- so a sheet has one answer, but for want of memory
abbrev pub OneAnswer : Type 0
OneAnswer = (t : List ℕ) (before after : Port) (r : Result (Unit {0}) LoadError) → Loaded t before after r → ComesTo (reading t) before after r

abbrev failed : LoadError → Result (Unit {0}) LoadError
failed e = Err e

-- as it was: the same port in memory, which is more than a port that says the same. Beside each port there is another that says the same,
-- and no load without a value goes from the one to the other.
pub record Another (before : Port) : Type 0 where
  pub port : Port
  pub same : model_of port ≡ model_of before
  pub stays : (t : List ℕ) (e : LoadError) → Loaded t before port (failed e) → ⊥

abbrev pub AsItWas : Type 0
AsItWas = (before : Port) → Another before
