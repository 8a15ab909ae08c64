-- How a reader goes along: the step that is made where it stands, and what is told of it.
use Rattle.std.proofs.Common.{arith}
use Rattle.std.specs.Prelude.{◌≡◌, ℕ, ◌+◌, ◌^◌, ◌<◌, Bool, true, false, List, [], ◌∷◌, length, Ok, Err, Result}
use Rattle.std.specs.Borrow.{Bor}
use Rattle.faults.specs.declared.layers.ByteFault.TheVariants.{Ends}
use Rattle.faults.specs.declared.layers.RecordFault.{RecordFault}
use Rattle.faults.specs.declared.layers.RecordFault.TheVariants.{Byte, Absent}
use Rattle.faults.specs.declared.layers.PortFault.{PortFault}
use Rattle.faults.specs.declared.layers.PortFault.TheVariants.{Record, Count, Missing}
use Rattle.port.specs.Limits.{In}
use Rattle.reading.specs.Reading.{Step, got, fault, byte, number, count, text_length}
use Rattle.reader.specs.declared.reader.Reader.{Reader}
use Rattle.reader.specs.Reads.{step_at, Reads, Stays, itself, counted}
use Rattle.cases_words.specs.Rows.{Said, Row, gives, Shown}
use Rattle.cases_words.specs.Fields.{ends, absent_at}

-- a reader at a place, wherever its bytes are
abbrev reader : (place : ℕ) (rest : List ℕ) → place + length rest < 2 ^ 64 → Reader
reader place rest within = let bytes : Bor (List ℕ) = record { ref_ptr = (0, 0); now = rest } in record { rest = bytes; place = place; within = within }

-- at 10 with two bytes, after the first of them, after both; and elsewhere
abbrev begun : Reader
begun = reader 10 (7 ∷ 8 ∷ []) (omega arith)

abbrev next : Reader
next = reader 11 (8 ∷ []) (omega arith)

abbrev done : Reader
done = reader 12 [] (omega arith)

abbrev astray : Reader
astray = reader 10 (8 ∷ []) (omega arith)

abbrev bad : Reader
bad = reader 10 (0 ∷ 8 ∷ []) (omega arith)

-- ── a step, a byte from 1 to a limit ──

abbrev pub steps : List (Row (Step ℕ))
steps =
    -- the step is made at the reader's place, of the bytes that it has left
    gives (step_at byte begun) (got 7 11 (8 ∷ [])) (got 8 12 []) ∷
    gives (step_at byte next) (got 8 12 []) (got 7 11 (8 ∷ [])) ∷
    gives (step_at byte done) (fault (ends 12)) (fault (ends 10)) ∷
    gives (step_at (number true) bad) (fault (absent_at 10)) (got 0 11 (8 ∷ [])) ∷
    gives (step_at (number false) bad) (got 0 10 (0 ∷ 8 ∷ [])) (fault (absent_at 10)) ∷
    -- counted: from 1 to 7, and another is refused by the fault that is given
    gives (counted 7 (Missing 3) 10 (7 ∷ 9 ∷ [])) (got 7 11 (9 ∷ [])) (fault (Missing 3)) ∷
    gives (counted 7 (Missing 3) 10 (1 ∷ [])) (got 1 11 []) (got 1 10 (1 ∷ [])) ∷
    gives (counted 7 (Missing 3) 10 (8 ∷ 9 ∷ [])) (fault (Missing 3)) (got 8 11 (9 ∷ [])) ∷
    gives (counted 7 (Count 10) 10 (0 ∷ [])) (fault (Count 10)) (got 0 11 []) ∷
    gives (counted 0 (Count 10) 10 (1 ∷ [])) (fault (Count 10)) (got 1 11 []) ∷
    gives (counted 7 (Missing 3) 10 []) (fault (ends 10)) (fault (Missing 3)) ∷
    []

abbrev pub StepsShown : Type 0
StepsShown = Shown steps

abbrev pub stands_for_itself : List (Row ℕ)
stands_for_itself = gives (itself 7) 7 0 ∷ gives (itself 0) 0 1 ∷ []

abbrev pub ItselfShown : Type 0
ItselfShown = Shown stands_for_itself

-- ── what is told of a step ──

-- what is read, what a value and a fault of the code stand for, a reader before and after, and the code's answer
pub record ReadsRow (E : Type 0) : Type 0 where
  pub read : ℕ → List ℕ → Step ℕ
  pub value : ℕ → ℕ
  pub lift : E → PortFault
  pub before : Reader
  pub after : Reader
  pub answer : Result ℕ E
  pub holds : Bool

abbrev row : {E : Type 0} → (E → PortFault) → Bool → (ℕ → List ℕ → Step ℕ) → (ℕ → ℕ) → Reader → Reader → Result ℕ E → ReadsRow E
row lift holds read value before after answer =
    record { read = read; value = value; lift = lift; before = before; after = after; answer = answer; holds = holds }

-- faults that stand for themselves
abbrev plain : Bool → (ℕ → List ℕ → Step ℕ) → (ℕ → ℕ) → Reader → Reader → Result ℕ PortFault → ReadsRow PortFault
plain = row itself

abbrev pub reads : List (ReadsRow PortFault)
reads =
    -- the value, with the place and the bytes after it
    plain true byte itself begun next (Ok 7) ∷
    plain true byte itself next done (Ok 8) ∷
    plain true (number false) itself bad bad (Ok 0) ∷
    plain false byte itself begun next (Ok 8) ∷
    plain false byte itself begun begun (Ok 7) ∷
    plain false byte itself begun done (Ok 7) ∷
    plain false byte itself begun astray (Ok 7) ∷
    plain false (number true) itself bad next (Ok 0) ∷
    plain false byte itself done done (Ok 0) ∷
    -- a value stands for another
    plain true byte (λ v. v + 5) begun next (Ok 2) ∷
    plain false byte (λ v. v + 5) begun next (Ok 7) ∷
    -- a fault, and then nothing is told here of the reader after it
    plain true byte itself done done (Err (ends 12)) ∷
    plain true byte itself done begun (Err (ends 12)) ∷
    plain true (number true) itself bad next (Err (absent_at 10)) ∷
    plain false byte itself done done (Err (ends 10)) ∷
    plain false (number true) itself bad next (Err (ends 10)) ∷
    plain false byte itself begun begun (Err (ends 10)) ∷
    []

-- faults of records, that stand for faults of the port
abbrev lifted : Bool → (ℕ → List ℕ → Step ℕ) → Reader → Reader → Result ℕ RecordFault → ReadsRow RecordFault
lifted holds read before after answer = row Record holds read itself before after answer

abbrev pub lifted_reads : List (ReadsRow RecordFault)
lifted_reads =
    lifted true byte begun next (Ok 7) ∷
    lifted true byte done done (Err (Byte (Ends 12))) ∷
    lifted true (number true) bad next (Err (Absent 10)) ∷
    lifted false byte begun next (Ok 8) ∷
    lifted false (number true) bad next (Err (Absent 11)) ∷
    lifted false (number true) bad next (Err (Byte (Ends 10))) ∷
    lifted false (counted 7 (Count 12)) next done (Err (Absent 12)) ∷
    []

abbrev ReadsSay : {E : Type 0} → List (ReadsRow E) → Type 0
ReadsSay {E} rows = (r : ReadsRow E) → In r rows → Said r.holds (Reads r.read r.value r.lift r.before r.after r.answer)

-- a reader before and after, and the code's answer
pub record StaysRow : Type 0 where
  pub before : Reader
  pub after : Reader
  pub answer : Result ℕ PortFault
  pub holds : Bool

abbrev kept : Bool → Reader → Reader → Result ℕ PortFault → StaysRow
kept holds before after answer = record { before = before; after = after; answer = answer; holds = holds }

abbrev pub stays : List StaysRow
stays =
    -- after a fault the reader is where it was; of a value nothing is told
    kept true done done (Err (ends 12)) ∷
    kept true bad bad (Err (absent_at 10)) ∷
    kept true begun astray (Ok 7) ∷
    kept false bad next (Err (absent_at 10)) ∷
    kept false begun astray (Err (ends 10)) ∷
    kept false done begun (Err (ends 12)) ∷
    []

abbrev StaysSay : Type 0
StaysSay = (r : StaysRow) → In r stays → Said r.holds (Stays r.before r.after r.answer)

pub record ReadsHold : Type 0 where
  pub plain : ReadsSay reads
  pub lifted : ReadsSay lifted_reads
  pub stays : StaysSay

-- ── and of all bytes ──

-- a count of the header and the length of a text are such bytes, each with its own fault
pub record Counts : Type 0 where
  pub counts : (most p : ℕ) (s : List ℕ) → counted most (Count p) p s ≡ count most p s
  pub lengths : (p : ℕ) (s : List ℕ) → counted 63 (Missing p) p s ≡ text_length p s
