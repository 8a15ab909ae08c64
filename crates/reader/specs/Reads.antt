-- How a reader goes along: as a step of the defined reading says.
use Rattle.std.specs.Prelude.{◌≡◌, ℕ, List, Result, IfErr, MatchResult, nat_le, nat_lt}
use Rattle.formula.specs.Grammar.{both}
use Rattle.faults.specs.declared.layers.PortFault.{PortFault}
use Rattle.reader.specs.declared.reader.Reader.{Reader}
use Rattle.reading.specs.Reading.{Step, got, fault, and_then, provided, byte}

-- the step that a reading makes where the reader stands
abbrev pub step_at : {V : Type 0} → (ℕ → List ℕ → Step V) → Reader → Step V
step_at read at = read at.place at.rest.now

-- The answer is the value of that step, with the reader after it; or its fault. Values and faults of the code are
-- taken for what they stand for in the reading.
abbrev pub Reads : {V W E : Type 0} → (ℕ → List ℕ → Step V) → (W → V) → (E → PortFault) → Reader → Reader → Result W E → Type 0
Reads read value lift before after r =
    MatchResult r (λ v. step_at read before ≡ got (value v) after.place after.rest.now) (λ e. step_at read before ≡ fault (lift e))

-- a refusal leaves the reader where it was
abbrev pub Stays : {W E : Type 0} → Reader → Reader → Result W E → Type 0
Stays before after r = IfErr r (λ _. after ≡ before)

-- a value, and a fault, that stand for themselves
abbrev pub itself : {V : Type 0} → V → V
itself v = v

-- a byte from 1 to a limit; another is refused by this fault
unfoldable pub counted : ℕ → PortFault → ℕ → List ℕ → Step ℕ
counted most e p s = and_then (byte p s) (λ n q r. provided (both (nat_lt 0 n) (nat_le n most)) e (got n q r))
