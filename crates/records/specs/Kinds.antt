-- The kinds of records as the bytes that stand for them, and the bits of a map as their numbers.
use Rattle.std.specs.Prelude.{◌≡◌, ◌≢◌, ℕ, MatchResult, Result}
use Rattle.reading.specs.Reading.{condition_kind, move_kind, request_kind}
use Rattle.records.specs.declared.kinds.Bit.{Bit}
use Rattle.records.specs.declared.kinds.Bit.TheVariants.{First, Second, Third, Fourth}
use Rattle.records.specs.declared.kinds.Kind.{Kind}
use Rattle.records.specs.declared.kinds.Kind.TheVariants.{Condition, Move, Request}
use Rattle.records.specs.declared.kinds.UnknownKind.{UnknownKind}

-- the byte that stands for a kind
abbrev pub kind_number : Kind → ℕ
kind_number Condition = condition_kind
kind_number Move = move_kind
kind_number Request = request_kind

-- the kind that the byte stands for, or that it stands for none
abbrev pub Decodes : ℕ → Result Kind UnknownKind → Type 0
Decodes byte r =
    MatchResult r (λ k. byte ≡ kind_number k) (λ _. (byte ≢ kind_number Condition) × (byte ≢ kind_number Move) × (byte ≢ kind_number Request))

-- the number of a bit, from the lowest
abbrev pub bit_number : Bit → ℕ
bit_number First = 0
bit_number Second = 1
bit_number Third = 2
bit_number Fourth = 3
