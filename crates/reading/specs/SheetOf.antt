-- The bytes of a port's sheet.
use Rattle.std.specs.Prelude.{ℕ, zero, suc, ◌+◌, ◌*◌, ◌/◌, ◌%◌, ◌<◌, cond, List, [], ◌∷◌, ◌++◌, length}
use Rattle.port.specs.declared.Header.{Header}
use Rattle.port.specs.declared.Move.{Move}
use Rattle.port.specs.Numbers.{byte_end}
use Rattle.port.specs.Model.{Model, RequestModel}
use Rattle.reading.specs.Reading.{same, absent, condition_kind, move_kind, request_kind, opening_bytes}

-- every member is a byte
abbrev pub Bytes : List ℕ → Type 0
Bytes [] = Unit {0}
Bytes (b ∷ s) = (b < byte_end) × Bytes s

-- a number, minutes and a text; an absent one takes no byte
abbrev pub number_bytes : ℕ → List ℕ
number_bytes zero = []
number_bytes (suc v) = suc v ∷ []

abbrev pub minutes_bytes : ℕ → List ℕ
minutes_bytes zero = []
minutes_bytes (suc v) = suc v / byte_end ∷ suc v % byte_end ∷ []

abbrev pub text_bytes : List ℕ → List ℕ
text_bytes w = cond (same w absent) [] (length w ∷ w)

-- the bit of the map that says whether it is there
abbrev pub bit_of : ℕ → ℕ
bit_of zero = 0
bit_of (suc v) = 1

abbrev pub text_bit : List ℕ → ℕ
text_bit w = cond (same w absent) 0 1

abbrev pub condition_bytes : ℕ → List ℕ
condition_bytes c =
    condition_kind ∷ (bit_of (c % byte_end) + 2 * bit_of (c / byte_end))
    ∷ (number_bytes (c % byte_end) ++ number_bytes (c / byte_end))

abbrev pub move_bytes : Move → List ℕ
move_bytes v =
    move_kind ∷ (bit_of v.condition + 2 * bit_of v.operation + 4 * bit_of v.outcome + 8 * bit_of v.minutes)
    ∷ (number_bytes v.condition ++ (number_bytes v.operation ++ (number_bytes v.outcome ++ minutes_bytes v.minutes)))

abbrev pub request_bytes : RequestModel → List ℕ
request_bytes w =
    request_kind ∷ (bit_of w.from + 2 * bit_of w.to + 4 * text_bit w.keep + 8 * text_bit w.reach)
    ∷ (number_bytes w.from ++ (number_bytes w.to ++ (text_bytes w.keep ++ text_bytes w.reach)))

unfoldable pub concatenated : {V : Type 0} → (V → List ℕ) → List V → List ℕ
concatenated f [] = []
concatenated f (x ∷ xs) = f x ++ concatenated f xs

abbrev pub records_of : Model → List ℕ
records_of m = concatenated condition_bytes m.conditions ++ (concatenated move_bytes m.moves ++ concatenated request_bytes m.requests)

abbrev pub header_of : Header → List ℕ
header_of h = opening_bytes ++ (h.marks ∷ h.operations ∷ h.stages ∷ h.stage ∷ h.condition ∷ [])

unfoldable pub sheet_of : Model → List ℕ
sheet_of m = header_of m.header ++ records_of m
