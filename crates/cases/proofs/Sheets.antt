-- The rows of sheets: their readings are computed, all in one.
use Rattle.std.proofs.Common.{◌≡◌, ℕ, map, refl, ap, ◌∙◌, arith}
use Rattle.formula.specs.Grammar.{step, goes, verdict}
use Rattle.port.specs.Model.{Model}
use Rattle.reading.specs.Reading.{Read, held, refused, reading, and_then, provided, byte, bytes, number, field, minutes, text_length, whole_text, judged, text, rises, condition, move, request, admitted, head, body, entry, count, start_stage, opening, heading, add, finish, records}
use Rattle.reading.proofs.Keeps.{reading_valid}
use Rattle.cases.specs.Sheets.{port, says, Row, rows, SheetsHold, SheetsValid}
use Rattle.cases.proofs.Rows.{same_answers}

all_told : map (λ (r : Row). says (reading r.sheet)) rows ≡ map (λ (r : Row). r.told) rows
unfolding step goes verdict reading and_then provided byte bytes number field minutes text_length whole_text judged text rises condition move request admitted head body entry count start_stage opening heading add finish records
all_told = refl

pub sheets_hold : SheetsHold
sheets_hold = same_answers (λ (r : Row). says (reading r.sheet)) (λ (r : Row). r.told) rows all_told

is_held : (x : Read) (m : Model) → says x ≡ port m → x ≡ held m
is_held (held n) m e = let h : n ≡ m = cc in ap held h
is_held (refused f n) m e = let z : ◌≡◌ {A = ℕ} 0 1 = cc in absurd (omega arith)

pub sheets_valid : SheetsValid
sheets_valid r i m e = reading_valid r.sheet m (is_held (reading r.sheet) m (sheets_hold r i ∙ e))
