-- The rows of records.
use Rattle.std.proofs.Common.{ℕ, List, [], ◌∷◌, ◌++◌, length, refl}
use Rattle.formula.specs.Grammar.{step, goes, verdict}
use Rattle.port.specs.declared.Move.{Move}
use Rattle.port.specs.Model.{Model, RequestModel}
use Rattle.reading.specs.Reading.{and_then, provided, byte, bytes, number, field, minutes, text_length, whole_text, judged, text, rises, condition, move, request, Head, admitted, head, body, Entry, condition_entry, move_entry, request_entry, entry, add}
use Rattle.cases_words.specs.Records.{conditions, moves, requests, tests, begins, entries, grown, ConditionsShown, MovesShown, RequestsShown, RecordTestsShown, BeginsShown, EntriesShown, GrownShown}
use Rattle.cases_words.proofs.Rows.{all_shown}
use Rattle.cases_words.proofs.Bits.{bit_code}
use Rattle.cases_words.proofs.Limits.{move_code}
use Rattle.cases_words.proofs.Fields.{step_code, header_code, number_code}

abbrev request_code : RequestModel → List ℕ
request_code w = w.from ∷ w.to ∷ (w.keep ++ (124 ∷ w.reach))

abbrev head_code : Head → List ℕ
head_code h = h.kind ∷ h.place ∷ h.map ∷ h.map_place ∷ []

abbrev entry_code : Entry → List ℕ
entry_code (condition_entry c) = 1 ∷ c ∷ []
entry_code (move_entry v) = 2 ∷ move_code v
entry_code (request_entry w) = 3 ∷ request_code w

abbrev moves_code : List Move → List ℕ
moves_code [] = []
moves_code (v ∷ vs) = move_code v ++ moves_code vs

abbrev requests_code : List RequestModel → List ℕ
requests_code [] = []
requests_code (w ∷ ws) = request_code w ++ requests_code ws

abbrev pub model_code : Model → List ℕ
model_code m =
    header_code m.header ++ ((length m.conditions ∷ m.conditions) ++ ((length m.moves ∷ moves_code m.moves) ++ requests_code m.requests))

pub conditions_shown : ConditionsShown
unfolding and_then provided byte number field rises condition
conditions_shown = all_shown (step_code number_code) conditions refl refl

pub moves_shown : MovesShown
unfolding and_then provided byte number field minutes rises move
moves_shown = all_shown (step_code move_code) moves refl refl

pub requests_shown : RequestsShown
unfolding and_then provided byte bytes number field text_length whole_text judged text request step goes verdict
requests_shown = all_shown (step_code request_code) requests refl refl

pub tests_shown : RecordTestsShown
tests_shown = all_shown bit_code tests refl refl

pub begins_shown : BeginsShown
unfolding and_then provided byte admitted head
begins_shown = all_shown (step_code head_code) begins refl refl

pub entries_shown : EntriesShown
unfolding and_then provided byte bytes number field minutes text_length whole_text judged text rises condition move request admitted head body entry step goes verdict
entries_shown = all_shown (step_code entry_code) entries refl refl

pub grown_shown : GrownShown
unfolding add
grown_shown = all_shown model_code grown refl refl
