-- The rows of records.
use Rattle.std.proofs.Common.{◌≡◌, ℕ, Bool, not, ◌&&◌, eqb, List, [], ◌∷◌, ◌++◌, Ok, Err, MatchResult, Result, refl}
use Rattle.std.specs.Bool.{Decides}
use Rattle.std.proofs.lemmas.Bool.Decides.{Decides-and, Decides-not, Decides-eqb}
use Rattle.faults.specs.declared.layers.PortFault.{PortFault}
use Rattle.port.specs.Model.{Model, RequestModel}
use Rattle.reading.specs.Reading.{Step, fault, Head, admitted, Entry, condition_entry, move_entry, request_entry}
use Rattle.records.specs.declared.kinds.Kind.{Kind}
use Rattle.records.specs.declared.kinds.UnknownKind.{UnknownKind}
use Rattle.records.specs.Kinds.{kind_number, Decodes}
use Rattle.records.specs.Admission.{admission}
use Rattle.records.proofs.Admitted.{admission_fault, admission_passed}
use Rattle.cases_words.proofs.Rows.{all_shown, all_said}
use Rattle.cases_words.proofs.Fields.{fault_code, number_code}
use Rattle.cases_words.proofs.Limits.{move_code}
use Rattle.cases_sheets.specs.Records.{kinds, KindsShown, DecodesRow, decodings, DecodingsHold, admissions, AdmissionsShown, AdmitsAsRead, heads_read, HeadsShown, requests, RequestsShown, entries, EntriesShown}

pub kinds_shown : KindsShown
kinds_shown = all_shown number_code kinds refl refl

abbrev is_none : ℕ → Bool
is_none byte = not (eqb byte 1) && (not (eqb byte 2) && not (eqb byte 3))

abbrev decodes : ℕ → Result Kind UnknownKind → Bool
decodes byte (Ok k) = eqb byte (kind_number k)
decodes byte (Err e) = is_none byte

decodes_decides : (byte : ℕ) (r : Result Kind UnknownKind) → Decides (decodes byte r) (Decodes byte r)
decodes_decides byte (Ok k) = Decides-eqb byte (kind_number k)
decodes_decides byte (Err e) =
    let d =
    Decides-and (not (eqb byte 1)) (not (eqb byte 2) && not (eqb byte 3)) (Decides-not (eqb byte 1) (Decides-eqb byte 1))
    (Decides-and (not (eqb byte 2)) (not (eqb byte 3)) (Decides-not (eqb byte 2) (Decides-eqb byte 2)) (Decides-not (eqb byte 3) (Decides-eqb byte 3))) in
    (λ t. let h = d.0 t in (h.0, h.1.0, h.1.1), λ h. d.1 (h.0, (h.1, h.2)))

pub decodings_hold : DecodingsHold
decodings_hold =
    all_said _ (λ (r : DecodesRow). decodes r.byte r.answer) (λ (r : DecodesRow). r.holds) (λ r. decodes_decides r.byte r.answer) decodings refl

abbrev admission_code : Result (Unit {0}) PortFault → List ℕ
admission_code (Ok u) = []
admission_code (Err f) = fault_code f

pub admissions_shown : AdmissionsShown
admissions_shown = all_shown admission_code admissions refl refl

module _ (m : Model) (k p : ℕ) (x : Step Head) where
  admits : (r : Result (Unit {0}) PortFault) → admission m k p ≡ r → MatchResult r (λ _. admitted m k p x ≡ x) (λ f. admitted m k p x ≡ fault f)
  admits (Ok u) e = admission_passed m k p x u e
  admits (Err f) e = admission_fault m k p x f e

pub admits_as_read : AdmitsAsRead
admits_as_read m k p x = admits m k p x (admission m k p) refl

abbrev head_code : Head → List ℕ
head_code h = h.kind ∷ h.place ∷ h.map ∷ h.map_place ∷ []

pub heads_shown : HeadsShown
heads_shown = all_shown head_code heads_read refl refl

abbrev pub request_code : RequestModel → List ℕ
request_code w = w.from ∷ w.to ∷ (w.keep ++ (124 ∷ w.reach))

pub requests_shown : RequestsShown
requests_shown = all_shown request_code requests refl refl

abbrev entry_code : Entry → List ℕ
entry_code (condition_entry c) = 1 ∷ c ∷ []
entry_code (move_entry v) = 2 ∷ move_code v
entry_code (request_entry w) = 3 ∷ request_code w

pub entries_shown : EntriesShown
entries_shown = all_shown entry_code entries refl refl
