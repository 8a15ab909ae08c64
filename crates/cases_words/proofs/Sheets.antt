-- The rows of sheets.
use Rattle.std.proofs.Common.{◌≡◌, ℕ, Bool, true, false, not, ◌&&◌, ◌||◌, ltb, List, [], ◌∷◌, ◌++◌, codes, map, sym, refl, ap, ◌∙◌, subst}
use mathlib.Core.Bool.{false≢true}
use Rattle.std.specs.Bool.{Decides}
use Rattle.std.proofs.lemmas.Bool.Decides.{Decides-and, Decides-ltb}
use Rattle.formula.specs.Grammar.{step, goes, verdict, TextVerdict, whole, stuck}
use Rattle.formula.proofs.Language.{whole_verdict}
use Rattle.port.specs.Model.{Model}
use Rattle.faults.specs.declared.layers.PortFault.TheVariants.{Start}
use Rattle.reading.specs.Reading.{Read, held, refused, same, and_then, provided, byte, bytes, number, field, minutes, text_length, whole_text, judged, text, rises, condition, move, request, admitted, head, body, entry, count, start_stage, opening, heading, add, finish, records, reading}
use Rattle.reading.specs.SheetOf.{Bytes, concatenated, sheet_of}
use Rattle.reading.specs.Theorems.{Only, GrammarAgrees}
use Rattle.reading.proofs.Steps.{same_true, same_self}
use Rattle.reading.proofs.Sound.{reading_only}
use Rattle.reading.proofs.Keeps.{reading_valid}
use Rattle.reading.proofs.Complete.{reading_complete}
use Rattle.reading.proofs.Words.{grammatical}
use Rattle.cases_words.specs.Limits as limits
use Rattle.cases_words.specs.Ports.{header, port, heads}
use Rattle.cases_words.specs.Sheets.{written, map_bits, BytesRow, byte_lists, BytesHold, reads, OnlyRow, onlies, OnliesHold, JudgedRow, judgements, JudgementsHold, Needed, WrittenShown, MapBitsShown, ReadsShown}
use Rattle.cases_words.proofs.Rows.{all_shown, all_said, apart, same_answers, said}
use Rattle.cases_words.proofs.Formulas.{faulty_by, is_stuck}
use Rattle.cases_words.proofs.Fields.{fault_code, number_code}
use Rattle.cases_words.proofs.Ports.{valid, valid_decides}
use Rattle.cases_words.proofs.Records.{model_code}

pub written_shown : WrittenShown
unfolding concatenated sheet_of
written_shown = all_shown (λ (w : List ℕ). w) written refl refl

pub map_bits_shown : MapBitsShown
map_bits_shown = all_shown number_code map_bits refl refl

abbrev are_bytes : List ℕ → Bool
are_bytes [] = true
are_bytes (b ∷ s) = ltb b 256 && are_bytes s

bytes_decides : (s : List ℕ) → Decides (are_bytes s) (Bytes s)
bytes_decides [] = (λ e. tt, λ h. refl)
bytes_decides (b ∷ s) = Decides-and (ltb b 256) (are_bytes s) (Decides-ltb b 256) (bytes_decides s)

pub bytes_hold : BytesHold
unfolding concatenated sheet_of
bytes_hold = all_said _ (λ (r : BytesRow). are_bytes r.list) (λ (r : BytesRow). r.holds) (λ r. bytes_decides r.list) byte_lists refl

abbrev read_code : Read → List ℕ
read_code (held m) = 0 ∷ model_code m
read_code (refused f n) = 1 ∷ (fault_code f ++ (n ∷ []))

pub reads_shown : ReadsShown
unfolding concatenated sheet_of step goes verdict reading and_then provided byte bytes number field minutes text_length whole_text judged text rises condition move request admitted head body entry count start_stage opening heading add finish records
reads_shown = all_shown read_code reads refl refl

-- ── the only sheet of a port ──

-- the port is not valid, or the sheet is its own
abbrev is_only : List ℕ → Model → Bool
is_only t m = not (valid m) || same t (sheet_of m)

only_decides : (t : List ℕ) (m : Model) → (valid m ≡ true → are_bytes (sheet_of m) ≡ true) → Decides (is_only t m) (Only t m)
only_decides t m b = go (valid m) refl
  where
    go : (v : Bool) → valid m ≡ v → Decides (not v || same t (sheet_of m)) (Only t m)
    go false e = (λ _ u _ r. absurd (false≢true (sym e ∙ (valid_decides m).1 (reading_valid u m r))), λ _. refl)
    go true e = (
      λ s. reading_only t m (same_true t (sheet_of m) s),
      λ o.
          let p : sheet_of m ≡ t = o (sheet_of m) ((bytes_decides (sheet_of m)).0 (b e)) (reading_complete m ((valid_decides m).0 e)) in
          subst (λ x. same x (sheet_of m) ≡ true) p (same_self (sheet_of m)),
    )

all_only : map (λ (r : OnlyRow). is_only r.sheet r.port) onlies ≡ map (λ (r : OnlyRow). r.holds) onlies
unfolding concatenated sheet_of step goes verdict
all_only = refl

all_bytes : map (λ (r : OnlyRow). not (valid r.port) || are_bytes (sheet_of r.port)) onlies ≡ map (λ (r : OnlyRow). true) onlies
unfolding concatenated sheet_of step goes verdict
all_bytes = refl

implied : (a b : Bool) → (not a || b) ≡ true → a ≡ true → b ≡ true
implied true b e h = e
implied false b e h = absurd (false≢true h)

pub onlies_hold : OnliesHold
onlies_hold r i =
    said (is_only r.sheet r.port) r.holds
    (same_answers (λ (r : OnlyRow). is_only r.sheet r.port) (λ (r : OnlyRow). r.holds) onlies all_only r i)
    (only_decides r.sheet r.port
    (implied (valid r.port) (are_bytes (sheet_of r.port))
    (same_answers (λ (r : OnlyRow). not (valid r.port) || are_bytes (sheet_of r.port)) (λ (r : OnlyRow). true) onlies all_bytes r i)))

-- ── what the grammar says of a text ──

abbrev is_judged : TextVerdict → TextVerdict → Bool
is_judged v whole = elim v [ whole ↦ true | stuck p ↦ false ]
is_judged v (stuck k) = is_stuck v k

is_whole_verdict : (v : TextVerdict) → is_judged v whole ≡ true → v ≡ whole
is_whole_verdict whole e = refl
is_whole_verdict (stuck p) e = absurd (false≢true e)

judged_decides : (n : ℕ) (t : List ℕ) (v : TextVerdict) → Decides (is_judged (verdict n t) v) (GrammarAgrees n t v)
judged_decides n t whole = (
  λ e. subst (GrammarAgrees n t) (is_whole_verdict (verdict n t) e) (grammatical n t),
  λ j. ap (λ v. is_judged v whole) (whole_verdict n 0 t (j 0).0 (j 0).1),
)
judged_decides n t (stuck k) = faulty_by n t k (verdict n t) (grammatical n t)

pub judgements_hold : JudgementsHold
unfolding verdict goes step
judgements_hold =
    all_said _ (λ (r : JudgedRow). is_judged (verdict r.marks r.text) r.verdict) (λ (r : JudgedRow). r.holds)
    (λ r. judged_decides r.marks r.text r.verdict) judgements refl

-- ── premises that are needed ──

-- a move of 300 minutes, with a low byte of 300
abbrev no_bytes : List ℕ
no_bytes = codes "GATE" ++ (1 ∷ 1 ∷ 1 ∷ 0 ∷ 0 ∷ 1 ∷ 0 ∷ 2 ∷ 8 ∷ 0 ∷ 300 ∷ [])

abbrev slow : Model
slow = port (header 1 1 1 0 0) (0 ∷ []) (limits.move 0 0 0 300 ∷ []) []

read_slow : reading no_bytes ≡ held slow
unfolding concatenated sheet_of step goes verdict reading and_then provided byte bytes number field minutes text_length whole_text judged text rises condition move request admitted head body entry count start_stage opening heading add finish records
read_slow = refl

other_sheet : same no_bytes (sheet_of slow) ≡ false
unfolding concatenated sheet_of
other_sheet = refl

-- a port without conditions has no start
abbrev nowhere : Model
nowhere = port heads [] [] []

read_nowhere : reading (sheet_of nowhere) ≡ refused Start 0
unfolding concatenated sheet_of step goes verdict reading and_then provided byte bytes number field minutes text_length whole_text judged text rises condition move request admitted head body entry count start_stage opening heading add finish records
read_nowhere = refl

pub needed : Needed
needed =
    record {
      bytes = λ h. apart (λ (w : List ℕ). w) no_bytes (sheet_of slow) other_sheet (h no_bytes slow read_slow);
      valid = λ h. apart read_code (refused Start 0) (held nowhere) refl (sym read_nowhere ∙ h nowhere);
    }
