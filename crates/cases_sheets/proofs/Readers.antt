-- The rows of readers.
use Rattle.std.proofs.Common.{◌≡◌, ℕ, List, length, Ok, Err, Result, sym, refl, ap, subst, inl, inr, arith}
use Rattle.faults.specs.declared.layers.PortFault.{PortFault}
use Rattle.faults.specs.declared.layers.RecordFault.{RecordFault}
use Rattle.port.specs.Limits.{In}
use Rattle.reading.specs.Reading.{Step, got, fault, and_then, provided, byte, number, count, text_length}
use Rattle.reader.specs.declared.reader.Reader.{Reader}
use Rattle.reader.specs.Reads.{step_at, Reads, Stays, counted}
use Rattle.cases_words.specs.Rows.{Said}
use Rattle.cases_words.proofs.Rows.{all_shown}
use Rattle.cases_words.proofs.Fields.{step_code, number_code}
use Rattle.cases_sheets.specs.Readers.{steps, StepsShown, stands_for_itself, ItselfShown, ReadsRow, reads, lifted_reads, StaysRow, stays, ReadsHold, Counts}
use Rattle.cases_sheets.proofs.Rows.{all_same, said_as}

pub steps_shown : StepsShown
unfolding and_then provided byte number counted
steps_shown = all_shown (step_code number_code) steps refl refl

pub itself_shown : ItselfShown
itself_shown = all_shown number_code stands_for_itself refl refl

module _ {E : Type 0} where
  -- the step that the answer tells
  abbrev told : (ℕ → ℕ) → (E → PortFault) → Reader → Result ℕ E → Step ℕ
  told value lift after (Ok v) = got (value v) after.place after.rest.now
  told value lift after (Err e) = fault (lift e)

  abbrev made : ReadsRow E → Step ℕ
  made r = step_at r.read r.before

  abbrev telling : ReadsRow E → Step ℕ
  telling r = told r.value r.lift r.after r.answer

  to_reads : (read : ℕ → List ℕ → Step ℕ) (value : ℕ → ℕ) (lift : E → PortFault) (before after : Reader) (r : Result ℕ E) →
      step_at read before ≡ told value lift after r → Reads read value lift before after r
  to_reads read value lift before after (Ok v) e = e
  to_reads read value lift before after (Err f) e = e

  from_reads : (read : ℕ → List ℕ → Step ℕ) (value : ℕ → ℕ) (lift : E → PortFault) (before after : Reader) (r : Result ℕ E) →
      Reads read value lift before after r → step_at read before ≡ told value lift after r
  from_reads read value lift before after (Ok v) e = e
  from_reads read value lift before after (Err f) e = e

  reads_say : (r : ReadsRow E) → Said r.holds (made r ≡ telling r) → Said r.holds (Reads r.read r.value r.lift r.before r.after r.answer)
  reads_say r =
      said_as r.holds (to_reads r.read r.value r.lift r.before r.after r.answer) (from_reads r.read r.value r.lift r.before r.after r.answer)

plain_same : (r : ReadsRow PortFault) → In r reads → Said r.holds (made r ≡ telling r)
unfolding and_then provided byte number counted
plain_same = all_same (step_code number_code) made telling (λ (r : ReadsRow PortFault). r.holds) reads refl refl

lifted_same : (r : ReadsRow RecordFault) → In r lifted_reads → Said r.holds (made r ≡ telling r)
unfolding and_then provided byte number counted
lifted_same = all_same (step_code number_code) made telling (λ (r : ReadsRow RecordFault). r.holds) lifted_reads refl refl

-- ── a reader that stays ──

abbrev Right : StaysRow → Type 0
Right r = Said r.holds (Stays r.before r.after r.answer)

moved : (a b : Reader) → (a.place ≡ b.place → ⊥) → a ≡ b → ⊥
moved a b differ e = differ (ap (λ (r : Reader). r.place) e)

shorter : (a b : Reader) → (length a.rest.now ≡ length b.rest.now → ⊥) → a ≡ b → ⊥
shorter a b differ e = differ (ap (λ (r : Reader). length r.rest.now) e)

stays_say : (r : StaysRow) → In r stays → Right r
stays_say r (inl e) = subst Right (sym e) refl
stays_say r (inr (inl e)) = subst Right (sym e) refl
stays_say r (inr (inr (inl e))) = subst Right (sym e) tt
stays_say r (inr (inr (inr (inl e)))) = subst Right (sym e) (moved _ _ (λ q. omega arith))
stays_say r (inr (inr (inr (inr (inl e))))) = subst Right (sym e) (shorter _ _ (λ q. omega arith))
stays_say r (inr (inr (inr (inr (inr (inl e)))))) = subst Right (sym e) (moved _ _ (λ q. omega arith))
stays_say r (inr (inr (inr (inr (inr (inr i)))))) = absurd i

pub reads_hold : ReadsHold
reads_hold = record { plain = λ r i. reads_say r (plain_same r i); lifted = λ r i. reads_say r (lifted_same r i); stays = stays_say }

pub counts_are : Counts
unfolding counted count text_length
counts_are = record { counts = λ most p s. refl; lengths = λ p s. refl }
