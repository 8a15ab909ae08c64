-- What the reading says of a text is what the grammar says of it.
use Rattle.std.proofs.Common.{◌≡◌, ℕ, zero, suc, ◌+◌, ◌≤◌, Bool, true, false, List, [], ◌∷◌, length, sym, refl, ◌∙◌, arith}
use Rattle.formula.specs.Grammar.{TextVerdict, whole, stuck, verdict, goes, step, refuse, to}
use Rattle.formula.proofs.Language.{complete, no_formula}
use Rattle.formula.proofs.Steps.{goes_end, goes_open, goes_refuse, goes_to}
use Rattle.reading.specs.Theorems.{GrammarAgrees, Grammatical}

same_place : (p q : ℕ) → stuck p ≡ stuck q → p ≡ q
same_place p q e = cc

-- a reading is stuck within the text or at its end
stuck_within : (n : ℕ) (e : Bool) (d : ℕ) (xs : List ℕ) (p q : ℕ) → goes n e d xs p ≡ stuck q → q ≤ p + length xs
unfolding goes
stuck_within n true d [] p q h = omega (arith, same_place p q (sym (goes_end n d p) ∙ h))
stuck_within n false zero [] p q h = let z : ◌≡◌ {A = ℕ} 0 1 = cc in absurd (omega arith)
stuck_within n false (suc d) [] p q h = omega (arith, same_place p q (sym (goes_open n d p) ∙ h))
stuck_within n e d (b ∷ xs) p q h =
    elim (step n e d b) as (λ s. step n e d b ≡ s → q ≤ p + suc (length xs)) [
      | refuse ↦ λ r. omega (arith, same_place p q (sym (goes_refuse n e d b xs p r) ∙ h))
      | to f k ↦ λ r. omega (arith, stuck_within n f k xs (p + 1) q (sym (goes_to n e d b xs p r) ∙ h))
    ] refl

judged_by : (n : ℕ) (t : List ℕ) (v : TextVerdict) → goes n true 0 t 0 ≡ v → GrammarAgrees n t v
judged_by n t whole h = λ m. complete n m t h
judged_by n t (stuck k) h = no_formula n t k (omega (arith, stuck_within n true 0 t 0 k h)) h

pub grammatical : Grammatical
unfolding verdict
grammatical n t = judged_by n t (verdict n t) refl
