-- What the parts of a ruling say.
use Rattle.std.specs.Prelude.{◌≡◌, ℕ, ◌<◌, true, not, List, [], ◌∷◌, Some, None, Ok, Err, Option, Result}
use Rattle.plans.specs.Flags.{task_at}
use Rattle.solver.specs.declared.Entry.TheVariants.{Work}
use Rattle.solver.specs.Policy.{World}
use Rattle.histories.specs.Calls.{Rule, rule, refusal, offered, placed, cost_at}
use Rattle.histories.specs.Refusals.{not_offered, no_condition}
use Rattle.control.specs.declared.refusal.Refusal.{Refusal}
use Rattle.control.specs.Numbers.{refusal_number}

-- The request is one of the stage, and the lock stands in condition c.
pub record Spot (w : World) (s : ℕ) (p : Option ℕ) (q c : ℕ) : Type 0 where
  pub offer : offered w s q ≡ true
  pub at : p ≡ Some c
  pub inside : c < w.domain.conditions

-- The rules that every request has.
abbrev pub spot_rules : World → ℕ → Option ℕ → ℕ → List Rule
spot_rules w s p q = rule not_offered (not (offered w s q)) ∷ rule no_condition (not (placed w p)) ∷ []

-- That, or the first of these rules that refuses.
abbrev pub Spotted : World → ℕ → Option ℕ → ℕ → Result ℕ Refusal → Type 0
Spotted w s p q (Ok c) = Spot w s p q c
Spotted w s p q (Err e) = refusal (spot_rules w s p q) ≡ Some (refusal_number e)

-- What is found where no rule refuses, or the number of the first that does.
abbrev pub Found : {X : Type 0} → List Rule → (X → Type 0) → Result X Refusal → Type 0
Found rs P (Ok x) = (refusal rs ≡ None) × P x
Found rs P (Err e) = refusal rs ≡ Some (refusal_number e)

-- The policy's cost for request q at p is x.
abbrev pub Priced : {K : Type 0} → (K → List ℕ) → World → Option ℕ → ℕ → K → Type 0
Priced e w p q x = e x ≡ cost_at w q p

-- The policy's entry for request q at p is to work operation o.
abbrev pub Next : World → Option ℕ → ℕ → ℕ → Type 0
Next w p q o = (c : ℕ) × ((p ≡ Some c) × (w.entry q c ≡ Work o))

-- The stage that request q leads to is s.
abbrev pub Target : World → Option ℕ → ℕ → ℕ → Type 0
Target w _ q s = s ≡ (task_at w.domain q).to
