-- How the tests of the code settle the rules.
use Rattle.std.proofs.Common.{◌≡◌, ℕ, true, false, cond, ◌⊎◌, List, [], ◌∷◌, Some, ap, ◌∙◌, inl, inr}
use Rattle.histories.specs.Calls.{Rule, refusal}

-- Some rule is the first that applies, and this is its number.
abbrev pub Stops : List Rule → ℕ → Type 0
Stops [] n = ⊥
Stops (r ∷ rs) n = ((r.applies ≡ true) × (r.number ≡ n)) ⊎ ((r.applies ≡ false) × Stops rs n)

pub stops : (rs : List Rule) (n : ℕ) → Stops rs n → refusal rs ≡ Some n
stops [] n h = absurd h
stops (r ∷ rs) n (inl h) = ap (λ b. cond b (Some r.number) (refusal rs)) h.0 ∙ ap (λ (x : ℕ). Some x) h.1
stops (r ∷ rs) n (inr h) = ap (λ b. cond b (Some r.number) (refusal rs)) h.0 ∙ stops rs n h.1
