-- What the laws give of the order.
use Rattle.std.proofs.Common.{◌≡◌, ℕ, Bool, true, false, not, T, List, [], ◌∷◌, sym, refl, subst, ⊎_elim}
use mathlib.Core.Bool.{false≢true}
use Rattle.port.specs.declared.Move.{Move}
use Rattle.costs.specs.Costs.{Model, Laws, WeakLaws, Sized, Le, cost}

pub was_true : {b : Bool} → b ≡ true → T b
was_true e = subst T (sym e) tt

pub not_true : (b : Bool) → not b ≡ true → b ≡ false
not_true true e = absurd (false≢true e)
not_true false e = refl

-- The strict law gives the weak one.
pub weaken : {k : Model} → Laws k → WeakLaws k
weaken {k} laws = record {
  zero_sized = laws.zero_sized;
  join_sized = laws.join_sized;
  total = laws.total;
  chain = laws.chain;
  tie = laws.tie;
  least = laws.least;
  keeps = laws.keeps;
  rises = λ m a s. ⊎_elim (λ h. h) (λ h. absurd (laws.grows m a s h)) (laws.total a (k.join m a) s (laws.join_sized m a s));
}

module _ {k : Model} (laws : WeakLaws k) where
  pub reflexive : (a : List ℕ) → Sized k a → Le k a a
  reflexive a s = ⊎_elim (λ t. t) (λ t. t) (laws.total a a s s)

  pub cost_sized : (ms : List Move) → Sized k (cost k ms)
  cost_sized [] = laws.zero_sized
  cost_sized (m ∷ ms) = laws.join_sized m (cost k ms) (cost_sized ms)
