-- Moves joined onto costs.
use Rattle.std.proofs.Common.{◌≡◌, ℕ, List, [], ◌∷◌, ◌++◌, refl, ap}
use Rattle.port.specs.declared.Move.{Move}
use Rattle.costs.specs.Costs.{Model, WeakLaws, Sized, Le}
use Rattle.histories.specs.Errands.{onto}

module _ {k : Model} (laws : WeakLaws k) where
  pub onto_sized : (ms : List Move) (f : List ℕ) → Sized k f → Sized k (onto k ms f)
  onto_sized [] f s = s
  onto_sized (m ∷ ms) f s = laws.join_sized m _ (onto_sized ms f s)

  pub onto_keeps : (ms : List Move) (f g : List ℕ) → Sized k f → Sized k g → Le k f g → Le k (onto k ms f) (onto k ms g)
  onto_keeps [] f g s t h = h
  onto_keeps (m ∷ ms) f g s t h = laws.keeps m _ _ (onto_sized ms f s) (onto_sized ms g t) (onto_keeps ms f g s t h)

pub onto_more : (k : Model) (ms : List Move) (m : Move) (f : List ℕ) → onto k (ms ++ (m ∷ [])) f ≡ onto k ms (k.join m f)
onto_more k [] m f = refl
onto_more k (x ∷ ms) m f = ap (k.join x) (onto_more k ms m f)
