-- Costs that are there or not.
use Rattle.std.proofs.Common.{◌≡◌, ℕ, List, get_or, Some, None, Option, subst, arith}
use Rattle.costs.specs.Compare.{shown}
use Rattle.costs.specs.Costs.{Model, Sized}
use Rattle.tables.specs.Tables.{looked}

pub some_inj : {a b : List ℕ} → Some a ≡ Some b → a ≡ b
some_inj e = cc

pub none_some : {a : List ℕ} → ◌≡◌ {A = Option (List ℕ)} None (Some a) → ⊥
none_some e = let z : ◌≡◌ {A = ℕ} 0 1 = cc in omega arith

abbrev pub AllSized : Model → (ℕ → Option (List ℕ)) → Type 0
AllSized k V = (c : ℕ) (a : List ℕ) → V c ≡ Some a → Sized k a

pub looked_sized : {A : Type 0} (k : Model) (e : A → List ℕ) → ((a : A) → Sized k (e a)) → (t : List (Option A)) → AllSized k (looked e t)
looked_sized {A} k e sized t c f q = go (get_or t c None) q
  where
    go : (x : Option A) → shown e x ≡ Some f → Sized k f
    go None q = absurd (none_some q)
    go (Some a) q = subst (Sized k) (some_inj q) (sized a)
