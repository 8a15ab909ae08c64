-- Tables of costs.
use Rattle.std.proofs.Common.{◌≡◌, ℕ, zero, suc, ◌<◌, ◌≤◌, List, [], ◌∷◌, length, get_or, set, Some, None, Option, sym, refl, ap, arith}
use Rattle.costs.specs.Compare.{shown}
use Rattle.search.specs.Labels.{done}
use Rattle.tables.proofs.Options.{some_inj, none_some}

-- what the table has, as a cost of the program
pub unshown : {A : Type 0} (e : A → List ℕ) (x : Option A) (f : List ℕ) → shown e x ≡ Some f → (a : A) × (x ≡ Some a) × (e a ≡ f)
unshown e None f q = absurd (none_some q)
unshown e (Some a) f q = (a, refl, some_inj q)

pub unshown_none : {A : Type 0} (e : A → List ℕ) (x : Option A) → shown e x ≡ None → x ≡ None
unshown_none e None q = refl
unshown_none e (Some a) q = absurd (none_some (sym q))

pub done_most : {A : Type 0} (t : List (Option A)) → done t ≤ length t
done_most [] = omega arith
done_most (None ∷ t) = let h = done_most t in omega arith
done_most (Some a ∷ t) = let h = done_most t in omega arith

-- a table without a cost is not full
pub done_open : {A : Type 0} (t : List (Option A)) (i : ℕ) → i < length t → get_or t i None ≡ None → done t < length t
done_open [] i l e = absurd (omega arith)
done_open (None ∷ t) zero l e = let h = done_most t in omega arith
done_open (Some a ∷ t) zero l e = let z : ◌≡◌ {A = ℕ} 0 1 = cc in absurd (omega arith)
done_open (None ∷ t) (suc i) l e = let h = done_open t i (omega arith) e in omega arith
done_open (Some a ∷ t) (suc i) l e = let h = done_open t i (omega arith) e in omega arith

pub done_more : {A : Type 0} (t : List (Option A)) (i : ℕ) (a : A) → i < length t → get_or t i None ≡ None → done (set t i (Some a)) ≡ suc (done t)
done_more [] i a l e = absurd (omega arith)
done_more (None ∷ t) zero a l e = refl
done_more (Some b ∷ t) zero a l e = let z : ◌≡◌ {A = ℕ} 0 1 = cc in absurd (omega arith)
done_more (None ∷ t) (suc i) a l e = done_more t i a (omega arith) e
done_more (Some b ∷ t) (suc i) a l e = ap suc (done_more t i a (omega arith) e)

pub done_some : {A : Type 0} (t : List (Option A)) (i : ℕ) (a : A) → get_or t i None ≡ Some a → 0 < done t
done_some [] i a e = let z : ◌≡◌ {A = ℕ} 0 1 = cc in absurd (omega arith)
done_some (None ∷ t) zero a e = let z : ◌≡◌ {A = ℕ} 0 1 = cc in absurd (omega arith)
done_some (Some b ∷ t) zero a e = omega arith
done_some (None ∷ t) (suc i) a e = done_some t i a e
done_some (Some b ∷ t) (suc i) a e = omega arith
