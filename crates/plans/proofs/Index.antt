-- Membership by index, and through a map.
use Rattle.std.proofs.Common.{◌≡◌, ℕ, zero, suc, ◌<◌, Bool, true, false, List, [], ◌∷◌, map, length, get_or, sym, refl, subst, inl, inr, arith}
use Rattle.port.specs.Limits.{In}

pub in_at : {A : Type 0} (xs : List A) (i : ℕ) (d : A) → i < length xs → In (get_or xs i d) xs
in_at [] i d l = absurd (omega arith)
in_at (x ∷ xs) zero d l = inl refl
in_at (x ∷ xs) (suc i) d l = inr (in_at xs i d (omega arith))

pub at_in : {A : Type 0} (x : A) (xs : List A) (d : A) → In x xs → (i : ℕ) × (i < length xs) × (get_or xs i d ≡ x)
at_in x [] d i = absurd i
at_in x (y ∷ ys) d (inl e) = (0, omega arith, sym e)
at_in x (y ∷ ys) d (inr i) = let t = at_in x ys d i in (suc t.0, omega (arith, t.1), t.2)

-- What holds at each index holds of each element.
pub at_all : {A : Type 0} (D : A → Type 0) (xs : List A) (d : A) → ((i : ℕ) → i < length xs → D (get_or xs i d)) → (x : A) → In x xs → D x
at_all D xs d h x i = let t = at_in x xs d i in subst D t.2 (h t.0 t.1)

pub is_false : (b : Bool) → (b ≡ true → ⊥) → b ≡ false
is_false true h = absurd (h refl)
is_false false h = refl

-- ── through a map ──

pub of_map : {A B : Type 0} (f : A → B) (b : B) (xs : List A) → In b (map f xs) → (a : A) × In a xs × (b ≡ f a)
of_map f b [] i = absurd i
of_map f b (x ∷ xs) (inl e) = (x, inl refl, e)
of_map f b (x ∷ xs) (inr i) = let t = of_map f b xs i in (t.0, inr t.1, t.2)
