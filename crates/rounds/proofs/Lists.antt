-- Lists of rows, and rows of flags.
use Rattle.std.proofs.Common.{◌≡◌, ℕ, zero, suc, ◌+◌, ◌-◌, ◌*◌, ◌<◌, ◌≤◌, Bool, true, false, ◌&&◌, List, [], ◌∷◌, ◌++◌, length, get_or, take, set, sym, refl, ap, ◌∙◌, subst, suc-mul, zero-mul, arith, get_or-set_other, get_or-set_same, length-append}
use native.Mathlib.Decide.{ℕ_discrete}
use Rattle.std.specs.List.{AllZip, flat_map}
use Rattle.std.proofs.lemmas.List.{ext_get_or, take_more, get_or_append_left, get_or-append_right}
use Rattle.std.proofs.lemmas.Slice.Zip.{all_zipped_more}
use Rattle.port.specs.Limits.{In}
use Rattle.plans.specs.Flags.{has}
use Rattle.plans.proofs.Index.{in_at}
use Rattle.rounds.specs.Rows.{both_rows}

-- some element of a list that has one
pub an_element : {A : Type 0} (xs : List A) (i : ℕ) → i < length xs → A
an_element [] i l = absurd (omega arith)
an_element (x ∷ xs) i l = x

-- what holds of each element with its place, and of a new one with its place, holds after that one is set
pub each_set : {A : Type 0} (P : ℕ → A → Type 0) (xs : List A) (i : ℕ) (v : A) → i < length xs → P i v →
    ((j : ℕ) (d : A) → (j ≡ i → ⊥) → P j (get_or xs j d)) → (j : ℕ) (d : A) → P j (get_or (set xs i v) j d)
each_set P xs i v l here old j d = go (ℕ_discrete j i)
  where
    go : Dec (j ≡ i) → P j (get_or (set xs i v) j d)
    go (yes p) = subst (λ (k : ℕ). P k (get_or (set xs i v) k d)) (sym p) (subst (P i) (sym (get_or-set_same xs i v d l)) here)
    go (no n) = subst (P j) (sym (get_or-set_other xs i j v d n)) (old j d n)

-- lists that are alike place by place are alike at each place
pub all_zip_at : {A B : Type 0} (R : A → B → Type 0) (xs : List A) (ys : List B) → AllZip R xs ys → (i : ℕ) (d : A) (e : B) → i < length xs →
    R (get_or xs i d) (get_or ys i e)
all_zip_at R [] ys h i d e l = absurd (omega arith)
all_zip_at R (x ∷ xs) [] h i d e l = absurd h
all_zip_at R (x ∷ xs) (y ∷ ys) h zero d e l = h.0
all_zip_at R (x ∷ xs) (y ∷ ys) h (suc i) d e l = all_zip_at R xs ys h.1 i d e (omega arith)

-- an element that a loop over a list is at, is one of the list
pub item_in : {A : Type 0} (items xs : List A) (i : ℕ) (x : A) → items ≡ xs → i < length items → x ≡ get_or items i x → In x xs
item_in {A} items xs i x e l is = subst (λ (ys : List A). In x ys) e (subst (λ (y : A). In y items) (sym is) (in_at items i x l))

-- lists that are alike so far, with one element more
pub all_zip_push : {A B : Type 0} (R : A → B → Type 0) (items xs : List A) (ys more : List B) (i : ℕ) (x : A) (y : B) → items ≡ xs → i < length items →
    x ≡ get_or items i x → AllZip R (take i xs) ys → R x y → more ≡ ys ++ y ∷ [] → AllZip R (take (i + 1) xs) more
all_zip_push {A} {B} R items xs ys more i x y e l is h r m =
    subst (λ (zs : List B). AllZip R (take (i + 1) xs) zs) (sym m)
    (subst (λ (zs : List A). AllZip R zs (ys ++ y ∷ [])) (sym one) (all_zipped_more R (take i xs) ys x y h r))
  where
    one : take (i + 1) xs ≡ take i xs ++ x ∷ []
    one =
        take_more xs i x (subst (λ (zs : List A). i < length zs) e l)
        ∙ ap (λ (a : A). take i xs ++ a ∷ []) (sym (subst (λ (zs : List A). x ≡ get_or zs i x) e is))

-- the flag that both rows have
pub both_has : (a b : List Bool) (c : ℕ) → has (both_rows a b) c ≡ (has a c && has b c)
both_has [] b c = refl
both_has (x ∷ a) [] c = off (has (x ∷ a) c)
  where
    off : (y : Bool) → false ≡ (y && false)
    off true = refl
    off false = refl
both_has (x ∷ a) (y ∷ b) zero = refl
both_has (x ∷ a) (y ∷ b) (suc c) = both_has a b c

pub both_long : (a b : List Bool) (n : ℕ) → length a ≡ n → length b ≡ n → length (both_rows a b) ≡ n
both_long [] b n e f = e
both_long (x ∷ a) [] n e f = absurd (omega (arith, e, f))
both_long (x ∷ a) (y ∷ b) zero e f = absurd (omega (arith, e))
both_long (x ∷ a) (y ∷ b) (suc n) e f = ap suc (both_long a b n (omega (arith, e)) (omega (arith, f)))

-- a row that has at each place the flag that both rows have there
pub both_each : (row a b : List Bool) → length row ≡ length a → length b ≡ length a → ((c : ℕ) → c < length a → has row c ≡ (has a c && has b c)) → row ≡ both_rows a b
both_each row a b e f each =
    ext_get_or false row (both_rows a b) (e ∙ sym (both_long a b (length a) refl f))
    (λ c l. each c (subst (λ (n : ℕ). c < n) e l) ∙ sym (both_has a b c))

-- ── rows of one width, one after another ──

module _ {A B : Type 0} (f : A → List B) (n : ℕ) where
  pub joined_long : (xs : List A) → ((i : ℕ) (d : A) → i < length xs → length (f (get_or xs i d)) ≡ n) → length (flat_map f xs) ≡ length xs * n
  joined_long [] wide = sym (zero-mul n)
  joined_long (x ∷ xs) wide =
      length-append (f x) (flat_map f xs)
      ∙ omega (arith, wide 0 x (omega arith), joined_long xs (λ i d l. wide (suc i) d (omega arith)), suc-mul (length xs) n)

  pub joined_at : (xs : List A) → ((i : ℕ) (d : A) → i < length xs → length (f (get_or xs i d)) ≡ n) →
      (i c : ℕ) (d : A) (e : B) → i < length xs → c < n → get_or (flat_map f xs) (i * n + c) e ≡ get_or (f (get_or xs i d)) c e
  joined_at [] wide i c d e l h = absurd (omega arith)
  joined_at (x ∷ xs) wide zero c d e l h =
      let at : zero * n + c ≡ c = omega (arith, zero-mul n) in
      let in_row : c < length (f x) = omega (arith, wide 0 x (omega arith)) in
      ap (λ (k : ℕ). get_or (f x ++ flat_map f xs) k e) at ∙ get_or_append_left (f x) (flat_map f xs) e c in_row
  joined_at (x ∷ xs) wide (suc i) c d e l h =
      let past : n ≤ suc i * n + c = omega (arith, suc-mul i n) in
      let less : suc i * n + c - n ≡ i * n + c = omega (arith, suc-mul i n) in
      get_or-append_right (f x) (flat_map f xs) n (suc i * n + c) e (wide 0 x (omega arith)) past
      ∙ ap (λ (k : ℕ). get_or (flat_map f xs) k e) less
      ∙ joined_at xs (λ j b k. wide (suc j) b (omega arith)) i c d e (omega arith) h
