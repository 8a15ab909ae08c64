-- The two models.
use Rattle.std.specs.Prelude.{◌≡◌, ℕ, ◌+◌, ◌<◌, ◌≤◌, Bool, true, false, cond, T, ◌⊎◌, List, [], ◌∷◌, length, ◌==◌, nat_eq, nat_le, slice_index, slice_index_or, refl}
use Rattle.std.proofs.Common.{ap, ap₂, sym, subst, ◌∙◌, inl, inr, arith, leb→le, le→leb, eqb→eq}
use Rattle.std.proofs.Math.Logic.{⊎_map}
use Rattle.std.proofs.Math.Decide.{dec_le, dec_lt}
use Rattle.std.proofs.Math.Dec.{eqb_refl}
use Rattle.costs.specs.Costs.{Model, Laws}
use Rattle.costs.specs.declared.models.Count.{Count}
use Rattle.costs.specs.declared.models.Time.{Time}

-- the exact cost behind a count of moves
abbrev pub count_list : Count → List ℕ
count_list c = c.moves ∷ []

-- the exact cost behind minutes and moves
abbrev pub time_list : Time → List ℕ
time_list c = c.minutes ∷ (c.moves ∷ [])

-- a run costs its moves
abbrev pub moves_model : Model
moves_model = record {
  columns = 1;
  zero = 0 ∷ [];
  join = λ m a. (slice_index a 0 + 1) ∷ [];
  within = λ a b. nat_le (slice_index a 0) (slice_index b 0);
}

-- the order of two columns: the first counts, and where it ties the second
abbrev pub lexb : ℕ → ℕ → ℕ → ℕ → Bool
lexb x x' y y' = cond (x == y) (nat_le x' y') (nat_le x y)

-- a run costs its minutes, and where those tie its moves
abbrev pub minutes_model : Model
minutes_model = record {
  columns = 2;
  zero = 0 ∷ (0 ∷ []);
  join = λ m a. (slice_index a 0 + m.minutes) ∷ ((slice_index a 1 + 1) ∷ []);
  within = λ a b. lexb (slice_index a 0) (slice_index a 1) (slice_index b 0) (slice_index b 1);
}

pub count_sized : (c : Count) → length (count_list c) ≡ moves_model.columns
count_sized c = refl

pub time_sized : (t : Time) → length (time_list t) ≡ minutes_model.columns
time_sized t = refl

one : (a : List ℕ) → length a ≡ 1 → a ≡ slice_index a 0 ∷ []
one [] e = absurd (omega arith)
one (x ∷ []) e = refl
one (x ∷ (y ∷ a)) e = absurd (omega arith)

two : (a : List ℕ) → length a ≡ 2 → a ≡ slice_index a 0 ∷ (slice_index a 1 ∷ [])
two [] e = absurd (omega arith)
two (x ∷ []) e = absurd (omega arith)
two (x ∷ (y ∷ [])) e = refl
two (x ∷ (y ∷ (z ∷ a))) e = absurd (omega arith)

either_way : (x y : ℕ) → T (nat_le x y) ⊎ T (nat_le y x)
either_way x y = elim (dec_le x y) [ yes h ↦ inl (le→leb x y h) | no h ↦ inr (le→leb y x (omega arith)) ]

pub moves_laws : Laws moves_model
moves_laws = record {
  zero_sized = refl;
  join_sized = λ m a s. refl;
  total = λ a b s t. either_way (slice_index a 0) (slice_index b 0);
  chain = λ a b c s t u h k. omega (arith, leb→le, le→leb);
  tie = λ a b s t h k. let e : slice_index_or a 0 0 ≡ slice_index_or b 0 0 = omega (arith, leb→le) in one a s ∙ ap (λ n. n ∷ []) e ∙ sym (one b t);
  least = λ a s. omega (arith, le→leb);
  keeps = λ m a b s t h. omega (arith, leb→le, le→leb);
  grows = λ m a s h. omega (arith, leb→le);
}

-- the order of two columns
abbrev pub Lex : ℕ → ℕ → ℕ → ℕ → Type 0
Lex x x' y y' = (x < y) ⊎ ((x ≡ y) × (x' ≤ y'))

pub lex→ : (x x' y y' : ℕ) → T (lexb x x' y y') → Lex x x' y y'
lex→ x x' y y' = go (x == y) refl
  where
    go : (b : Bool) → (x == y) ≡ b → T (cond b (nat_le x' y') (nat_le x y)) → Lex x x' y y'
    go true e h = inr (eqb→eq x y (subst T (sym e) tt), leb→le x' y' h)
    go false e h =
        let ne : x ≡ y → ⊥ = λ p. subst T (ap (nat_eq x) p ∙ e) (eqb_refl x) in
        let le : x ≤ y = leb→le x y h in
        inl (omega arith)

pub →lex : (x x' y y' : ℕ) → Lex x x' y y' → T (lexb x x' y y')
→lex x x' y y' h = go (x == y) refl
  where
    go : (b : Bool) → (x == y) ≡ b → T (cond b (nat_le x' y') (nat_le x y))
    go true e = let p : x ≡ y = eqb→eq x y (subst T (sym e) tt) in le→leb x' y' (omega arith)
    go false e = le→leb x y (omega arith)

lex_total : (x x' y y' : ℕ) → Lex x x' y y' ⊎ Lex y y' x x'
lex_total x x' y y' =
    elim (dec_lt x y) [
      | yes h ↦ inl (inl h)
      | no h ↦ elim (dec_lt y x) [ yes g ↦ inr (inl g) | no g ↦ elim (dec_le x' y') [ yes l ↦ inl (inr (omega arith, l)) | no l ↦ inr (inr (omega arith, omega arith)) ] ]
    ]

lex_chain : (x x' y y' z z' : ℕ) → Lex x x' y y' → Lex y y' z z' → Lex x x' z z'
lex_chain x x' y y' z z' (inl h) (inl k) = inl (omega arith)
lex_chain x x' y y' z z' (inl h) (inr k) = inl (omega arith)
lex_chain x x' y y' z z' (inr h) (inl k) = inl (omega arith)
lex_chain x x' y y' z z' (inr h) (inr k) = inr (omega arith, omega arith)

lex_tie : (x x' y y' : ℕ) → Lex x x' y y' → Lex y y' x x' → (x ≡ y) × (x' ≡ y')
lex_tie x x' y y' h k = omega arith

lex_join : (n x x' y y' : ℕ) → Lex x x' y y' → Lex (x + n) (x' + 1) (y + n) (y' + 1)
lex_join n x x' y y' (inl h) = inl (omega arith)
lex_join n x x' y y' (inr h) = inr (omega arith, omega arith)

lex_grows : (n x x' : ℕ) → Lex (x + n) (x' + 1) x x' → ⊥
lex_grows n x x' h = omega arith

lex_least : (x x' : ℕ) → Lex 0 0 x x'
lex_least x x' = elim (dec_lt 0 x) [ yes h ↦ inl h | no h ↦ inr (omega arith, omega arith) ]

pub minutes_laws : Laws minutes_model
minutes_laws = record {
  zero_sized = refl;
  join_sized = λ m a s. refl;
  total = λ a b s t. ⊎_map (→lex _ _ _ _) (→lex _ _ _ _) (lex_total (slice_index a 0) (slice_index a 1) (slice_index b 0) (slice_index b 1));
  chain = λ a b c s t u h k. →lex _ _ _ _ (lex_chain _ _ (slice_index b 0) (slice_index b 1) _ _ (lex→ _ _ _ _ h) (lex→ _ _ _ _ k));
  tie = λ a b s t h k.
      let e = lex_tie (slice_index a 0) (slice_index a 1) (slice_index b 0) (slice_index b 1) (lex→ _ _ _ _ h) (lex→ _ _ _ _ k) in
      two a s ∙ ap₂ {C = List ℕ} (λ n o. n ∷ (o ∷ [])) e.0 e.1 ∙ sym (two b t);
  least = λ a s. →lex _ _ _ _ (lex_least (slice_index a 0) (slice_index a 1));
  keeps = λ m a b s t h. →lex _ _ _ _ (lex_join m.minutes (slice_index a 0) (slice_index a 1) (slice_index b 0) (slice_index b 1) (lex→ _ _ _ _ h));
  grows = λ m a s h. lex_grows m.minutes (slice_index a 0) (slice_index a 1) (lex→ _ _ _ _ h);
}
