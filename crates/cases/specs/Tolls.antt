-- A cost model of its own: each move costs its minutes and one more.
use Rattle.std.specs.Prelude.{◌≡◌, ℕ, ◌+◌, T, ◌⊎◌, List, [], ◌∷◌, length, nat_le, slice_index, slice_index_or, refl}
use Rattle.std.proofs.Common.{ap, sym, ◌∙◌, inl, inr, arith, leb→le, le→leb}
use Rattle.std.proofs.Math.Decide.{dec_le}
use Rattle.costs.specs.Costs.{Model, Laws}
use Rattle.cases.specs.declared.toll.Fare.{Fare}

abbrev pub fare_list : Fare → List ℕ
fare_list f = f.total ∷ []

abbrev pub toll_model : Model
toll_model = record {
  columns = 1;
  zero = 0 ∷ [];
  join = λ m a. (slice_index a 0 + (m.minutes + 1)) ∷ [];
  within = λ a b. nat_le (slice_index a 0) (slice_index b 0);
}

pub fare_sized : (f : Fare) → length (fare_list f) ≡ toll_model.columns
fare_sized f = refl

one : (a : List ℕ) → length a ≡ 1 → a ≡ slice_index a 0 ∷ []
one [] e = absurd (omega arith)
one (x ∷ []) e = refl
one (x ∷ (y ∷ a)) e = absurd (omega arith)

either_way : (x y : ℕ) → T (nat_le x y) ⊎ T (nat_le y x)
either_way x y = elim (dec_le x y) [ yes h ↦ inl (le→leb x y h) | no h ↦ inr (le→leb y x (omega arith)) ]

pub toll_laws : Laws toll_model
toll_laws = record {
  zero_sized = refl;
  join_sized = λ m a s. refl;
  total = λ a b s t. either_way (slice_index a 0) (slice_index b 0);
  chain = λ a b c s t u h k. omega (arith, leb→le, le→leb);
  tie = λ a b s t h k. let e : slice_index_or a 0 0 ≡ slice_index_or b 0 0 = omega (arith, leb→le) in one a s ∙ ap (λ n. n ∷ []) e ∙ sym (one b t);
  least = λ a s. omega (arith, le→leb);
  keeps = λ m a b s t h. omega (arith, leb→le, le→leb);
  grows = λ m a s h. omega (arith, leb→le);
}
