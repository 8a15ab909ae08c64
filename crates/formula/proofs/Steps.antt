-- One step of the reading by bytes, and what a reader has read after it. Assumes nothing.
use Rattle.std.proofs.Common.{◌≡◌, ℕ, zero, suc, ◌+◌, ◌-◌, ◌<◌, ◌≤◌, Bool, true, false, List, [], ◌∷◌, length, get_or, drop, refl, ap, ◌∙◌, add-one, arith, drop-cons, le-ltb, lt-ltb, ne_eqb, le-leb}
use native.Mathlib.Decide.{dec_lt}
use borrow.Author.Tests.{lt-leb}
use Rattle.std.proofs.lemmas.List.{drop_all}
use Rattle.formula.specs.Grammar.{goes, step, to, refuse, opens, after, stuck, AtomRead, ProductRead, SumRead, Refused, nought, one, mark, not, group, single, and, only, or, both, some, flip, stands}

pub at : (t : List ℕ) (i : ℕ) → i < length t → drop i t ≡ get_or t i 0 ∷ drop (i + 1) t
at t i h = rw add-one (drop-cons t i 0 h)

pub goes_to : (n : ℕ) (e : Bool) (d b : ℕ) (bs : List ℕ) (p : ℕ) {f : Bool} {k : ℕ} → step n e d b ≡ to f k → goes n e d (b ∷ bs) p ≡ goes n f k bs (p + 1)
unfolding goes
goes_to n true d b bs p q = rw (q, goes)
goes_to n false zero b bs p q = rw (q, goes)
goes_to n false (suc d) b bs p q = rw (q, goes)

pub goes_refuse : (n : ℕ) (e : Bool) (d b : ℕ) (bs : List ℕ) (p : ℕ) → step n e d b ≡ refuse → goes n e d (b ∷ bs) p ≡ stuck p
unfolding goes
goes_refuse n true d b bs p q = rw (q, goes)
goes_refuse n false zero b bs p q = rw (q, goes)
goes_refuse n false (suc d) b bs p q = rw (q, goes)

module _ (n b : ℕ) where
  pub step_nought : (d : ℕ) → b ≡ 48 → step n true d b ≡ to false d
  unfolding step
  step_nought d e = rw e

  pub step_one : (d : ℕ) → b ≡ 49 → step n true d b ≡ to false d
  unfolding step
  step_one d e = rw e

  pub step_not : (d : ℕ) → b ≡ 33 → step n true d b ≡ to true d
  unfolding step
  step_not d e = rw e

  pub step_group : (d : ℕ) → b ≡ 40 → step n true d b ≡ to true (suc d)
  unfolding step
  step_group d e = rw e

  pub step_mark : (d : ℕ) → 97 ≤ b → b - 97 < n → step n true d b ≡ to false d
  unfolding step
  step_mark d h k = rw (ne_eqb b 48 (λ e. omega arith), ne_eqb b 49 (λ e. omega arith), le-leb 97 b h, lt-ltb (b - 97) n k)

  pub step_high : (d : ℕ) → 97 ≤ b → n ≤ b - 97 → step n true d b ≡ refuse
  unfolding step
  step_high d h k =
      rw (ne_eqb b 48 (λ e. omega arith), ne_eqb b 49 (λ e. omega arith), le-leb 97 b h, le-ltb (b - 97) n k, ne_eqb b 33 (λ e. omega arith), ne_eqb b 40 (λ e. omega arith))

  pub step_low : (d : ℕ) → b < 97 → (b ≡ 48 → ⊥) → (b ≡ 49 → ⊥) → (b ≡ 33 → ⊥) → (b ≡ 40 → ⊥) → step n true d b ≡ refuse
  unfolding step
  step_low d h a1 a2 a3 a4 = rw (ne_eqb b 48 a1, ne_eqb b 49 a2, lt-leb 97 b h, ne_eqb b 33 a3, ne_eqb b 40 a4)

  pub step_and : (d : ℕ) → b ≡ 38 → step n false d b ≡ to true d
  unfolding step
  step_and zero e = rw e
  step_and (suc d) e = rw e

  pub step_or : (d : ℕ) → b ≡ 124 → step n false d b ≡ to true d
  unfolding step
  step_or zero e = rw e
  step_or (suc d) e = rw e

  pub step_close : (d : ℕ) → b ≡ 41 → step n false (suc d) b ≡ to false d
  unfolding step
  step_close d e = rw e

  pub step_other : (d : ℕ) → (b ≡ 38 → ⊥) → (b ≡ 124 → ⊥) → (b ≡ 41 → ⊥) → step n false d b ≡ refuse
  unfolding step
  step_other zero a1 a2 a3 = rw (ne_eqb b 124 a2, ne_eqb b 38 a1)
  step_other (suc d) a1 a2 a3 = rw (ne_eqb b 124 a2, ne_eqb b 38 a1, ne_eqb b 41 a3)

  pub step_past : (b ≡ 38 → ⊥) → (b ≡ 124 → ⊥) → step n false 0 b ≡ refuse
  unfolding step
  step_past a1 a2 = rw (ne_eqb b 124 a2, ne_eqb b 38 a1)

pub goes_end : (n d p : ℕ) → goes n true d [] p ≡ stuck p
unfolding goes step
goes_end n d p = refl

pub goes_open : (n d p : ℕ) → goes n false (suc d) [] p ≡ stuck p
unfolding goes step
goes_open n d p = refl

module _ (n m : ℕ) (t : List ℕ) (i : ℕ) where
  pub at_opens : i < length t → (d : ℕ) → opens n t d i ≡ goes n true d (get_or t i 0 ∷ drop (i + 1) t) i
  at_opens h d = ap (λ l. goes n true d l i) (at t i h)

  pub at_after : i < length t → (d : ℕ) → after n t d i ≡ goes n false d (get_or t i 0 ∷ drop (i + 1) t) i
  at_after h d = ap (λ l. goes n false d l i) (at t i h)

  pub atom_nought : i < length t → get_or t i 0 ≡ 48 → AtomRead n m t i false (i + 1)
  atom_nought h e =
      record { on = omega arith; within = omega arith; read = nought h e; went = λ d. at_opens h d ∙ goes_to n _ _ _ _ i (step_nought n _ d e) }

  pub atom_one : i < length t → get_or t i 0 ≡ 49 → AtomRead n m t i true (i + 1)
  atom_one h e =
      record { on = omega arith; within = omega arith; read = one h e; went = λ d. at_opens h d ∙ goes_to n _ _ _ _ i (step_one n _ d e) }

  pub atom_mark : (k : ℕ) → i < length t → get_or t i 0 ≡ 97 + k → k < n → AtomRead n m t i (stands m k) (i + 1)
  atom_mark k h e l =
      record { on = omega arith; within = omega arith; read = mark k h e l; went = λ d. at_opens h d ∙ goes_to n _ _ _ _ i (step_mark n _ d (omega arith) (omega arith)) }

  pub atom_not : {v : Bool} {j : ℕ} → i < length t → get_or t i 0 ≡ 33 → AtomRead n m t (i + 1) v j → AtomRead n m t i (flip v) j
  atom_not h e r =
      record { on = omega arith; within = r.within; read = not h e r.read; went = λ d. at_opens h d ∙ goes_to n _ _ _ _ i (step_not n _ d e) ∙ r.went d }

  pub refused_not : {p : ℕ} → i < length t → get_or t i 0 ≡ 33 → Refused n t (i + 1) p → Refused n t i p
  refused_not h e r =
      record { on = omega arith; within = r.within; went = λ d. at_opens h d ∙ goes_to n _ _ _ _ i (step_not n _ d e) ∙ r.went d }

  pub refused_group : {p : ℕ} → i < length t → get_or t i 0 ≡ 40 → Refused n t (i + 1) p → Refused n t i p
  refused_group h e r =
      record { on = omega arith; within = r.within; went = λ d. at_opens h d ∙ goes_to n _ _ _ _ i (step_group n _ d e) ∙ r.went (suc d) }

  pub refused_end : length t ≤ i → i ≤ length t → Refused n t i i
  refused_end h k =
      record { on = omega arith; within = k; went = λ d. ap (λ l. goes n true d l i) (drop_all i t h) ∙ goes_end n d i }

  pub refused_high : i < length t → 97 ≤ get_or t i 0 → n ≤ get_or t i 0 - 97 → Refused n t i i
  refused_high h l k =
      record { on = omega arith; within = omega arith; went = λ d. at_opens h d ∙ goes_refuse n _ _ _ _ i (step_high n _ d l k) }

  pub refused_low : i < length t → get_or t i 0 < 97 → (get_or t i 0 ≡ 48 → ⊥) → (get_or t i 0 ≡ 49 → ⊥) → (get_or t i 0 ≡ 33 → ⊥) → (get_or t i 0 ≡ 40 → ⊥) → Refused n t i i
  refused_low h l a1 a2 a3 a4 =
      record { on = omega arith; within = omega arith; went = λ d. at_opens h d ∙ goes_refuse n _ _ _ _ i (step_low n _ d l a1 a2 a3 a4) }

  -- after the sum of a group, which ends at j
  module _ {v : Bool} {j : ℕ} (h : i < length t) (e : get_or t i 0 ≡ 40) (r : SumRead n m t (i + 1) v j) where
    pub atom_group : j < length t → get_or t j 0 ≡ 41 → AtomRead n m t i v (j + 1)
    atom_group k f =
        record {
          on = omega (arith, r.on);
          within = omega arith;
          read = group h e r.read k f;
          went = λ d. at_opens h d ∙ goes_to n _ _ _ _ i (step_group n _ d e) ∙ r.went (suc d) ∙ ap (λ l. goes n false (suc d) l j) (at t j k) ∙ goes_to n _ _ _ _ j (step_close n _ d f);
        }

    pub refused_unclosed : length t ≤ j → Refused n t i j
    refused_unclosed k =
        record {
          on = omega (arith, r.on);
          within = r.within;
          went = λ d. at_opens h d ∙ goes_to n _ _ _ _ i (step_group n _ d e) ∙ r.went (suc d) ∙ ap (λ l. goes n false (suc d) l j) (drop_all j t k) ∙ goes_open n d j;
        }

    pub refused_other : j < length t → (get_or t j 0 ≡ 41 → ⊥) → Refused n t i j
    refused_other k f =
        record {
          on = omega (arith, r.on);
          within = r.within;
          went = λ d. at_opens h d ∙ goes_to n _ _ _ _ i (step_group n _ d e) ∙ r.went (suc d) ∙ ap (λ l. goes n false (suc d) l j) (at t j k) ∙ goes_refuse n _ _ _ _ j (step_other n _ (suc d) (r.no_and k) (r.no_or k) f);
        }

    -- no bracket closes it there
    pub refused_close : (j < length t → get_or t j 0 ≡ 41 → ⊥) → Refused n t i j
    refused_close f =
        elim (dec_lt j (length t)) [ yes k ↦ refused_other k (f k) | no k ↦ refused_unclosed (omega arith) ]

  pub product_single : {v : Bool} {j : ℕ} → AtomRead n m t i v j → (j < length t → get_or t j 0 ≡ 38 → ⊥) → ProductRead n m t i v j
  product_single r f = record { on = r.on; within = r.within; read = single r.read; went = r.went; no_and = f }

  pub sum_only : {v : Bool} {j : ℕ} → ProductRead n m t i v j → (j < length t → get_or t j 0 ≡ 124 → ⊥) → SumRead n m t i v j
  sum_only r f =
      record { on = r.on; within = r.within; read = only r.read; went = r.went; no_and = r.no_and; no_or = f }

  module _ {v : Bool} {j : ℕ} (r : AtomRead n m t i v j) (k : j < length t) (e : get_or t j 0 ≡ 38) where
    and_went : (d : ℕ) → opens n t d i ≡ opens n t d (j + 1)
    and_went d = r.went d ∙ ap (λ l. goes n false d l j) (at t j k) ∙ goes_to n _ _ _ _ j (step_and n _ d e)

    pub product_and : {w : Bool} {l : ℕ} → ProductRead n m t (j + 1) w l → ProductRead n m t i (both v w) l
    product_and s =
        record { on = omega (arith, r.on, s.on); within = s.within; read = and r.read k e s.read; went = λ d. and_went d ∙ s.went d; no_and = s.no_and }

    pub refused_and : {p : ℕ} → Refused n t (j + 1) p → Refused n t i p
    refused_and s =
        record { on = omega (arith, r.on, s.on); within = s.within; went = λ d. and_went d ∙ s.went d }

  module _ {v : Bool} {j : ℕ} (r : ProductRead n m t i v j) (k : j < length t) (e : get_or t j 0 ≡ 124) where
    or_went : (d : ℕ) → opens n t d i ≡ opens n t d (j + 1)
    or_went d = r.went d ∙ ap (λ l. goes n false d l j) (at t j k) ∙ goes_to n _ _ _ _ j (step_or n _ d e)

    pub sum_or : {w : Bool} {l : ℕ} → SumRead n m t (j + 1) w l → SumRead n m t i (some v w) l
    sum_or s =
        record { on = omega (arith, r.on, s.on); within = s.within; read = or r.read k e s.read; went = λ d. or_went d ∙ s.went d; no_and = s.no_and; no_or = s.no_or }

    pub refused_or : {p : ℕ} → Refused n t (j + 1) p → Refused n t i p
    refused_or s =
        record { on = omega (arith, r.on, s.on); within = s.within; went = λ d. or_went d ∙ s.went d }
