-- Small facts of tests, rules and moves.
use Rattle.std.proofs.Common.{◌≡◌, ℕ, Bool, true, false, cond, not, ◌&&◌, ◌||◌, T, eqb, List, [], ◌∷◌, Some, None, Option, sym, refl, ap, ◌∙◌, subst, inl, inr, true≢false, arith}
use mathlib.Core.Bool.{false≢true}
use lib.Dec.{eqb_refl}
use Rattle.port.specs.declared.Move.{Move}
use Rattle.plans.specs.Plans.{Can}
use Rattle.locks.specs.Places.{fits, possible}
use Rattle.histories.specs.Calls.{Rule, refusal}

pub was_true : {b : Bool} → b ≡ true → T b
was_true e = subst T (sym e) tt

pub is_true : (b : Bool) → T b → b ≡ true
is_true true t = refl
is_true false t = absurd t

pub not_false : (b : Bool) → not b ≡ false → b ≡ true
not_false true e = refl
not_false false e = absurd (true≢false e)

pub and_true : (a b : Bool) → (a && b) ≡ true → (a ≡ true) × (b ≡ true)
and_true true b e = (refl, e)
and_true false b e = absurd (false≢true e)

pub true_and : (a b : Bool) → a ≡ true → b ≡ true → (a && b) ≡ true
true_and a b e f = ap (λ x. x && b) e ∙ f

pub some_inj : {a b : ℕ} → ◌≡◌ {A = Option ℕ} (Some a) (Some b) → a ≡ b
some_inj e = cc

pub some_none : {a : ℕ} → ◌≡◌ {A = Option ℕ} (Some a) None → ⊥
some_none e = let z : ◌≡◌ {A = ℕ} 0 1 = cc in omega arith

passes_first : (r : Rule) (rs : List Rule) → refusal (r ∷ rs) ≡ None → (r.applies ≡ false) × (refusal rs ≡ None)
passes_first r rs e = go r.applies refl e
  where
    go : (b : Bool) → r.applies ≡ b → cond b (Some r.number) (refusal rs) ≡ None → (r.applies ≡ false) × (refusal rs ≡ None)
    go true p e = absurd (some_none e)
    go false p e = (p, e)

-- No rule applies.
abbrev pub Clear : List Rule → Type 0
Clear [] = Unit {0}
Clear (r ∷ rs) = (r.applies ≡ false) × Clear rs

-- Rules refuse nothing exactly where none applies.
pub passes_clear : (rs : List Rule) → refusal rs ≡ None → Clear rs
passes_clear [] e = tt
passes_clear (r ∷ rs) e = let p = passes_first r rs e in (p.0, passes_clear rs p.1)

pub clear_passes : (rs : List Rule) → Clear rs → refusal rs ≡ None
clear_passes [] c = refl
clear_passes (r ∷ rs) c = ap (λ b. cond b (Some r.number) (refusal rs)) c.0 ∙ clear_passes rs c.1

pub eq_true : (x m : ℕ) → x ≡ m → eqb x m ≡ true
eq_true x m e = is_true _ (subst (λ (y : ℕ). T (eqb x y)) e (eqb_refl x))

pub fits_is : (c o : ℕ) (m : Move) → m.condition ≡ c → m.operation ≡ o → fits c o m ≡ true
fits_is c o m p r = true_and _ _ (eq_true m.condition c p) (eq_true m.operation o r)

-- A move that can be made makes its operation possible.
pub can_possible : (ms : List Move) (c o : ℕ) (m : Move) → Can ms c o m → possible ms c o ≡ true
can_possible [] c o m h = absurd h.0
can_possible (x ∷ xs) c o m (inl e, p, r) =
    ap (λ b. b || possible xs c o) (subst (λ (y : Move). fits c o y ≡ true) e (fits_is c o m p r))
can_possible (x ∷ xs) c o m (inr i, p, r) = or_right (fits c o x) (possible xs c o) (can_possible xs c o m (i, p, r))
  where
    or_right : (a b : Bool) → b ≡ true → (a || b) ≡ true
    or_right true b e = refl
    or_right false b e = e
