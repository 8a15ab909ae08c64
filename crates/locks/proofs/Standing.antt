-- Facts on the place of marks among the conditions, and on possible operations.
use Rattle.std.proofs.Common.{◌≡◌, ℕ, zero, suc, ◌<◌, ◌≤◌, Bool, true, false, eqb, ◌⊎◌, List, [], ◌∷◌, length, get_or, is_some, Some, None, Ok, Err, Option, Result, sym, refl, ap, ◌∙◌, subst, inl, inr, ⊎_elim, arith}
use Rattle.std.specs.List.Sorted.{IsBinarySearchResult}
use Rattle.std.specs.Ordering.{nat_cmp}
use Rattle.std.specs.Result.{MatchResult, result_ok}
use Rattle.std.proofs.lemmas.List.Sorted.{searched}
use Rattle.std.proofs.lemmas.Bool.{and_parts, and_from, eqb-true, eq-eqb, ne_eqb, cases_Bool, cases_lt, cases_order, cond-true, cond-false, or_left, or_right, or_cases, false≢true}
use Rattle.port.specs.Limits.{In, Rise}
use Rattle.port.specs.Model.{Model}
use Rattle.port.specs.declared.Move.{Move}
use Rattle.plans.specs.Plans.{Possible}
use Rattle.locks.specs.Places.{IsAt, next, place_of, fits, possible}
use Rattle.locks.specs.Works.{TellsCondition}

none_some : {A : Type 0} (n : ℕ) → None ≡ Some n → A
none_some n e = let z : ◌≡◌ {A = ℕ} 0 1 = cc in absurd (omega arith)

next_none : (p : Option ℕ) → next p ≡ None → p ≡ None
next_none None e = refl
next_none (Some k) e = none_some (suc k) (sym e)

next_some : (p : Option ℕ) (c : ℕ) → next p ≡ Some c → (k : ℕ) × (p ≡ Some k) × (suc k ≡ c)
next_some None c e = none_some c e
next_some (Some k) c e = (k, refl, cc)

-- ── the place of marks ──

pub place_found : (cs : List ℕ) (c m : ℕ) → c < length cs → get_or cs c 0 ≡ m → ((k : ℕ) → k < c → get_or cs k 0 ≡ m → ⊥) → Some c ≡ place_of cs m
place_found [] c m l e h = absurd (omega arith)
place_found (x ∷ xs) zero m l e h = sym (cond-true (eqb x m) (Some 0) (next (place_of xs m)) (eq-eqb x m e))
place_found (x ∷ xs) (suc c) m l e h =
    ap next (place_found xs c m (omega arith) e (λ k l'. h (suc k) (omega arith)))
    ∙ sym (cond-false (eqb x m) (Some 0) (next (place_of xs m)) (ne_eqb x m (h 0 (omega arith))))

pub place_missed : (cs : List ℕ) (n m : ℕ) → length cs ≤ n → ((k : ℕ) → k < n → get_or cs k 0 ≡ m → ⊥) → None ≡ place_of cs m
place_missed [] n m l h = refl
place_missed (x ∷ xs) zero m l h = absurd (omega arith)
place_missed (x ∷ xs) (suc n) m l h =
    ap next (place_missed xs n m (omega arith) (λ k l'. h (suc k) (omega arith)))
    ∙ sym (cond-false (eqb x m) (Some 0) (next (place_of xs m)) (ne_eqb x m (h 0 (omega arith))))

-- a binary search finds the place
pub place_searched : (cs : List ℕ) (m : ℕ) (r : Result ℕ ℕ) → Rise cs → IsBinarySearchResult (λ y. nat_cmp y m) cs r → result_ok r ≡ place_of cs m
place_searched cs m r up b = go r (searched cs m r b climbs)
  where
    climbs : (i j : ℕ) → i ≤ j → j < length cs → get_or cs i 0 ≤ get_or cs j 0
    climbs i j h l = ⊎_elim (λ q. let u = up i j q l in omega arith) (λ q. let e : i ≡ j = omega arith in let s = ap (λ k. get_or cs k 0) e in omega arith) (cases_lt i j)

    go : (r : Result ℕ ℕ) → MatchResult r (λ i. (i < length cs) × (get_or cs i 0 ≡ m)) (λ i. (i ≤ length cs) × ((k : ℕ) → k < i → get_or cs k 0 < m) × ((k : ℕ) → i ≤ k → k < length cs → m < get_or cs k 0)) →
        result_ok r ≡ place_of cs m
    go (Ok c) h = place_found cs c m h.0 h.1 (λ k l e. let u = up k c l h.0 in let s = h.1 in omega arith)
    go (Err i) h =
        place_missed cs (length cs) m (omega arith)
        (λ k l e. ⊎_elim (λ q. let u = h.1 k q in omega arith) (λ q. let u = h.2 k q l in omega arith) (cases_lt k i))

-- marks that have a place stand there
pub place_is : (cs : List ℕ) (m c : ℕ) → place_of cs m ≡ Some c → (c < length cs) × (get_or cs c 0 ≡ m)
place_is [] m c e = none_some c e
place_is (x ∷ xs) m c e = go (cases_Bool (eqb x m)) (place_is xs m)
  where
    go : (eqb x m ≡ true) ⊎ (eqb x m ≡ false) → ((k : ℕ) → place_of xs m ≡ Some k → (k < length xs) × (get_or xs k 0 ≡ m)) →
        (c < suc (length xs)) × (get_or (x ∷ xs) c 0 ≡ m)
    go (inl t) below =
        let e' : Some 0 ≡ Some c = sym (cond-true (eqb x m) (Some 0) (next (place_of xs m)) t) ∙ e in
        let z : 0 ≡ c = cc in
        subst (λ (k : ℕ). (k < suc (length xs)) × (get_or (x ∷ xs) k 0 ≡ m)) z (omega arith, eqb-true x m t)
    go (inr f) below =
        let e' : next (place_of xs m) ≡ Some c = sym (cond-false (eqb x m) (Some 0) (next (place_of xs m)) f) ∙ e in
        let s = next_some (place_of xs m) c e' in
        let b = below s.0 s.1 in
        subst (λ (k : ℕ). (k < suc (length xs)) × (get_or (x ∷ xs) k 0 ≡ m)) s.2 (omega (arith, b.0), b.1)

-- marks that have no place stand nowhere
pub place_none : (cs : List ℕ) (m : ℕ) → place_of cs m ≡ None → (c : ℕ) → c < length cs → get_or cs c 0 ≡ m → ⊥
place_none [] m e c l q = absurd (omega arith)
place_none (x ∷ xs) m e zero l q =
    none_some 0 (sym e ∙ cond-true (eqb x m) (Some 0) (next (place_of xs m)) (eq-eqb x m q))
place_none (x ∷ xs) m e (suc c) l q = go (cases_Bool (eqb x m)) (place_none xs m)
  where
    go : (eqb x m ≡ true) ⊎ (eqb x m ≡ false) → (place_of xs m ≡ None → (k : ℕ) → k < length xs → get_or xs k 0 ≡ m → ⊥) → ⊥
    go (inl t) below = none_some 0 (sym e ∙ cond-true (eqb x m) (Some 0) (next (place_of xs m)) t)
    go (inr f) below =
        below (next_none (place_of xs m) (sym (cond-false (eqb x m) (Some 0) (next (place_of xs m)) f) ∙ e)) c (omega arith) q

-- no two conditions have the same marks
pub same_place : (M : Model) (c d m : ℕ) → Rise M.conditions → IsAt M c m → IsAt M d m → c ≡ d
same_place M c d m up a b = go (cases_order c d)
  where
    go : (c ≡ d) ⊎ ((c < d) ⊎ (d < c)) → c ≡ d
    go (inl e) = e
    go (inr (inl l)) = let u = up c d l b.0 in absurd (omega (arith, u, a.1, b.1))
    go (inr (inr l)) = let u = up d c l a.0 in absurd (omega (arith, u, a.1, b.1))

-- ── possible operations ──

pub fits_true : (c o : ℕ) (m : Move) → m.condition ≡ c → m.operation ≡ o → fits c o m ≡ true
fits_true c o m p q = and_from (eqb m.condition c) (eqb m.operation o) (eq-eqb m.condition c p) (eq-eqb m.operation o q)

pub fits_parts : (c o : ℕ) (m : Move) → fits c o m ≡ true → (m.condition ≡ c) × (m.operation ≡ o)
fits_parts c o m h =
    let q = and_parts (eqb m.condition c) (eqb m.operation o) h in
    (eqb-true m.condition c q.0, eqb-true m.operation o q.1)

-- what is tested is whether the operation is possible
pub possible_means : (ms : List Move) (c o : ℕ) → possible ms c o ≡ true → Possible ms c o
possible_means [] c o e = absurd (false≢true e)
possible_means (m ∷ ms) c o e = go (or_cases (fits c o m) (possible ms c o) e) (possible_means ms c o)
  where
    go : (fits c o m ≡ true) ⊎ (possible ms c o ≡ true) → (possible ms c o ≡ true → Possible ms c o) → Possible (m ∷ ms) c o
    go (inl h) below = let q = fits_parts c o m h in (m, (inl refl, q.0, q.1))
    go (inr h) below = let t = below h in (t.0, (inr t.1.0, t.1.1, t.1.2))

pub possible_there : (ms : List Move) (c o : ℕ) → Possible ms c o → possible ms c o ≡ true
possible_there ms c o t = go ms t.0 t.1.0 t.1.1 t.1.2
  where
    go : (xs : List Move) (m : Move) → In m xs → m.condition ≡ c → m.operation ≡ o → possible xs c o ≡ true
    go [] m i p q = absurd i
    go (x ∷ xs) m (inl e) p q = or_left (fits c o x) (possible xs c o) (subst (λ (y : Move). fits c o y ≡ true) e (fits_true c o m p q))
    go (x ∷ xs) m (inr i) p q = or_right (fits c o x) (possible xs c o) (go xs m i p q)

-- ── what is told ──

pub told : (M : Model) (m : ℕ) (r : Bool) → r ≡ is_some (place_of M.conditions m) → TellsCondition M m r
told M m r e = go (place_of M.conditions m) refl
  where
    go : (p : Option ℕ) → place_of M.conditions m ≡ p → TellsCondition M m r
    go None q = record {
      yes = λ t. absurd (false≢true (sym (e ∙ ap is_some q) ∙ t));
      not = λ f c a. place_none M.conditions m q c a.0 a.1;
    }
    go (Some k) q = record {
      yes = λ t. (k, place_is M.conditions m k q);
      not = λ f. absurd (false≢true (sym f ∙ e ∙ ap is_some q));
    }
