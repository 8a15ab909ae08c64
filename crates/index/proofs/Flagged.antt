-- What a table of flags says once one more flag is set.
use Rattle.std.proofs.Common.{◌≡◌, ℕ, ◌+◌, ◌<◌, Bool, true, false, List, [], length, get_or, set, replicate, sym, ap, ◌∙◌, subst, ⊎_elim, arith, below_more}
use Rattle.std.proofs.lemmas.Bool.{cases_eq, cases_lt}
use Rattle.std.proofs.lemmas.List.{get_or-replicate, get_or-set_same, get_or-set_other, get_or_default, get_or_past, length-replicate}
use Rattle.port.specs.Limits.{at}
use Rattle.port.specs.declared.Move.{Move}
use Rattle.index.specs.Indexes.{Bare, Flags, flagged}

none_set : (n i : ℕ) → get_or (replicate n false) i false ≡ false
none_set n i = ⊎_elim (λ l. get_or-replicate n i false false l) (λ l. get_or_past (replicate n false) i false (let e = length-replicate n false in omega arith)) (cases_lt i n)

-- no flag is set in rows that are made without one
pub bare_none : (ms : List Move) (n wide : ℕ) → Bare ms 0 (replicate n (replicate wide false))
bare_none ms n wide c d apart = ⊎_elim
    (λ l. ap (λ (r : List Bool). get_or r c false) (get_or-replicate n d (replicate wide false) [] l) ∙ none_set wide c)
    (λ l. ap (λ (r : List Bool). get_or r c false) (get_or_past (replicate n (replicate wide false)) d [] (let e = length-replicate n (replicate wide false) in omega arith)))
    (cases_lt d n)

module _ (into : List (List Bool)) (c d : ℕ) (row : List Bool) (inside : d < length into) (wide : c < length row) (is : row ≡ get_or into d row) where
  abbrev new : List (List Bool)
  new = set into d (set row c true)

  new_here : flagged new c d ≡ true
  new_here = ap (λ (r : List Bool). get_or r c false) (get_or-set_same into d (set row c true) [] inside) ∙ get_or-set_same row c true false wide

  new_there : (a b : ℕ) → (a ≡ c → b ≡ d → ⊥) → flagged new a b ≡ flagged into a b
  new_there a b differ = ⊎_elim
      (λ z. subst (λ y. flagged new a y ≡ flagged into a y) (sym z)
      (ap (λ (r : List Bool). get_or r a false) (get_or-set_same into d (set row c true) [] inside) ∙ get_or-set_other row c a true false (λ q. differ q z)
      ∙ ap (λ (r : List Bool). get_or r a false) (is ∙ get_or_default into d row [] inside)))
      (λ z. ap (λ (r : List Bool). get_or r a false) (get_or-set_other into d b (set row c true) [] z))
      (cases_eq b d)

  new_stays : (a b : ℕ) → flagged into a b ≡ true → flagged new a b ≡ true
  new_stays a b was = ⊎_elim
      (λ z. ⊎_elim (λ y. subst (λ n. flagged new n b ≡ true) (sym y) (subst (λ n. flagged new c n ≡ true) (sym z) new_here)) (λ y. new_there a b (λ q r. y q) ∙ was) (cases_eq a c))
      (λ z. new_there a b (λ q r. z r) ∙ was)
      (cases_eq b d)

  -- with the flag of a move set
  module _ (ms : List Move) (i : ℕ) (condition : (at ms i).condition ≡ c) (outcome : (at ms i).outcome ≡ d) where
    pub flags_more : Flags ms i into → Flags ms (i + 1) new
    flags_more flags = below_more (λ j. flagged new (at ms j).condition (at ms j).outcome ≡ true) i
        (λ j l. new_stays (at ms j).condition (at ms j).outcome (flags j l))
        (ap (λ n. flagged new n (at ms i).outcome) condition ∙ ap (λ n. flagged new c n) outcome ∙ new_here)

    pub bare_more : Bare ms i into → Bare ms (i + 1) new
    bare_more bare a b apart =
        new_there a b (λ p q. apart i (omega arith) (condition ∙ sym p) (outcome ∙ sym q)) ∙ bare a b (λ j l. apart j (omega arith))
