-- Whether bytes of a text are a part of a kind with a value, decided by a search over all ways to read it.
use Rattle.std.proofs.Common.{◌≡◌, ℕ, zero, suc, ◌+◌, ◌-◌, ◌*◌, ◌<◌, ◌≤◌, Bool, true, false, cond, ◌&&◌, ◌||◌, eqb, ltb, leb, List, length, get_or, sym, refl, ap, ◌∙◌, subst, arith, inl, inr, ◌⊎◌, ltb-true, leb-true, eqb-true, lt-ltb, le-leb, eq-eqb}
use mathlib.Core.Bool.{and-eq-true_iff, false≢true}
use Rattle.std.specs.Bool.{Decides}
use Rattle.formula.specs.Grammar.{Part, atom, product, sum, Formula, nought, one, mark, not, group, single, and, only, or, both, some, flip, stands}

or_cases : (a b : Bool) → (a || b) ≡ true → (a ≡ true) ⊎ (b ≡ true)
or_cases true b e = inl refl
or_cases false b e = inr e

or_left : (a b : Bool) → a ≡ true → (a || b) ≡ true
or_left true b e = refl
or_left false b e = absurd (false≢true e)

or_right : (a b : Bool) → b ≡ true → (a || b) ≡ true
or_right true b e = refl
or_right false b e = e

-- a test that is looked at only after another
abbrev when : Bool → Bool → Bool
when a b = elim a [ true ↦ b | false ↦ false ]

when_true : (a b : Bool) → when a b ≡ true → (a ≡ true) × (b ≡ true)
when_true true b e = (refl, e)
when_true false b e = absurd (false≢true e)

true_when : (a b : Bool) → a ≡ true → b ≡ true → when a b ≡ true
true_when true b e f = f
true_when false b e f = absurd (false≢true e)

abbrev pub here : List ℕ → ℕ → ℕ → Bool
here t i b = ltb i (length t) && eqb (get_or t i 0) b

pub is_here : (t : List ℕ) (i b : ℕ) → here t i b ≡ true → (i < length t) × (get_or t i 0 ≡ b)
is_here t i b e =
    let h = (and-eq-true_iff (ltb i (length t)) (eqb (get_or t i 0) b)).0 e in
    (ltb-true i (length t) h.0, eqb-true (get_or t i 0) b h.1)

pub here_is : (t : List ℕ) (i b : ℕ) → i < length t → get_or t i 0 ≡ b → here t i b ≡ true
here_is t i b l e = (and-eq-true_iff (ltb i (length t)) (eqb (get_or t i 0) b)).1 (lt-ltb i (length t) l, eq-eqb (get_or t i 0) b e)

-- one of n letters
abbrev letter : ℕ → List ℕ → ℕ → Bool
letter n t i = ltb i (length t) && (leb 97 (get_or t i 0) && ltb (get_or t i 0 - 97) n)

is_letter : (n : ℕ) (t : List ℕ) (i : ℕ) → letter n t i ≡ true → (i < length t) × (97 ≤ get_or t i 0) × (get_or t i 0 - 97 < n)
is_letter n t i e =
    let h = (and-eq-true_iff (ltb i (length t)) (leb 97 (get_or t i 0) && ltb (get_or t i 0 - 97) n)).0 e in
    let g = (and-eq-true_iff (leb 97 (get_or t i 0)) (ltb (get_or t i 0 - 97) n)).0 h.1 in
    (ltb-true i (length t) h.0, leb-true 97 (get_or t i 0) g.0, ltb-true (get_or t i 0 - 97) n g.1)

letter_is : (n : ℕ) (t : List ℕ) (i k : ℕ) → i < length t → get_or t i 0 ≡ 97 + k → k < n → letter n t i ≡ true
letter_is n t i k l e f =
    (and-eq-true_iff (ltb i (length t)) (leb 97 (get_or t i 0) && ltb (get_or t i 0 - 97) n)).1
    (lt-ltb i (length t) l, (and-eq-true_iff (leb 97 (get_or t i 0)) (ltb (get_or t i 0 - 97) n)).1 (le-leb 97 (get_or t i 0) (omega arith), lt-ltb (get_or t i 0 - 97) n (omega arith)))

-- some part of a kind begins at place i whose end and value pass; the first number bounds how deep parts nest
unfoldable pub finds : ℕ → Part → ℕ → ℕ → List ℕ → ℕ → (ℕ → Bool → Bool) → Bool
finds zero part n m t i ok = false
finds (suc k) atom n m t i ok =
    elim (here t i 48) [ true ↦ ok (i + 1) false | false ↦ false ]
    || (elim (here t i 49) [ true ↦ ok (i + 1) true | false ↦ false ]
    || (elim (letter n t i) [ true ↦ ok (i + 1) (stands m (get_or t i 0 - 97)) | false ↦ false ]
    || (elim (here t i 33) [ true ↦ finds k atom n m t (i + 1) (λ j v. ok j (flip v)) | false ↦ false ]
    || elim (here t i 40) [ true ↦ finds k sum n m t (i + 1) (λ j v. elim (here t j 41) [ true ↦ ok (j + 1) v | false ↦ false ]) | false ↦ false ])))
finds (suc k) product n m t i ok =
    finds k atom n m t i (λ j v. ok j v || elim (here t j 38) [ true ↦ finds k product n m t (j + 1) (λ l w. ok l (both v w)) | false ↦ false ])
finds (suc k) sum n m t i ok =
    finds k product n m t i (λ j v. ok j v || elim (here t j 124) [ true ↦ finds k sum n m t (j + 1) (λ l w. ok l (some v w)) | false ↦ false ])

module _ (n m : ℕ) (t : List ℕ) where
  record Found (part : Part) (i : ℕ) (ok : ℕ → Bool → Bool) : Type 0 where
    end : ℕ
    value : Bool
    read : Formula n m t part i end value
    passes : ok end value ≡ true

  -- what the search finds is such a part
  found : (k : ℕ) (part : Part) (i : ℕ) (ok : ℕ → Bool → Bool) → finds k part n m t i ok ≡ true → Found part i ok
  unfolding finds
  found zero part i ok e = absurd (false≢true e)
  found (suc k) atom i ok e =
      elim (or_cases _ _ e) [
        | inl p ↦ let h = when_true _ _ p in let b = is_here t i 48 h.0 in record { end = i + 1; value = false; read = nought b.0 b.1; passes = h.1 }
        | inr e1 ↦ elim (or_cases _ _ e1) [
          | inl p ↦ let h = when_true _ _ p in let b = is_here t i 49 h.0 in record { end = i + 1; value = true; read = one b.0 b.1; passes = h.1 }
          | inr e2 ↦ elim (or_cases _ _ e2) [
            | inl p ↦
                let h = when_true _ _ p in
                let b = is_letter n t i h.0 in
                record { end = i + 1; value = stands m (get_or t i 0 - 97); read = mark (get_or t i 0 - 97) b.0 (omega arith) b.2; passes = h.1 }
            | inr e3 ↦ elim (or_cases _ _ e3) [
              | inl p ↦
                  let h = when_true _ _ p in
                  let b = is_here t i 33 h.0 in
                  let r = found k atom (i + 1) (λ j v. ok j (flip v)) h.1 in
                  record { end = r.end; value = flip r.value; read = not b.0 b.1 r.read; passes = r.passes }
              | inr p ↦
                  let h = when_true _ _ p in
                  let b = is_here t i 40 h.0 in
                  let r = found k sum (i + 1) (λ j v. elim (here t j 41) [ true ↦ ok (j + 1) v | false ↦ false ]) h.1 in
                  let g = when_true (here t r.end 41) (ok (r.end + 1) r.value) r.passes in
                  let c = is_here t r.end 41 g.0 in
                  record { end = r.end + 1; value = r.value; read = group b.0 b.1 r.read c.0 c.1; passes = g.1 }
            ]
          ]
        ]
      ]
  found (suc k) product i ok e =
      let r = found k atom i (λ j v. ok j v || elim (here t j 38) [ true ↦ finds k product n m t (j + 1) (λ l w. ok l (both v w)) | false ↦ false ]) e in
      elim (or_cases _ _ r.passes) [
        | inl p ↦ record { end = r.end; value = r.value; read = single r.read; passes = p }
        | inr p ↦
            let h = when_true _ _ p in
            let b = is_here t r.end 38 h.0 in
            let s = found k product (r.end + 1) (λ l w. ok l (both r.value w)) h.1 in
            record { end = s.end; value = both r.value s.value; read = and r.read b.0 b.1 s.read; passes = s.passes }
      ]
  found (suc k) sum i ok e =
      let r = found k product i (λ j v. ok j v || elim (here t j 124) [ true ↦ finds k sum n m t (j + 1) (λ l w. ok l (some v w)) | false ↦ false ]) e in
      elim (or_cases _ _ r.passes) [
        | inl p ↦ record { end = r.end; value = r.value; read = only r.read; passes = p }
        | inr p ↦
            let h = when_true _ _ p in
            let b = is_here t r.end 124 h.0 in
            let s = found k sum (r.end + 1) (λ l w. ok l (some r.value w)) h.1 in
            record { end = s.end; value = some r.value s.value; read = or r.read b.0 b.1 s.read; passes = s.passes }
      ]

  pub spans : {part : Part} {i j : ℕ} {v : Bool} → Formula n m t part i j v → (i < j) × (j ≤ length t)
  spans (nought h e) = (omega arith, omega arith)
  spans (one h e) = (omega arith, omega arith)
  spans (mark k h e l) = (omega arith, omega arith)
  spans (not h e f) = let s = spans f in (omega arith, s.1)
  spans (group h e f k g) = let s = spans f in (omega arith, omega arith)
  spans (single f) = spans f
  spans (and f k e g) = let s = spans f in let u = spans g in (omega arith, u.1)
  spans (only f) = spans f
  spans (or f k e g) = let s = spans f in let u = spans g in (omega arith, u.1)

  -- a sum nests two deeper than an atom
  abbrev spare : Part → ℕ
  spare atom = 2
  spare product = 1
  spare sum = 0

  spare_most : (part : Part) → spare part ≤ 2
  spare_most atom = omega arith
  spare_most product = omega arith
  spare_most sum = omega arith

  -- the five ways in which an atom begins
  abbrev by_nought : ℕ → (ℕ → Bool → Bool) → Bool
  by_nought i ok = when (here t i 48) (ok (i + 1) false)

  abbrev by_one : ℕ → (ℕ → Bool → Bool) → Bool
  by_one i ok = when (here t i 49) (ok (i + 1) true)

  abbrev by_mark : ℕ → (ℕ → Bool → Bool) → Bool
  by_mark i ok = when (letter n t i) (ok (i + 1) (stands m (get_or t i 0 - 97)))

  abbrev by_not : ℕ → ℕ → (ℕ → Bool → Bool) → Bool
  by_not k i ok = when (here t i 33) (finds k atom n m t (i + 1) (λ j v. ok j (flip v)))

  abbrev closing : (ℕ → Bool → Bool) → ℕ → Bool → Bool
  closing ok j v = when (here t j 41) (ok (j + 1) v)

  abbrev by_group : ℕ → ℕ → (ℕ → Bool → Bool) → Bool
  by_group k i ok = when (here t i 40) (finds k sum n m t (i + 1) (closing ok))

  abbrev by_last : ℕ → ℕ → (ℕ → Bool → Bool) → Bool
  by_last k i ok = by_not k i ok || by_group k i ok

  -- and each such part is found
  finds_all : (k : ℕ) {part : Part} {i j : ℕ} {v : Bool} → Formula n m t part i j v → 3 * j ≤ k + 3 * i + spare part →
      (ok : ℕ → Bool → Bool) → ok j v ≡ true → finds k part n m t i ok ≡ true
  unfolding finds
  finds_all (suc k) {i = i} (nought h e) l ok p =
      or_left (by_nought i ok) (by_one i ok || (by_mark i ok || by_last k i ok)) (true_when _ _ (here_is t i 48 h e) p)
  finds_all (suc k) {i = i} (one h e) l ok p =
      or_right (by_nought i ok) (by_one i ok || (by_mark i ok || by_last k i ok))
      (or_left (by_one i ok) (by_mark i ok || by_last k i ok) (true_when _ _ (here_is t i 49 h e) p))
  finds_all (suc k) {i = i} (mark c h e q) l ok p =
      let d : get_or t i 0 - 97 ≡ c = omega arith in
      or_right (by_nought i ok) (by_one i ok || (by_mark i ok || by_last k i ok))
      (or_right (by_one i ok) (by_mark i ok || by_last k i ok)
      (or_left (by_mark i ok) (by_last k i ok)
      (true_when _ _ (letter_is n t i c h e q) (ap (λ x. ok (i + 1) (stands m x)) d ∙ p))))
  finds_all (suc k) {i = i} (not h e f) l ok p =
      or_right (by_nought i ok) (by_one i ok || (by_mark i ok || by_last k i ok))
      (or_right (by_one i ok) (by_mark i ok || by_last k i ok)
      (or_right (by_mark i ok) (by_last k i ok)
      (or_left (by_not k i ok) (by_group k i ok)
      (true_when _ _ (here_is t i 33 h e) (finds_all k f (omega arith) (λ j v. ok j (flip v)) p)))))
  finds_all (suc k) {i = i} (group {j = j} {v = v} h e f q g) l ok p =
      or_right (by_nought i ok) (by_one i ok || (by_mark i ok || by_last k i ok))
      (or_right (by_one i ok) (by_mark i ok || by_last k i ok)
      (or_right (by_mark i ok) (by_last k i ok)
      (or_right (by_not k i ok) (by_group k i ok)
      (true_when _ _ (here_is t i 40 h e)
      (finds_all k f (omega arith) (closing ok) (true_when (here t j 41) (ok (j + 1) v) (here_is t j 41 q g) p))))))
  finds_all (suc k) {i = i} (single f) l ok p =
      finds_all k f (omega arith) (λ j v. ok j v || elim (here t j 38) [ true ↦ finds k product n m t (j + 1) (λ l w. ok l (both v w)) | false ↦ false ]) (or_left _ _ p)
  finds_all (suc k) {i = i} (and {j = j} {v = v} f q e g) l ok p =
      let s = spans f in
      let u = spans g in
      finds_all k f (omega arith) (λ j v. ok j v || elim (here t j 38) [ true ↦ finds k product n m t (j + 1) (λ l w. ok l (both v w)) | false ↦ false ])
      (or_right _ _ (true_when _ _ (here_is t j 38 q e) (finds_all k g (omega arith) (λ l w. ok l (both v w)) p)))
  finds_all (suc k) {i = i} (only f) l ok p =
      finds_all k f (omega arith) (λ j v. ok j v || elim (here t j 124) [ true ↦ finds k sum n m t (j + 1) (λ l w. ok l (some v w)) | false ↦ false ]) (or_left _ _ p)
  finds_all (suc k) {i = i} (or {j = j} {v = v} f q e g) l ok p =
      let s = spans f in
      let u = spans g in
      finds_all k f (omega arith) (λ j v. ok j v || elim (here t j 124) [ true ↦ finds k sum n m t (j + 1) (λ l w. ok l (some v w)) | false ↦ false ])
      (or_right _ _ (true_when _ _ (here_is t j 124 q e) (finds_all k g (omega arith) (λ l w. ok l (some v w)) p)))
  finds_all zero {part = part} f l ok p = absurd (omega (arith, spans f, spare_most part))

abbrev alike : Bool → Bool → Bool
alike true b = b
alike false b = cond b false true

alike_same : (a b : Bool) → alike a b ≡ true → a ≡ b
alike_same true b e = sym e
alike_same false true e = absurd (false≢true e)
alike_same false false e = refl

alike_self : (a : Bool) → alike a a ≡ true
alike_self true = refl
alike_self false = refl

-- it ends there, with that value
abbrev ends_so : ℕ → Bool → ℕ → Bool → Bool
ends_so j v i w = eqb i j && alike w v

abbrev pub is_part : ℕ → ℕ → List ℕ → Part → ℕ → ℕ → Bool → Bool
is_part n m t part i j v = finds (3 * j + 1) part n m t i (ends_so j v)

pub part_decided : (n m : ℕ) (t : List ℕ) (part : Part) (i j : ℕ) (v : Bool) → Decides (is_part n m t part i j v) (Formula n m t part i j v)
part_decided n m t part i j v = (
  λ e.
      let r = found n m t (3 * j + 1) part i (ends_so j v) e in
      let h = (and-eq-true_iff (eqb r.end j) (alike r.value v)).0 r.passes in
      subst (λ (w : Bool). Formula n m t part i j w) (alike_same r.value v h.1)
      (subst (λ (k : ℕ). Formula n m t part i k r.value) (eqb-true r.end j h.0) r.read),
  λ f.
      finds_all n m t (3 * j + 1) f (omega arith) (ends_so j v)
      ((and-eq-true_iff (eqb j j) (alike v v)).1 (eq-eqb j j refl, alike_self v)),
)
