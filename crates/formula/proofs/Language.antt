-- The reading by bytes reads the grammar: it ends whole at a formula and at nothing else, and where it is
-- stuck no formula goes on. Assumes nothing.
use Rattle.std.proofs.Common.{◌≡◌, ℕ, zero, suc, ◌+◌, ◌-◌, ◌<◌, ◌≤◌, Bool, true, false, List, [], ◌∷◌, ◌++◌, length, get_or, take, drop, sym, refl, ap, ◌∙◌, subst, add-one, arith}
use native.Mathlib.Decide.{ℕ_discrete, dec_le, dec_lt}
use Rattle.formula.specs.Grammar.{verdict, goes, step, to, refuse, opens, after, stuck, whole, Whole, NoFormula, Refused, SumRead, Formula, Part, atom, sum, nought, one, mark, not, group, single, and, only, or, flip, stands}
use Rattle.std.proofs.lemmas.List.{drop_all}
use Rattle.formula.proofs.Steps.{at, at_opens, at_after, goes_to, goes_refuse, goes_end, goes_open, step_nought, step_one, step_not, step_group, step_mark, step_high, step_low, step_and, step_or, step_close, step_other, step_past}

goes_whole : (n p : ℕ) → goes n false 0 [] p ≡ whole
unfolding goes
goes_whole n p = refl

apart : {A : Type 0} (p : ℕ) → whole ≡ stuck p → A
apart p e = let z : ◌≡◌ {A = ℕ} 0 1 = cc in absurd (omega arith)

-- every part of the grammar is read through
pub went : {n m : ℕ} {t : List ℕ} {part : Part} {i j : ℕ} {v : Bool} → Formula n m t part i j v → (d : ℕ) → opens n t d i ≡ after n t d j
went (nought h e) d = at_opens _ 0 _ _ h d ∙ goes_to _ _ _ _ _ _ (step_nought _ _ d e)
went (one h e) d = at_opens _ 0 _ _ h d ∙ goes_to _ _ _ _ _ _ (step_one _ _ d e)
went (mark k h e l) d = at_opens _ 0 _ _ h d ∙ goes_to _ _ _ _ _ _ (step_mark _ _ d (omega arith) (omega arith))
went (not h e f) d = at_opens _ 0 _ _ h d ∙ goes_to _ _ _ _ _ _ (step_not _ _ d e) ∙ went f d
went (group h e f k g) d =
    at_opens _ 0 _ _ h d ∙ goes_to _ _ _ _ _ _ (step_group _ _ d e) ∙ went f (suc d) ∙ at_after _ 0 _ _ k (suc d) ∙ goes_to _ _ _ _ _ _ (step_close _ _ d g)
went (single f) d = went f d
went (and f k e g) d = went f d ∙ at_after _ 0 _ _ k d ∙ goes_to _ _ _ _ _ _ (step_and _ _ d e) ∙ went g d
went (only f) d = went f d
went (or f k e g) d = went f d ∙ at_after _ 0 _ _ k d ∙ goes_to _ _ _ _ _ _ (step_or _ _ d e) ∙ went g d

pub read_whole : (n m : ℕ) (t : List ℕ) (v : Bool) → Whole n m t v → goes n true 0 t 0 ≡ whole
read_whole n m t v w = went w 0 ∙ ap (λ l. goes n false 0 l (length t)) (drop_all (length t) t (omega arith)) ∙ goes_whole n (length t)

-- a stuck place lies from here to the end
same_place : (p q : ℕ) → stuck p ≡ stuck q → p ≡ q
same_place p q e = cc

pub lies : (n : ℕ) (e : Bool) (d : ℕ) (xs : List ℕ) (p q : ℕ) → goes n e d xs p ≡ stuck q → p ≤ q
lies n true d [] p q h = omega (arith, same_place p q (sym (goes_end n d p) ∙ h))
lies n false zero [] p q h = apart q (sym (goes_whole n p) ∙ h)
lies n false (suc d) [] p q h = omega (arith, same_place p q (sym (goes_open n d p) ∙ h))
lies n e d (b ∷ bs) p q h =
    elim (step n e d b) as (λ s. step n e d b ≡ s → p ≤ q) [
      | refuse ↦ λ r. omega (arith, same_place p q (sym (goes_refuse n e d b bs p r) ∙ h))
      | to f k ↦ λ r. omega (arith, lies n f k bs (p + 1) q (sym (goes_to n e d b bs p r) ∙ h))
    ] refl

-- one that is stuck at a byte is stuck there whatever follows
pub stays : (n : ℕ) (e : Bool) (d : ℕ) (xs : List ℕ) (p q k : ℕ) → goes n e d xs p ≡ stuck q → q ≡ p + k → k < length xs → (tail : List ℕ) → goes n e d (take (suc k) xs ++ tail) p ≡ stuck q
stays n e d [] p q k h is lt tail = absurd (omega arith)
stays n e d (b ∷ bs) p q zero h is lt tail =
    elim (step n e d b) as (λ s. step n e d b ≡ s → goes n e d (b ∷ tail) p ≡ stuck q) [
      | refuse ↦ λ r. goes_refuse n e d b tail p r ∙ sym (goes_refuse n e d b bs p r) ∙ h
      | to f j ↦ λ r. absurd (omega (arith, lies n f j bs (p + 1) q (sym (goes_to n e d b bs p r) ∙ h)))
    ] refl
stays n e d (b ∷ bs) p q (suc k) h is lt tail =
    elim (step n e d b) as (λ s. step n e d b ≡ s → goes n e d (b ∷ (take (suc k) bs ++ tail)) p ≡ stuck q) [
      | refuse ↦ λ r. goes_refuse n e d b (take (suc k) bs ++ tail) p r ∙ sym (goes_refuse n e d b bs p r) ∙ h
      | to f j ↦ λ r. goes_to n e d b (take (suc k) bs ++ tail) p r ∙ stays n f j bs (p + 1) q k (sym (goes_to n e d b bs p r) ∙ h) (omega arith) (omega arith) tail
    ] refl

closers : ℕ → List ℕ
closers zero = []
closers (suc d) = 41 ∷ closers d

closes : (n d p : ℕ) → goes n false d (closers d) p ≡ whole
unfolding closers
closes n zero p = goes_whole n p
closes n (suc d) p = goes_to n false (suc d) 41 (closers d) p (step_close n 41 d refl) ∙ closes n d (p + 1)

finishes : (n : ℕ) (e : Bool) (d p : ℕ) → (tail : List ℕ) × (goes n e d tail p ≡ whole)
finishes n true d p = (48 ∷ closers d, goes_to n true d 48 (closers d) p (step_nought n 48 d refl) ∙ closes n d (p + 1))
finishes n false d p = (closers d, closes n d p)

-- what comes before the place where it is stuck goes on to a whole
pub lives : (n : ℕ) (e : Bool) (d : ℕ) (xs : List ℕ) (p q k : ℕ) → goes n e d xs p ≡ stuck q → q ≡ p + k → k ≤ length xs → (tail : List ℕ) × (goes n e d (take k xs ++ tail) p ≡ whole)
lives n e d xs p q zero h is le = finishes n e d p
lives n e d [] p q (suc k) h is le = absurd (omega arith)
lives n e d (b ∷ bs) p q (suc k) h is le =
    elim (step n e d b) as (λ s. step n e d b ≡ s → (tail : List ℕ) × (goes n e d (b ∷ (take k bs ++ tail)) p ≡ whole)) [
      | refuse ↦ λ r. absurd (omega (arith, same_place p q (sym (goes_refuse n e d b bs p r) ∙ h)))
      | to f j ↦ λ r.
          let rest = lives n f j bs (p + 1) q k (sym (goes_to n e d b bs p r) ∙ h) (omega arith) (omega arith) in
          (rest.0, goes_to n e d b (take k bs ++ rest.0) p r ∙ rest.1)
    ] refl

-- what follows an atom that ends at j, with d groups open
data Tail (n m : ℕ) (t : List ℕ) : ℕ → ℕ → Type 0 where
  done : {d j : ℕ} → d ≡ 0 → j ≡ length t → Tail n m t d j
  close : {d j : ℕ} (k : ℕ) → d ≡ suc k → j < length t → get_or t j 0 ≡ 41 → Tail n m t k (j + 1) → Tail n m t d j
  join_and : {d j k : ℕ} {v : Bool} → j < length t → get_or t j 0 ≡ 38 → Formula n m t atom (j + 1) k v → Tail n m t d k → Tail n m t d j
  join_or : {d j k : ℕ} {v : Bool} → j < length t → get_or t j 0 ≡ 124 → Formula n m t atom (j + 1) k v → Tail n m t d k → Tail n m t d j

-- how the sum ends, whose first atom ends at j
data End (n m : ℕ) (t : List ℕ) (d k : ℕ) : Type 0 where
  all : d ≡ 0 → k ≡ length t → End n m t d k
  closed : (c : ℕ) → d ≡ suc c → k < length t → get_or t k 0 ≡ 41 → Tail n m t c (k + 1) → End n m t d k

record Ended (n m : ℕ) (t : List ℕ) (d i : ℕ) : Type 0 where
  k : ℕ
  w : Bool
  read : Formula n m t sum i k w
  end : End n m t d k

and_sum : {n m : ℕ} {t : List ℕ} {i j k : ℕ} {v w : Bool} → Formula n m t atom i j v → j < length t → get_or t j 0 ≡ 38 → Formula n m t sum (j + 1) k w → (u : Bool) × Formula n m t sum i k u
and_sum a h e (only p) = (_, only (and a h e p))
and_sum a h e (or p l g s) = (_, or (and a h e p) l g s)

sum_of : {n m : ℕ} {t : List ℕ} {d i j : ℕ} {v : Bool} → Formula n m t atom i j v → Tail n m t d j → Ended n m t d i
sum_of a (done e f) = record { k = _; w = _; read = only (single a); end = all e f }
sum_of a (close k e h f r) = record { k = _; w = _; read = only (single a); end = closed k e h f r }
sum_of a (join_and h e b r) =
    let s = sum_of b r in
    let x = and_sum a h e s.read in
    record { k = s.k; w = x.0; read = x.1; end = s.end }
sum_of a (join_or h e b r) =
    let s = sum_of b r in
    record { k = s.k; w = _; read = or (single a) h e s.read; end = s.end }

-- what a byte is where an atom has to come, and where one has ended
data Opening (n b : ℕ) : Type 0 where
  is_nought : b ≡ 48 → Opening n b
  is_one : b ≡ 49 → Opening n b
  is_mark : 97 ≤ b → b - 97 < n → Opening n b
  is_not : b ≡ 33 → Opening n b
  is_group : b ≡ 40 → Opening n b
  is_none : ((d : ℕ) → step n true d b ≡ refuse) → Opening n b

opening : (n b : ℕ) → Opening n b
opening n b =
    elim (dec_le 97 b) [
      | yes l ↦ elim (dec_lt (b - 97) n) [ yes k ↦ is_mark l k | no k ↦ is_none (λ d. step_high n b d l (omega arith)) ]
      | no l ↦ elim (ℕ_discrete b 48) [
        | yes e ↦ is_nought e
        | no a1 ↦ elim (ℕ_discrete b 49) [
          | yes e ↦ is_one e
          | no a2 ↦ elim (ℕ_discrete b 33) [
            | yes e ↦ is_not e
            | no a3 ↦ elim (ℕ_discrete b 40) [ yes e ↦ is_group e | no a4 ↦ is_none (λ d. step_low n b d (omega arith) a1 a2 a3 a4) ]
          ]
        ]
      ]
    ]

data Following (n b : ℕ) : Type 0 where
  is_and : b ≡ 38 → Following n b
  is_or : b ≡ 124 → Following n b
  is_close : b ≡ 41 → Following n b
  is_other : ((d : ℕ) → step n false d b ≡ refuse) → Following n b

following : (n b : ℕ) → Following n b
following n b =
    elim (ℕ_discrete b 38) [
      | yes e ↦ is_and e
      | no a1 ↦ elim (ℕ_discrete b 124) [
        | yes e ↦ is_or e
        | no a2 ↦ elim (ℕ_discrete b 41) [ yes e ↦ is_close e | no a3 ↦ is_other (λ d. step_other n b d a1 a2 a3) ]
      ]
    ]

record Start (n m : ℕ) (t : List ℕ) (d i : ℕ) : Type 0 where
  end : ℕ
  value : Bool
  read : Formula n m t atom i end value
  tail : Tail n m t d end

abbrev Goes_on : ℕ → ℕ → List ℕ → Bool → ℕ → ℕ → Type 0
Goes_on n m t true d i = Start n m t d i
Goes_on n m t false d i = Tail n m t d i

module _ (t : List ℕ) (i b : ℕ) (bs : List ℕ) (is : drop i t ≡ b ∷ bs) (len : i + suc (length bs) ≡ length t) where
  head_is : get_or t i 0 ≡ b
  head_is = let f = at t i (omega arith) in cc

  rest_is : drop (i + 1) t ≡ bs
  rest_is = let f = at t i (omega arith) in cc

runs : (n m : ℕ) (t : List ℕ) (e : Bool) (d : ℕ) (xs : List ℕ) (i : ℕ) → drop i t ≡ xs → i + length xs ≡ length t → goes n e d xs i ≡ whole → Goes_on n m t e d i
runs n m t true d [] i is len h = apart i (sym h ∙ goes_end n d i)
runs n m t false zero [] i is len h = done refl (omega arith)
runs n m t false (suc d) [] i is len h = apart i (sym h ∙ goes_open n d i)
runs n m t true d (b ∷ bs) i is len h =
    let lt : i < length t = omega arith in
    let here = head_is t i b bs is len in
    let rest = rest_is t i b bs is len in
    elim (opening n b) [
      | is_nought e ↦ record { end = i + 1; value = false; read = nought lt (here ∙ e); tail = runs n m t false d bs (i + 1) rest (omega arith) (sym (goes_to n true d b bs i (step_nought n b d e)) ∙ h) }
      | is_one e ↦ record { end = i + 1; value = true; read = one lt (here ∙ e); tail = runs n m t false d bs (i + 1) rest (omega arith) (sym (goes_to n true d b bs i (step_one n b d e)) ∙ h) }
      | is_mark l k ↦ record { end = i + 1; value = stands m (b - 97); read = mark (b - 97) lt (omega arith) k; tail = runs n m t false d bs (i + 1) rest (omega arith) (sym (goes_to n true d b bs i (step_mark n b d l k)) ∙ h) }
      | is_not e ↦
          let s = runs n m t true d bs (i + 1) rest (omega arith) (sym (goes_to n true d b bs i (step_not n b d e)) ∙ h) in
          record { end = s.end; value = flip s.value; read = not lt (here ∙ e) s.read; tail = s.tail }
      | is_group e ↦
          let s = runs n m t true (suc d) bs (i + 1) rest (omega arith) (sym (goes_to n true d b bs i (step_group n b d e)) ∙ h) in
          let x = sum_of s.read s.tail in
          elim x.end [
            | all z f ↦ absurd (omega arith)
            | closed c z l f r ↦ record { end = x.k + 1; value = x.w; read = group lt (here ∙ e) x.read l f; tail = let same : c ≡ d = omega arith in subst (λ q. Tail n m t q (x.k + 1)) same r }
          ]
      | is_none r ↦ apart i (sym h ∙ goes_refuse n true d b bs i (r d))
    ]
runs n m t false zero (b ∷ bs) i is len h =
    let lt : i < length t = omega arith in
    let here = head_is t i b bs is len in
    let rest = rest_is t i b bs is len in
    elim (following n b) [
      | is_and e ↦
          let s = runs n m t true zero bs (i + 1) rest (omega arith) (sym (goes_to n false zero b bs i (step_and n b zero e)) ∙ h) in
          join_and lt (here ∙ e) s.read s.tail
      | is_or e ↦
          let s = runs n m t true zero bs (i + 1) rest (omega arith) (sym (goes_to n false zero b bs i (step_or n b zero e)) ∙ h) in
          join_or lt (here ∙ e) s.read s.tail
      | is_close e ↦ apart i (sym h ∙ goes_refuse n false zero b bs i (step_past n b (λ f. omega arith) (λ f. omega arith)))
      | is_other r ↦ apart i (sym h ∙ goes_refuse n false zero b bs i (r zero))
    ]
runs n m t false (suc d) (b ∷ bs) i is len h =
    let lt : i < length t = omega arith in
    let here = head_is t i b bs is len in
    let rest = rest_is t i b bs is len in
    elim (following n b) [
      | is_and e ↦
          let s = runs n m t true (suc d) bs (i + 1) rest (omega arith) (sym (goes_to n false (suc d) b bs i (step_and n b (suc d) e)) ∙ h) in
          join_and lt (here ∙ e) s.read s.tail
      | is_or e ↦
          let s = runs n m t true (suc d) bs (i + 1) rest (omega arith) (sym (goes_to n false (suc d) b bs i (step_or n b (suc d) e)) ∙ h) in
          join_or lt (here ∙ e) s.read s.tail
      | is_close e ↦ close d refl lt (here ∙ e) (runs n m t false d bs (i + 1) rest (omega arith) (sym (goes_to n false (suc d) b bs i (step_close n b d e)) ∙ h))
      | is_other r ↦ apart i (sym h ∙ goes_refuse n false (suc d) b bs i (r (suc d)))
    ]

-- what is read whole is a formula
pub complete : (n m : ℕ) (t : List ℕ) → goes n true 0 t 0 ≡ whole → (v : Bool) × Whole n m t v
complete n m t h =
    let s = runs n m t true 0 t 0 refl (omega arith) h in
    let x = sum_of s.read s.tail in
    elim x.end [
      | all z f ↦ (x.w, subst (λ k. Formula n m t sum 0 k x.w) f x.read)
      | closed c z l f r ↦ absurd (omega arith)
    ]

pub no_formula : (n : ℕ) (t : List ℕ) (p : ℕ) → p ≤ length t → goes n true 0 t 0 ≡ stuck p → NoFormula n t p
no_formula n t p le h =
    record {
      within = le;
      none = λ m v w. apart p (sym (read_whole n m t v w) ∙ h);
      goes_on = λ m. let l = lives n true 0 t 0 p p h (omega arith) le in (l.0, complete n m (take p t ++ l.0) l.1);
      stops = λ lt m tail v w. apart p (sym (read_whole n m (take (p + 1) t ++ tail) v w) ∙ rw add-one (stays n true 0 t 0 p p h (omega arith) lt tail));
    }

-- the two ways in which the reading of a whole text is refused
pub no_formula_by : (n : ℕ) (t : List ℕ) (p : ℕ) → Refused n t 0 p → NoFormula n t p
no_formula_by n t p r = no_formula n t p r.within (r.went 0)

pub no_formula_past : (n m : ℕ) (t : List ℕ) (v : Bool) (j : ℕ) → SumRead n m t 0 v j → j < length t → NoFormula n t j
no_formula_past n m t v j r lt =
    no_formula n t j r.within (r.went 0 ∙ at_after n 0 t j lt 0 ∙ goes_refuse n false 0 _ _ j (step_past n _ (r.no_and lt) (r.no_or lt)))

-- a text that is refused past a sum, and before
pub verdict_past : (n m : ℕ) (t : List ℕ) (v : Bool) (j : ℕ) → SumRead n m t 0 v j → j < length t → verdict n t ≡ stuck j
unfolding verdict
verdict_past n m t v j r lt = r.went 0 ∙ at_after n 0 t j lt 0 ∙ goes_refuse n false 0 _ _ j (step_past n _ (r.no_and lt) (r.no_or lt))

pub verdict_by : (n : ℕ) (t : List ℕ) (p : ℕ) → Refused n t 0 p → verdict n t ≡ stuck p
unfolding verdict
verdict_by n t p r = r.went 0

-- where the reading of a text is whole, its verdict is
pub whole_verdict : (n m : ℕ) (t : List ℕ) (v : Bool) → Whole n m t v → verdict n t ≡ whole
unfolding verdict
whole_verdict n m t v w = read_whole n m t v w
