-- The limits of a port, from one member to the next: what holds of a list holds with one more at its end, and what
-- holds of a whole list holds of each member after those before it.
use Rattle.std.proofs.Common.{◌≡◌, ℕ, zero, suc, ◌+◌, ◌-◌, ◌*◌, ◌/◌, ◌%◌, ◌^◌, ◌<◌, ◌≤◌, Bool, true, false, cond, eqb, ltb, leb, List, [], ◌∷◌, ◌++◌, length, get_or, sym, refl, ap, ◌∙◌, subst, inl, inr, append_assoc, arith, length-append, pow_mono, pow-add, ltb-false, ltb-true, lt-ltb, ne_eqb, eqb-true, leb-false, leb-true}
use mathlib.Core.List as List
use native.Mathlib.Nat.{min-eq_left, min-eq_right}
use lib.ListN.{length-map}
use lib.Seq.{get_or-append_seam}
use Rattle.std.proofs.lemmas.List.{get_or_append_left, map-append}
use borrow.Author.Tests.{eqb-false, clash}
use Rattle.formula.specs.Grammar.{TextVerdict, whole, stuck}
use Rattle.formula.specs.Truth.{is_whole}
use Rattle.port.specs.declared.Move.{Move}
use Rattle.port.specs.Limits.{In, no_move, at, Marked, Rise, key, MovesExist, MovesRise, TextOk}
use Rattle.port.specs.Model.{RequestModel}
use Rattle.reading.specs.Reading.{rises, low_limit, high_limit}

-- a condition's two bytes are below their limits exactly when it is a set of the marks
module _ (marks c : ℕ) where
  few_marks : marks ≤ 8 → (low_limit marks ≡ 2 ^ marks) × (high_limit marks ≡ 1)
  few_marks le =
      let none : marks - 8 ≡ 0 = omega arith in
      (ap (λ k. 2 ^ k) (min-eq_left le), ap (λ k. 2 ^ k) none)

  many_marks : 8 < marks → (low_limit marks ≡ 256) × (2 ^ marks ≡ high_limit marks * 256)
  many_marks lt =
      let back : marks ≡ (marks - 8) + 8 = omega arith in
      let le : 8 ≤ marks = omega arith in
      (ap (λ k. 2 ^ k) (min-eq_right le), ap (λ k. 2 ^ k) back ∙ pow-add 2 (marks - 8) 8)

  pub bytes_below : c % 256 < low_limit marks → c / 256 < high_limit marks → c < 2 ^ marks
  bytes_below a b = by (leb marks 8) refl
    where
      by : (t : Bool) → leb marks 8 ≡ t → c < 2 ^ marks
      by true e =
          let two = few_marks (leb-true marks 8 e) in
          let x = subst (λ n. c % 256 < n) two.0 a in
          let y = subst (λ n. c / 256 < n) two.1 b in
          omega arith
      by false e =
          let two = many_marks (leb-false marks 8 e) in
          let x = two.1 in
          omega arith

  pub below_bytes : c < 2 ^ marks → (c % 256 < low_limit marks) × (c / 256 < high_limit marks)
  below_bytes lt = by (leb marks 8) refl
    where
      by : (t : Bool) → leb marks 8 ≡ t → (c % 256 < low_limit marks) × (c / 256 < high_limit marks)
      by true e =
          let le = leb-true marks 8 e in
          let two = few_marks le in
          let most : 2 ^ marks ≤ 256 = pow_mono {i = marks} {j = 8} le in
          let x : c % 256 < 2 ^ marks = omega arith in
          let y : c / 256 < 1 = omega arith in
          (subst (λ n. c % 256 < n) (sym two.0) x, subst (λ n. c / 256 < n) (sym two.1) y)
      by false e =
          let two = many_marks (leb-false marks 8 e) in
          let p = two.1 in
          let x : c % 256 < 256 = omega arith in
          (subst (λ n. c % 256 < n) (sym two.0) x, omega arith)

-- a text that is read whole is a formula
pub formula_whole : (v : TextVerdict) → is_whole v ≡ true → v ≡ whole
formula_whole whole h = refl
formula_whole (stuck k) h = absurd (clash h)

-- members of a list with one more, and of two lists
module _ {A : Type 0} (P : A → Type 0) where
  pub each_more : (d : A) (xs : List A) (x : A) → ((i : ℕ) → i < length xs → P (get_or xs i d)) → P x → (i : ℕ) → i < length (xs ++ x ∷ []) → P (get_or (xs ++ x ∷ []) i d)
  each_more d [] x f h zero lt = h
  each_more d [] x f h (suc i) lt = absurd (omega arith)
  each_more d (y ∷ xs) x f h zero lt = f zero (omega arith)
  each_more d (y ∷ xs) x f h (suc i) lt = each_more d xs x (λ j l. f (suc j) (omega arith)) h i (omega arith)

  pub in_more : (xs : List A) (x : A) → ((q : A) → In q xs → P q) → P x → (q : A) → In q (xs ++ x ∷ []) → P q
  in_more [] x f h q (inl e) = subst P (sym e) h
  in_more [] x f h q (inr i) = elim i [ ]
  in_more (y ∷ xs) x f h q (inl e) = f q (inl e)
  in_more (y ∷ xs) x f h q (inr i) = in_more xs x (λ r j. f r (inr j)) h q i

  pub each_here : (d : A) (old : List A) (x : A) (xs : List A) → ((i : ℕ) → i < length (old ++ x ∷ xs) → P (get_or (old ++ x ∷ xs) i d)) → P x
  each_here d [] x xs f = f 0 (omega arith)
  each_here d (y ∷ old) x xs f = each_here d old x xs (λ i l. f (suc i) (omega arith))

-- above the last is above all
rises_above : (xs : List ℕ) (v : ℕ) → Rise xs → rises xs v ≡ true → (i : ℕ) → i < length xs → get_or xs i 0 < v
unfolding rises
rises_above xs v up h i lt =
    let some : eqb (length xs) 0 ≡ false = ne_eqb (length xs) 0 (λ e. omega arith) in
    let last : get_or xs (length xs - 1) 0 < v = ltb-true _ v (rw some at h) in
    by (eqb i (length xs - 1)) refl last
  where
    by : (t : Bool) → eqb i (length xs - 1) ≡ t → get_or xs (length xs - 1) 0 < v → get_or xs i 0 < v
    by true e last = subst (λ k. get_or xs k 0 < v) (sym (eqb-true i (length xs - 1) e)) last
    by false e last =
        let other : i < length xs - 1 = omega (arith, eqb-false i (length xs - 1) e) in
        omega (arith, up i (length xs - 1) other (omega arith))

pub rise_more : (xs : List ℕ) (v : ℕ) → Rise xs → rises xs v ≡ true → Rise (xs ++ v ∷ [])
rise_more xs v up h i j lt lj = by (ltb j (length xs)) refl
  where
    size : length (xs ++ v ∷ []) ≡ length xs + 1
    size = length-append xs (v ∷ [])

    by : (t : Bool) → ltb j (length xs) ≡ t → get_or (xs ++ v ∷ []) i 0 < get_or (xs ++ v ∷ []) j 0
    by true e =
        let within = ltb-true j (length xs) e in
        rw (get_or_append_left xs (v ∷ []) 0 i (omega arith), get_or_append_left xs (v ∷ []) 0 j within) (up i j lt within)
    by false e =
        let end : j ≡ length xs = omega (arith, ltb-false j (length xs) e, size) in
        let last : get_or (xs ++ v ∷ []) j 0 ≡ v = ap (λ k. get_or (xs ++ v ∷ []) k 0) end ∙ get_or-append_seam xs v [] 0 in
        rw (last, get_or_append_left xs (v ∷ []) 0 i (omega arith)) (rises_above xs v up h i (omega arith))

pub rise_here : (old : List ℕ) (v : ℕ) (xs : List ℕ) → Rise (old ++ v ∷ xs) → rises old v ≡ true
unfolding rises
rise_here old v xs up = by (eqb (length old) 0) refl
  where
    size : length (old ++ v ∷ xs) ≡ length old + suc (length xs)
    size = length-append old (v ∷ xs)

    by : (t : Bool) → eqb (length old) 0 ≡ t → cond t true (ltb (get_or old (length old - 1) 0) v) ≡ true
    by true e = refl
    by false e =
        let some = eqb-false (length old) 0 e in
        let step = up (length old - 1) (length old) (omega arith) (omega (arith, size)) in
        let before = get_or_append_left old (v ∷ xs) 0 (length old - 1) (omega arith) in
        let here = get_or-append_seam old v xs 0 in
        lt-ltb _ v (omega arith)

-- the order of moves is that of their keys
key_at : (ms : List Move) (i : ℕ) → get_or (List.map key ms) i 0 ≡ key (at ms i)
key_at [] i = refl
key_at (v ∷ ms) zero = refl
key_at (v ∷ ms) (suc i) = key_at ms i

keys_rise : (ms : List Move) → MovesRise ms → Rise (List.map key ms)
keys_rise ms up i j lt lj =
    let size = length-map ms key in
    rw (key_at ms i, key_at ms j) (up i j lt (omega arith))

moves_rise : (ms : List Move) → Rise (List.map key ms) → MovesRise ms
moves_rise ms up i j lt lj =
    let size = length-map ms key in
    rw (sym (key_at ms i), sym (key_at ms j)) (up i j lt (omega arith))

pub moves_rise_more : (ms : List Move) (v : Move) → MovesRise ms → rises (List.map key ms) (key v) ≡ true → MovesRise (ms ++ v ∷ [])
moves_rise_more ms v up h =
    moves_rise (ms ++ v ∷ []) (subst Rise (sym (map-append key ms (v ∷ []))) (rise_more (List.map key ms) (key v) (keys_rise ms up) h))

pub moves_rise_here : (old : List Move) (v : Move) (ms : List Move) → MovesRise (old ++ v ∷ ms) → rises (List.map key old) (key v) ≡ true
moves_rise_here old v ms up =
    rise_here (List.map key old) (key v) (List.map key ms) (subst Rise (map-append key old (v ∷ ms)) (keys_rise (old ++ v ∷ ms) up))

-- the conditions that come after the old ones
abbrev pub Conditions : ℕ → List ℕ → List ℕ → Type 0
Conditions marks old [] = Unit {0}
Conditions marks old (c ∷ cs) =
    (length old < 256) × (c % 256 < low_limit marks) × (c / 256 < high_limit marks) × (rises old c ≡ true) × Conditions marks (old ++ c ∷ []) cs

-- the moves that come after the old ones, among n conditions
abbrev pub Moves : ℕ → ℕ → List Move → List Move → Type 0
Moves operations n old [] = Unit {0}
Moves operations n old (v ∷ vs) =
    (length old < 4096) × (v.condition < n) × (v.operation < operations) × (v.outcome < n) × (rises (List.map key old) (key v) ≡ true) × Moves operations n (old ++ v ∷ []) vs

-- the requests that come after the old ones
abbrev pub Requests : ℕ → ℕ → List RequestModel → List RequestModel → Type 0
Requests marks stages old [] = Unit {0}
Requests marks stages old (w ∷ ws) =
    (length old < 32) × (w.from < stages) × (w.to < stages) × TextOk marks w.keep × TextOk marks w.reach × Requests marks stages (old ++ w ∷ []) ws

pub conditions_one_by_one : (marks : ℕ) (old cs : List ℕ) → length (old ++ cs) ≤ 256 → Marked marks (old ++ cs) → Rise (old ++ cs) → Conditions marks old cs
conditions_one_by_one marks old [] few ok up = tt
conditions_one_by_one marks old (c ∷ cs) few ok up =
    let line = append_assoc old (c ∷ []) cs in
    let size = length-append old (c ∷ cs) in
    let small = below_bytes marks c (each_here (λ x. x < 2 ^ marks) 0 old c cs ok) in (
      omega arith,
      small.0,
      small.1,
      rise_here old c cs up,
      conditions_one_by_one marks (old ++ c ∷ []) cs (subst (λ l. length l ≤ 256) (sym line) few) (subst (Marked marks) (sym line) ok) (subst Rise (sym line) up),
    )

pub moves_one_by_one : (operations n : ℕ) (old vs : List Move) → length (old ++ vs) ≤ 4096 → MovesExist n operations (old ++ vs) → MovesRise (old ++ vs) → Moves operations n old vs
moves_one_by_one operations n old [] few ok up = tt
moves_one_by_one operations n old (v ∷ vs) few ok up =
    let line = append_assoc old (v ∷ []) vs in
    let size = length-append old (v ∷ vs) in
    let fine = each_here (λ x. (x.condition < n) × (x.operation < operations) × (x.outcome < n)) no_move old v vs ok in (
      omega arith,
      fine.0,
      fine.1,
      fine.2,
      moves_rise_here old v vs up,
      moves_one_by_one operations n (old ++ v ∷ []) vs (subst (λ l. length l ≤ 4096) (sym line) few) (subst (MovesExist n operations) (sym line) ok) (subst MovesRise (sym line) up),
    )

pub requests_one_by_one : (marks stages : ℕ) (old ws : List RequestModel) → length (old ++ ws) ≤ 32 → ((q : RequestModel) → In q ws → (q.from < stages) × (q.to < stages)) → ((q : RequestModel) → In q ws → TextOk marks q.keep × TextOk marks q.reach) → Requests marks stages old ws
requests_one_by_one marks stages old [] few staged worded = tt
requests_one_by_one marks stages old (w ∷ ws) few staged worded =
    let line = append_assoc old (w ∷ []) ws in
    let size = length-append old (w ∷ ws) in
    let here = staged w (inl refl) in
    let texts = worded w (inl refl) in (
      omega arith,
      here.0,
      here.1,
      texts.0,
      texts.1,
      requests_one_by_one marks stages (old ++ w ∷ []) ws (subst (λ l. length l ≤ 32) (sym line) few) (λ q i. staged q (inr i)) (λ q i. worded q (inr i)),
    )

-- members of a list that is mapped
pub in_map : {A B : Type 0} (f : A → B) (xs : List A) (x : A) → In x xs → In (f x) (List.map f xs)
in_map f [] x i = elim i [ ]
in_map f (y ∷ xs) x (inl e) = inl (ap f e)
in_map f (y ∷ xs) x (inr i) = inr (in_map f xs x i)
