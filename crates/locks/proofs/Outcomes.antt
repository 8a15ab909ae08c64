-- Facts on the outcomes of an operation.
use Rattle.std.proofs.Common.{◌≡◌, ℕ, zero, suc, ◌+◌, ◌-◌, ◌*◌, ◌<◌, ◌≤◌, Bool, true, false, cond, ◌⊎◌, List, [], ◌∷◌, ◌++◌, map, length, get_or, take, drop, eqb, ltb, leb, not, ◌||◌, vec_items, Some, Ordering, sym, refl, ap, ap₂, ◌∙◌, subst, inl, inr, ⊎_elim, arith, ltb-true, ltb-false, le-ltb, lt-ltb, le-leb, leb-true, leb-false, ne_eqb}
use Rattle.std.specs.List.Sorted.{IsPartitionPoint, IsPartitionedBy}
use Rattle.std.specs.Ordering.{MatchOrdering, is_le, is_lt, is_some_and, nat_cmp, partial_ordering_then}
use Rattle.std.specs.declared.cmp.Ordering.TheVariants.{Less, Equal, Greater}
use Rattle.std.proofs.lemmas.Cmp.{ranked}
use Rattle.std.proofs.lemmas.List.{append-nil, get_or_default, get_or-drop, get_or-take, length-drop, length-take-le, take-append-drop}
use Rattle.std.proofs.lemmas.Bool.{cases_Bool, cases_lt, cond-true, cond-false, lt-leb}
use Rattle.port.specs.Limits.{In, Rise, MovesRise, at, key, no_move}
use Rattle.port.specs.Model.{Model, model_of}
use Rattle.port.specs.Valid.{Valid}
use Rattle.port.specs.declared.Move.{Move}
use Rattle.port.specs.declared.held.Port.{Port}
use Rattle.plans.specs.Plans.{Can}
use Rattle.plans.proofs.Formed.{port_valid}
use Rattle.plans.proofs.Index.{in_at, at_all, is_false}
use Rattle.locks.specs.Places.{fits, Leads, possible}
use Rattle.locks.specs.Works.{outcomes, InOrder}
use Rattle.locks.proofs.Standing.{fits_true, fits_parts}

-- ── they stand together ──

outcomes_append : (xs ys : List Move) (c o : ℕ) → outcomes (xs ++ ys) c o ≡ outcomes xs c o ++ outcomes ys c o
outcomes_append [] ys c o = refl
outcomes_append (x ∷ xs) ys c o = go (fits c o x) (outcomes_append xs ys c o)
  where
    go : (b : Bool) → outcomes (xs ++ ys) c o ≡ outcomes xs c o ++ outcomes ys c o →
        cond b (x.outcome ∷ outcomes (xs ++ ys) c o) (outcomes (xs ++ ys) c o) ≡ cond b (x.outcome ∷ outcomes xs c o) (outcomes xs c o) ++ outcomes ys c o
    go true e = ap (λ (ds : List ℕ). x.outcome ∷ ds) e
    go false e = e

none_fit : (ms : List Move) (c o : ℕ) → ((i : ℕ) → i < length ms → fits c o (at ms i) ≡ false) → outcomes ms c o ≡ []
none_fit [] c o h = refl
none_fit (m ∷ ms) c o h =
    cond-false (fits c o m) (m.outcome ∷ outcomes ms c o) (outcomes ms c o) (h 0 (omega arith)) ∙ none_fit ms c o (λ i l. h (suc i) (omega arith))

all_fit : (ms : List Move) (c o : ℕ) → ((i : ℕ) → i < length ms → fits c o (at ms i) ≡ true) → outcomes ms c o ≡ map (λ (m : Move). m.outcome) ms
all_fit [] c o h = refl
all_fit (m ∷ ms) c o h =
    cond-true (fits c o m) (m.outcome ∷ outcomes ms c o) (outcomes ms c o) (h 0 (omega arith))
    ∙ ap (λ (ds : List ℕ). m.outcome ∷ ds) (all_fit ms c o (λ i l. h (suc i) (omega arith)))

-- where just the moves from a up to b fit, their outcomes are all
pub together : (ms : List Move) (c o a b : ℕ) → a ≤ b → b ≤ length ms →
    ((i : ℕ) → i < a → fits c o (at ms i) ≡ false) → ((i : ℕ) → a ≤ i → i < b → fits c o (at ms i) ≡ true) →
    ((i : ℕ) → b ≤ i → i < length ms → fits c o (at ms i) ≡ false) →
    map (λ (m : Move). m.outcome) (take (b - a) (drop a ms)) ≡ outcomes ms c o
together ms c o a b l h before within after =
    let front : List Move = take a ms in
    let part : List Move = take (b - a) (drop a ms) in
    let rest : List Move = drop (b - a) (drop a ms) in
    let long : length front ≡ a = length-take-le a ms (omega arith) in
    let short : length part ≡ b - a = length-take-le (b - a) (drop a ms) (omega (arith, length-drop a ms)) in
    let left : length rest ≡ length ms - a - (b - a) = length-drop (b - a) (drop a ms) ∙ ap (λ (n : ℕ). n - (b - a)) (length-drop a ms) in
    let x : outcomes front c o ≡ [] = none_fit front c o (λ i k. ap (fits c o) (get_or-take a ms i no_move (omega arith)) ∙ before i (omega arith)) in
    let y : outcomes part c o ≡ map (λ (m : Move). m.outcome) part =
    all_fit part c o
    (λ i k. ap (fits c o) (get_or-take (b - a) (drop a ms) i no_move (omega arith) ∙ get_or-drop a ms i no_move) ∙ within (a + i) (omega arith) (omega arith)) in
    let z : outcomes rest c o ≡ [] =
    none_fit rest c o
    (λ i k. ap (fits c o) (get_or-drop (b - a) (drop a ms) i no_move ∙ get_or-drop a ms (b - a + i) no_move) ∙ after (a + (b - a + i)) (omega arith) (omega arith)) in
    let parts : outcomes ms c o ≡ outcomes front c o ++ (outcomes part c o ++ outcomes rest c o) =
    ap (λ (xs : List Move). outcomes xs c o) (sym (take-append-drop a ms))
    ∙ outcomes_append front (drop a ms) c o
    ∙ ap (λ (ds : List ℕ). outcomes front c o ++ ds) (ap (λ (xs : List Move). outcomes xs c o) (sym (take-append-drop (b - a) (drop a ms))) ∙ outcomes_append part rest c o) in
    sym (parts ∙ ap₂ (λ (us vs : List ℕ). us ++ (outcomes part c o ++ vs)) x z ∙ append-nil (outcomes part c o) ∙ y)

-- a move's place in the order of conditions and operations
abbrev pub order : Move → ℕ
order m = 256 * m.condition + m.operation

-- two pairs of numbers as they are compared, the first of each before the second
abbrev pub passes : (Ordering → Bool) → ℕ → ℕ → ℕ → ℕ → Bool
passes f a b c d = is_some_and f (partial_ordering_then (Some (nat_cmp a c)) (Some (nat_cmp b d)))

-- the condition and operation of a move come before c and o, or not after them
abbrev pub lower : ℕ → ℕ → Move → Bool
lower c o m = passes is_lt m.condition m.operation c o

abbrev pub upto : ℕ → ℕ → Move → Bool
upto c o m = passes is_le m.condition m.operation c o

by_pairs : (f : Ordering → Bool) (a b c d : ℕ) (r : Bool) → (256 * a + b < 256 * c + d → f Less ≡ r) → (256 * a + b ≡ 256 * c + d → f Equal ≡ r) →
    (256 * c + d < 256 * a + b → f Greater ≡ r) → b < 256 → d < 256 → passes f a b c d ≡ r
by_pairs f a b c d r less same more p q = go (nat_cmp a c) (nat_cmp b d) (ranked a c (nat_cmp a c) refl) (ranked b d (nat_cmp b d) refl)
  where
    go : (u v : Ordering) → MatchOrdering u (a < c) (a ≡ c) (c < a) → MatchOrdering v (b < d) (b ≡ d) (d < b) → is_some_and f (partial_ordering_then (Some u) (Some v)) ≡ r
    go Less v h k = less (omega arith)
    go Greater v h k = more (omega arith)
    go Equal Less h k = less (omega arith)
    go Equal Equal h k = same (omega arith)
    go Equal Greater h k = more (omega arith)

-- the moves of a condition and operation begin at a, and end at b
pub record Span (ms : List Move) (c o a b : ℕ) : Type 0 where
  pub rise : a ≤ b
  pub inside : b ≤ length ms
  pub all : map (λ (m : Move). m.outcome) (take (b - a) (drop a ms)) ≡ outcomes ms c o

module _ (M : Model) (v : Valid M) (c o : ℕ) (few : o < 256) where
  ordered : (i j : ℕ) → i ≤ j → j < length M.moves → order (at M.moves i) ≤ order (at M.moves j)
  ordered i j h l =
      ⊎_elim
      (λ q.
      let u = v.moves_rise i j q l in
      let n = v.conditions_few in
      let e = (v.moves_exist j l).2 in
      omega arith)
      (λ q. let e : i ≡ j = omega arith in let s = ap (λ k. order (at M.moves k)) e in omega arith)
      (cases_lt i j)

  small : (i : ℕ) → i < length M.moves → (at M.moves i).operation < 256
  small i l = let n = v.operations_few in let e = (v.moves_exist i l).1 in omega arith

  lower_is : (i : ℕ) → i < length M.moves → lower c o (at M.moves i) ≡ ltb (order (at M.moves i)) (256 * c + o)
  lower_is i l =
      let m = at M.moves i in
      by_pairs is_lt m.condition m.operation c o (ltb (order m) (256 * c + o)) (λ h. sym (lt-ltb (order m) (256 * c + o) h)) (λ h. sym (le-ltb (order m) (256 * c + o) (omega arith)))
      (λ h. sym (le-ltb (order m) (256 * c + o) (omega arith))) (small i l) few

  upto_is : (i : ℕ) → i < length M.moves → upto c o (at M.moves i) ≡ leb (order (at M.moves i)) (256 * c + o)
  upto_is i l =
      let m = at M.moves i in
      by_pairs is_le m.condition m.operation c o (leb (order m) (256 * c + o)) (λ h. sym (le-leb (order m) (256 * c + o) (omega arith))) (λ h. sym (le-leb (order m) (256 * c + o) (omega arith)))
      (λ h. sym (lt-leb (order m) (256 * c + o) h)) (small i l) few

  pub lower_parted : IsPartitionedBy (lower c o) M.moves
  lower_parted i j d h l s =
      let a = get_or_default M.moves j d no_move l in
      let b = get_or_default M.moves i d no_move (omega arith) in
      let u = ltb-true (order (at M.moves j)) (256 * c + o) (sym (lower_is j l) ∙ sym (ap (lower c o) a) ∙ s) in
      let k = ordered i j h l in
      ap (lower c o) b ∙ lower_is i (omega arith) ∙ lt-ltb (order (at M.moves i)) (256 * c + o) (omega arith)

  pub upto_parted : IsPartitionedBy (upto c o) M.moves
  upto_parted i j d h l s =
      let a = get_or_default M.moves j d no_move l in
      let b = get_or_default M.moves i d no_move (omega arith) in
      let u = leb-true (order (at M.moves j)) (256 * c + o) (sym (upto_is j l) ∙ sym (ap (upto c o) a) ∙ s) in
      let k = ordered i j h l in
      ap (upto c o) b ∙ upto_is i (omega arith) ∙ le-leb (order (at M.moves i)) (256 * c + o) (omega arith)

  pub spans : (a b : ℕ) → a ≤ length M.moves → b ≤ length M.moves → IsPartitionPoint (λ m. lower c o m ≡ true) (λ m. lower c o m ≡ false) M.moves a →
      IsPartitionPoint (λ m. upto c o m ≡ true) (λ m. upto c o m ≡ false) M.moves b → Span M.moves c o a b
  spans a b s t p q = record { rise = rise; inside = t; all = together M.moves c o a b rise t before within after }
    where
      below : (i : ℕ) → i < a → order (at M.moves i) < 256 * c + o
      below i h = ltb-true (order (at M.moves i)) (256 * c + o) (sym (lower_is i (omega arith)) ∙ p.0 i no_move (omega arith) h)

      not_below : (i : ℕ) → a ≤ i → i < length M.moves → 256 * c + o ≤ order (at M.moves i)
      not_below i h l = ltb-false (order (at M.moves i)) (256 * c + o) (sym (lower_is i l) ∙ p.1 i no_move h l)

      not_above : (i : ℕ) → i < b → order (at M.moves i) ≤ 256 * c + o
      not_above i h = leb-true (order (at M.moves i)) (256 * c + o) (sym (upto_is i (omega arith)) ∙ q.0 i no_move (omega arith) h)

      above : (i : ℕ) → b ≤ i → i < length M.moves → 256 * c + o < order (at M.moves i)
      above i h l = leb-false (order (at M.moves i)) (256 * c + o) (sym (upto_is i l) ∙ q.1 i no_move h l)

      rise : a ≤ b
      rise = ⊎_elim (λ h. let x = below b h in let y = above b (omega arith) (omega arith) in absurd (omega arith)) (λ h. h) (cases_lt b a)

      other : (i : ℕ) → (order (at M.moves i) ≡ 256 * c + o → ⊥) → fits c o (at M.moves i) ≡ false
      other i h = is_false (fits c o (at M.moves i)) (λ f. let u = fits_parts c o (at M.moves i) f in h (omega (arith, u.0, u.1)))

      before : (i : ℕ) → i < a → fits c o (at M.moves i) ≡ false
      before i h = other i (λ e. let x = below i h in omega arith)

      within : (i : ℕ) → a ≤ i → i < b → fits c o (at M.moves i) ≡ true
      within i h l =
          let x = not_below i h (omega arith) in
          let y = not_above i l in
          let z = small i (omega arith) in
          fits_true c o (at M.moves i) (omega arith) (omega arith)

      after : (i : ℕ) → b ≤ i → i < length M.moves → fits c o (at M.moves i) ≡ false
      after i h l = other i (λ e. let x = above i h l in omega arith)

-- as two searches of a port's moves tell it
pub span_of : (p : Port) (c o a b : ℕ) (xs ys : List Move) → o < 256 → xs ≡ vec_items p.moves → ys ≡ vec_items p.moves → a ≤ length xs → b ≤ length ys →
    (IsPartitionedBy (lower c o) xs → IsPartitionPoint (λ m. lower c o m ≡ true) (λ m. lower c o m ≡ false) xs a) →
    (IsPartitionedBy (upto c o) ys → IsPartitionPoint (λ m. upto c o m ≡ true) (λ m. upto c o m ≡ false) ys b) → Span (vec_items p.moves) c o a b
span_of p c o a b xs ys few e f l h first second =
    let M = model_of p in
    let v = port_valid p in
    spans M v c o few a b (subst (λ (zs : List Move). a ≤ length zs) e l) (subst (λ (zs : List Move). b ≤ length zs) f h)
    (subst (λ (zs : List Move). IsPartitionPoint (λ m. lower c o m ≡ true) (λ m. lower c o m ≡ false) zs a) e
    (first (subst (λ (zs : List Move). IsPartitionedBy (lower c o) zs) (sym e) (lower_parted M v c o few))))
    (subst (λ (zs : List Move). IsPartitionPoint (λ m. upto c o m ≡ true) (λ m. upto c o m ≡ false) zs b) f
    (second (subst (λ (zs : List Move). IsPartitionedBy (upto c o) zs) (sym f) (upto_parted M v c o few))))

-- an operation is possible where it has outcomes
pub possible_some : (ms : List Move) (c o : ℕ) → possible ms c o ≡ not (eqb (length (outcomes ms c o)) 0)
possible_some [] c o = refl
possible_some (m ∷ ms) c o = go (fits c o m) (possible_some ms c o)
  where
    go : (b : Bool) → possible ms c o ≡ not (eqb (length (outcomes ms c o)) 0) →
        (b || possible ms c o) ≡ not (eqb (length (cond b (m.outcome ∷ outcomes ms c o) (outcomes ms c o))) 0)
    go true e = sym (ap not (ne_eqb (suc (length (outcomes ms c o))) 0 (λ q. omega arith)))
    go false e = e

-- ── which they are ──

in_cond : (b : Bool) (a d : ℕ) (ds : List ℕ) → In d ds → In d (cond b (a ∷ ds) ds)
in_cond true a d ds i = inr i
in_cond false a d ds i = i

pub outcome_in : (ms : List Move) (c o : ℕ) (m : Move) → In m ms → m.condition ≡ c → m.operation ≡ o → In m.outcome (outcomes ms c o)
outcome_in [] c o m i p q = absurd i
outcome_in (x ∷ xs) c o m (inl e) p q =
    let h : fits c o x ≡ true = subst (λ (y : Move). fits c o y ≡ true) e (fits_true c o m p q) in
    subst (λ (ds : List ℕ). In m.outcome ds) (sym (cond-true (fits c o x) (x.outcome ∷ outcomes xs c o) (outcomes xs c o) h))
    (inl (ap (λ (y : Move). y.outcome) e))
outcome_in (x ∷ xs) c o m (inr i) p q = in_cond (fits c o x) x.outcome m.outcome (outcomes xs c o) (outcome_in xs c o m i p q)

pub outcome_of : (ms : List Move) (c o d : ℕ) → In d (outcomes ms c o) → (m : Move) × Can ms c o m × (m.outcome ≡ d)
outcome_of [] c o d i = absurd i
outcome_of (x ∷ xs) c o d i = go (cases_Bool (fits c o x)) (outcome_of xs c o d)
  where
    further : (m : Move) × Can xs c o m × (m.outcome ≡ d) → (m : Move) × Can (x ∷ xs) c o m × (m.outcome ≡ d)
    further t = (t.0, (inr t.1.0, t.1.1, t.1.2), t.2)

    here : fits c o x ≡ true → In d (x.outcome ∷ outcomes xs c o) → (In d (outcomes xs c o) → (m : Move) × Can xs c o m × (m.outcome ≡ d)) →
        (m : Move) × Can (x ∷ xs) c o m × (m.outcome ≡ d)
    here h (inl e) below = let q = fits_parts c o x h in (x, (inl refl, q.0, q.1), sym e)
    here h (inr j) below = further (below j)

    go : (fits c o x ≡ true) ⊎ (fits c o x ≡ false) → (In d (outcomes xs c o) → (m : Move) × Can xs c o m × (m.outcome ≡ d)) →
        (m : Move) × Can (x ∷ xs) c o m × (m.outcome ≡ d)
    go (inl h) below = here h (subst (λ (ds : List ℕ). In d ds) (cond-true (fits c o x) (x.outcome ∷ outcomes xs c o) (outcomes xs c o) h) i) below
    go (inr h) below = further (below (subst (λ (ds : List ℕ). In d ds) (cond-false (fits c o x) (x.outcome ∷ outcomes xs c o) (outcomes xs c o) h) i))

-- each is a condition of the port
pub outcome_inside : (M : Model) (c o d : ℕ) → Valid M → In d (outcomes M.moves c o) → d < length M.conditions
outcome_inside M c o d v i =
    let t = outcome_of M.moves c o d i in
    let inside = at_all (λ (m : Move). m.outcome < length M.conditions) M.moves no_move (λ k l. (v.moves_exist k l).2) t.0 t.1.0 in
    omega (arith, inside, t.2)

-- ── their order ──

rise_more : (x : ℕ) (xs : List ℕ) → ((d : ℕ) → In d xs → x < d) → Rise xs → Rise (x ∷ xs)
rise_more x xs h r i zero l m = absurd (omega arith)
rise_more x xs h r zero (suc j) l m = h (get_or xs j 0) (in_at xs j 0 (omega arith))
rise_more x xs h r (suc i) (suc j) l m = r i j (omega arith) (omega arith)

pub outcomes_rise : (ms : List Move) (c o : ℕ) → MovesRise ms → Rise (outcomes ms c o)
outcomes_rise [] c o r = λ i j l h. absurd (omega arith)
outcomes_rise (m ∷ ms) c o r = go (cases_Bool (fits c o m)) (outcomes_rise ms c o (λ i j l h. r (suc i) (suc j) (omega arith) (omega arith)))
  where
    above : (a : Move) → In a ms → key m < key a
    above = at_all (λ (a : Move). key m < key a) ms no_move (λ i l. r 0 (suc i) (omega arith) (omega arith))

    lower : fits c o m ≡ true → (d : ℕ) → In d (outcomes ms c o) → m.outcome < d
    lower h d i =
        let t = outcome_of ms c o d i in
        let k = above t.0 t.1.0 in
        let q = fits_parts c o m h in
        omega (arith, k, q.0, q.1, t.1.1, t.1.2, t.2)

    go : (fits c o m ≡ true) ⊎ (fits c o m ≡ false) → Rise (outcomes ms c o) → Rise (cond (fits c o m) (m.outcome ∷ outcomes ms c o) (outcomes ms c o))
    go (inl h) below =
        subst (λ (ds : List ℕ). Rise ds) (sym (cond-true (fits c o m) (m.outcome ∷ outcomes ms c o) (outcomes ms c o) h))
        (rise_more m.outcome (outcomes ms c o) (lower h) below)
    go (inr h) below =
        subst (λ (ds : List ℕ). Rise ds) (sym (cond-false (fits c o m) (m.outcome ∷ outcomes ms c o) (outcomes ms c o) h)) below

pub in_order : (M : Model) (c o : ℕ) → Valid M → InOrder M c o
in_order M c o v = record {
  rise = outcomes_rise M.moves c o v.moves_rise;
  all = every;
  only = outcome_of M.moves c o;
}
  where
    every : (d : ℕ) → Leads M c o d → In d (outcomes M.moves c o)
    every d t = subst (λ (x : ℕ). In x (outcomes M.moves c o)) t.2 (outcome_in M.moves c o t.0 t.1.0 t.1.1 t.1.2)

pub port_in_order : (p : Port) (c o : ℕ) → InOrder (model_of p) c o
port_in_order p c o = in_order (model_of p) c o (port_valid p)
