-- Tests that decide what is said of locks.
use Rattle.std.proofs.Common.{◌≡◌, ℕ, zero, suc, ◌%◌, ◌<◌, ◌≤◌, Bool, true, false, not, ◌&&◌, ◌||◌, eqb, ltb, leb, ◌⊎◌, ◌↔◌, List, length, get_or, is_some, Some, None, Option, sym, refl, subst, inl, inr, true≢false, arith, eq-eqb, eqb-true, ltb-true, lt-ltb, leb-true, le-leb}
use mathlib.Core.Bool.{and-eq-true_iff, false≢true}
use native.Mathlib.Decide.{dec_lt}
use Rattle.port.specs.Limits.{In, Rise}
use Rattle.port.specs.Model.{Model}
use Rattle.plans.specs.Flags.{every}
use Rattle.plans.specs.Plans.{Possible}
use Rattle.plans.specs.Reach.{any_of, each}
use Rattle.plans.proofs.Decide.{some_in, in_some, each_in, in_each, implies, or_cases, or_left, or_right}
use Rattle.plans.proofs.Flags.{every_at, at_every}
use Rattle.locks.specs.Places.{place_of, IsAt, Leads, possible}
use Rattle.locks.specs.Works.{TellsCondition, LockWorked, outcomes, InOrder, WorkedNth, change, Before, WorkedLeast}
use Rattle.locks.specs.Targets.{Goes, GoesNth, GoesLeast, Nearest}
use Rattle.locks.proofs.Outcomes.{outcome_in, outcome_of}
use Rattle.locks.proofs.Standing.{place_is, place_none, possible_means, possible_there, told}
use Rattle.cases_plans.proofs.Rows.{alike}
use Rattle.cases_plans.proofs.Tests.{both, equal, below}
use Rattle.cases_plans.proofs.Values.{alike_iff}

pub at_most : (a b : ℕ) → (leb a b ≡ true) ↔ (a ≤ b)
at_most a b = (leb-true a b, le-leb a b)

not_so : (b : Bool) → (not b ≡ true) ↔ (b ≡ true → ⊥)
not_so true = (λ e. absurd (false≢true e), λ h. absurd (h refl))
not_so false = (λ e t. false≢true t, λ h. refl)

-- some number below one passes
abbrev pub any_below : (ℕ → Bool) → ℕ → Bool
any_below p zero = false
any_below p (suc n) = any_below p n || p n

pub any_below_iff : (p : ℕ → Bool) (n : ℕ) → (any_below p n ≡ true) ↔ ((i : ℕ) × (i < n) × (p i ≡ true))
any_below_iff p zero = (λ e. absurd (false≢true e), λ t. let l = t.1 in absurd (omega arith))
any_below_iff p (suc n) = (
  λ e. down (any_below_iff p n).0 (or_cases (any_below p n) (p n) e),
  λ t. up (any_below_iff p n).1 t.0 t.1 t.2,
)
  where
    down : (any_below p n ≡ true → (i : ℕ) × (i < n) × (p i ≡ true)) → (any_below p n ≡ true) ⊎ (p n ≡ true) → (i : ℕ) × (i < suc n) × (p i ≡ true)
    down rest (inl e) = let t = rest e in (t.0, omega (arith, t.1), t.2)
    down rest (inr e) = (n, omega arith, e)

    up : ((i : ℕ) × (i < n) × (p i ≡ true) → any_below p n ≡ true) → (i : ℕ) → i < suc n → p i ≡ true → (any_below p n || p n) ≡ true
    up rest i l e = elim (dec_lt i n) [
      | yes h ↦ or_left (any_below p n) (p n) (rest (i, h, e))
      | no h ↦ let q : i ≡ n = omega arith in or_right (any_below p n) (p n) (subst (λ (x : ℕ). p x ≡ true) q e)
    ]

-- ── members ──

abbrev pub among : ℕ → List ℕ → Bool
among d ds = any_of (eqb d) ds

pub among_iff : (d : ℕ) (ds : List ℕ) → (among d ds ≡ true) ↔ In d ds
among_iff d ds = (
  λ e. let t = some_in (eqb d) ds e in subst (λ (x : ℕ). In x ds) (sym (eqb-true d t.0 t.2)) t.1,
  λ i. in_some (eqb d) d ds i (eq-eqb d d refl),
)

abbrev pub at_test : Model → ℕ → ℕ → Bool
at_test M c m = ltb c (length M.conditions) && eqb (get_or M.conditions c 0) m

pub at_decided : (M : Model) (c m : ℕ) → (at_test M c m ≡ true) ↔ IsAt M c m
at_decided M c m =
    both (ltb c (length M.conditions)) (eqb (get_or M.conditions c 0) m) (below c (length M.conditions)) (equal (get_or M.conditions c 0) m)

abbrev pub leads_test : Model → ℕ → ℕ → ℕ → Bool
leads_test M c o d = among d (outcomes M.moves c o)

pub leads_decided : (M : Model) (c o d : ℕ) → (leads_test M c o d ≡ true) ↔ Leads M c o d
leads_decided M c o d = (
  λ e. outcome_of M.moves c o d ((among_iff d (outcomes M.moves c o)).0 e),
  λ t. (among_iff d (outcomes M.moves c o)).1
      (subst (λ (x : ℕ). In x (outcomes M.moves c o)) t.2 (outcome_in M.moves c o t.0 t.1.0 t.1.1 t.1.2)),
)

-- ── order ──

abbrev pub rise_test : List ℕ → Bool
rise_test ds = every (λ j. every (λ i. ltb (get_or ds i 0) (get_or ds j 0)) j) (length ds)

rise_decided : (ds : List ℕ) → (rise_test ds ≡ true) ↔ Rise ds
rise_decided ds = (
  λ e i j l h. ltb-true (get_or ds i 0) (get_or ds j 0) (every_at (λ i. ltb (get_or ds i 0) (get_or ds j 0)) j (every_at row (length ds) e j h) i l),
  λ r. at_every row (length ds) (λ j h. at_every (λ i. ltb (get_or ds i 0) (get_or ds j 0)) j (λ i l. lt-ltb (get_or ds i 0) (get_or ds j 0) (r i j l h))),
)
  where
    row : ℕ → Bool
    row j = every (λ i. ltb (get_or ds i 0) (get_or ds j 0)) j

pub order_decided : (M : Model) (c o : ℕ) → (rise_test (outcomes M.moves c o) ≡ true) ↔ InOrder M c o
order_decided M c o = (
  λ e. record {
    rise = (rise_decided (outcomes M.moves c o)).0 e;
    all = λ d t. (among_iff d (outcomes M.moves c o)).0 ((leads_decided M c o d).1 t);
    only = λ d i. (leads_decided M c o d).0 ((among_iff d (outcomes M.moves c o)).1 i);
  },
  λ r. (rise_decided (outcomes M.moves c o)).1 r.rise,
)

-- ── what is told ──

abbrev pub told_test : Model → ℕ → Bool → Bool
told_test M m r = alike r (is_some (place_of M.conditions m))

pub told_decided : (M : Model) (m : ℕ) (r : Bool) → (told_test M m r ≡ true) ↔ TellsCondition M m r
told_decided M m r = (
  λ e. told M m r ((alike_iff r (is_some (place_of M.conditions m))).0 e),
  λ t. (alike_iff r (is_some (place_of M.conditions m))).1 (go (place_of M.conditions m) refl r t),
)
  where
    go : (p : Option ℕ) → place_of M.conditions m ≡ p → (r : Bool) → TellsCondition M m r → r ≡ is_some p
    go None q true t = let s = t.yes refl in absurd (place_none M.conditions m q s.0 s.1.0 s.1.1)
    go None q false t = refl
    go (Some c) q true t = refl
    go (Some c) q false t = absurd (t.not refl c (place_is M.conditions m c q))

-- ── where an operation leads ──

-- the marks are a condition's, and something passes there
abbrev from_test : Model → ℕ → (ℕ → Bool) → Bool
from_test M m p = any_below (λ c. at_test M c m && p c) (length M.conditions)

from_decided : (M : Model) (m : ℕ) (p : ℕ → Bool) → (from_test M m p ≡ true) ↔ ((c : ℕ) × (IsAt M c m × (p c ≡ true)))
from_decided M m p = (
  λ e.
      let t = (any_below_iff (λ c. at_test M c m && p c) (length M.conditions)).0 e in
      let h = (and-eq-true_iff (at_test M t.0 m) (p t.0)).0 t.2 in
      (t.0, ((at_decided M t.0 m).0 h.0, h.1)),
  λ t. (any_below_iff (λ c. at_test M c m && p c) (length M.conditions)).1
      (t.0, t.1.0.0, (and-eq-true_iff (at_test M t.0 m) (p t.0)).1 ((at_decided M t.0 m).1 t.1.0, t.1.1)),
)

-- an outcome has the marks m', and something passes there
abbrev to_test : Model → ℕ → ℕ → (ℕ → Bool) → ℕ → Bool
to_test M o m' p c = any_below (λ d. leads_test M c o d && (at_test M d m' && p d)) (length M.conditions)

to_decided : (M : Model) (o m' : ℕ) (p : ℕ → Bool) (c : ℕ) → (to_test M o m' p c ≡ true) ↔ ((d : ℕ) × (Leads M c o d × IsAt M d m' × (p d ≡ true)))
to_decided M o m' p c = (
  λ e.
      let t = (any_below_iff test (length M.conditions)).0 e in
      let h = (and-eq-true_iff (leads_test M c o t.0) (at_test M t.0 m' && p t.0)).0 t.2 in
      let i = (and-eq-true_iff (at_test M t.0 m') (p t.0)).0 h.1 in
      (t.0, ((leads_decided M c o t.0).0 h.0, (at_decided M t.0 m').0 i.0, i.1)),
  λ t. (any_below_iff test (length M.conditions)).1 (
    t.0,
    t.1.1.0,
    (and-eq-true_iff (leads_test M c o t.0) (at_test M t.0 m' && p t.0)).1 (
      (leads_decided M c o t.0).1 t.1.0,
      (and-eq-true_iff (at_test M t.0 m') (p t.0)).1 ((at_decided M t.0 m').1 t.1.1, t.1.2),
    ),
  ),
)
  where
    test : ℕ → Bool
    test d = leads_test M c o d && (at_test M d m' && p d)

-- to the marks of an outcome
abbrev pub reaches_test : Model → ℕ → ℕ → ℕ → Bool
reaches_test M m o m' = from_test M m (to_test M o m' (λ d. true))

pub reaches_decided : (M : Model) (m o m' : ℕ) → (reaches_test M m o m' ≡ true) ↔ ((c d : ℕ) × (IsAt M c m × Leads M c o d × IsAt M d m'))
reaches_decided M m o m' = (
  λ e.
      let t = (from_decided M m (to_test M o m' (λ d. true))).0 e in
      let u = (to_decided M o m' (λ d. true) t.0).0 t.1.1 in
      (t.0, u.0, (t.1.0, u.1.0, u.1.1)),
  λ t. (from_decided M m (to_test M o m' (λ d. true))).1
      (t.0, (t.2.0, (to_decided M o m' (λ d. true) t.0).1 (t.1, (t.2.1, t.2.2, refl)))),
)

-- to nowhere
abbrev pub stops_test : Model → ℕ → ℕ → Bool
stops_test M m o = not (from_test M m (λ c. possible M.moves c o))

pub stops_decided : (M : Model) (m o : ℕ) → (stops_test M m o ≡ true) ↔ ((c : ℕ) → IsAt M c m → Possible M.moves c o → ⊥)
stops_decided M m o = (
  λ e c a q. (not_so (from_test M m here)).0 e ((from_decided M m here).1 (c, (a, possible_there M.moves c o q))),
  λ h. (not_so (from_test M m here)).1 (λ e. let t = (from_decided M m here).0 e in h t.0 t.1.0 (possible_means M.moves t.0 o t.1.1)),
)
  where
    here : ℕ → Bool
    here c = possible M.moves c o

abbrev pub worked_test : Model → ℕ → ℕ → Bool → ℕ → Bool
worked_test M m o true m' = reaches_test M m o m'
worked_test M m o false m' = eqb m' m && stops_test M m o

pub worked_decided : (M : Model) (m o : ℕ) (accepted : Bool) (m' : ℕ) → (worked_test M m o accepted m' ≡ true) ↔ LockWorked M m o accepted m'
worked_decided M m o true m' = (
  λ e. record { accepts = λ q. (reaches_decided M m o m').0 e; refuses = λ q. absurd (true≢false q) },
  λ w. (reaches_decided M m o m').1 (w.accepts refl),
)
worked_decided M m o false m' = (
  λ e.
      let h = (both (eqb m' m) (stops_test M m o) (equal m' m) (stops_decided M m o)).0 e in
      record { accepts = λ q. absurd (false≢true q); refuses = λ q. h },
  λ w. (both (eqb m' m) (stops_test M m o) (equal m' m) (stops_decided M m o)).1 (w.refuses refl),
)

-- ── which outcome it is ──

abbrev nth : Model → ℕ → ℕ → ℕ → ℕ
nth M o byte c = get_or (outcomes M.moves c o) (byte % length (outcomes M.moves c o)) 0

abbrev pub nth_test : Model → ℕ → ℕ → ℕ → ℕ → Bool
nth_test M m o byte m' = from_test M m (λ c. at_test M (nth M o byte c) m')

pub nth_decided : (M : Model) (m o byte m' : ℕ) → (nth_test M m o byte m' ≡ true) ↔ WorkedNth M m o byte m'
nth_decided M m o byte m' = (
  λ e. let t = (from_decided M m there).0 e in (t.0, (t.1.0, (at_decided M (nth M o byte t.0) m').0 t.1.1)),
  λ t. (from_decided M m there).1 (t.0, (t.1.0, (at_decided M (nth M o byte t.0) m').1 t.1.1)),
)
  where
    there : ℕ → Bool
    there c = at_test M (nth M o byte c) m'

abbrev pub before_test : ℕ → ℕ → ℕ → ℕ → Bool
before_test x d y e = leb x y && (not (leb y x) || leb d e)

pub before_decided : (x d y e : ℕ) → (before_test x d y e ≡ true) ↔ Before x d y e
before_decided x d y e = both (leb x y) (not (leb y x) || leb d e) (at_most x y) (
  λ h l. leb-true d e ((implies (leb y x) (leb d e)).0 h (le-leb y x l)),
  λ h. (implies (leb y x) (leb d e)).1 (λ t. le-leb d e (h (leb-true y x t))),
)

-- each of some outcomes comes after one
abbrev pub first_test : (ℕ → ℕ) → List ℕ → ℕ → Bool
first_test changes ds d = each (λ e. before_test (changes d) d (changes e) e) ds

first_decided : (changes : ℕ → ℕ) (ds : List ℕ) (d : ℕ) → (first_test changes ds d ≡ true) ↔ ((e : ℕ) → In e ds → Before (changes d) d (changes e) e)
first_decided changes ds d = (
  λ h e i. (before_decided (changes d) d (changes e) e).0 (each_in test ds h e i),
  λ h. in_each test ds (λ e i. (before_decided (changes d) d (changes e) e).1 (h e i)),
)
  where
    test : ℕ → Bool
    test e = before_test (changes d) d (changes e) e

abbrev pub least_test : Model → ℕ → ℕ → ℕ → Bool
least_test M m o m' = from_test M m (λ c. to_test M o m' (first_test (change M c) (outcomes M.moves c o)) c)

pub least_decided : (M : Model) (m o m' : ℕ) → (least_test M m o m' ≡ true) ↔ WorkedLeast M m o m'
least_decided M m o m' = (
  λ e.
      let t = (from_decided M m there).0 e in
      let u = (to_decided M o m' (ahead t.0) t.0).0 t.1.1 in
      (t.0, u.0, (t.1.0, u.1.0, u.1.1, λ e l. (first_decided (change M t.0) (outcomes M.moves t.0 o) u.0).0 u.1.2 e (inside t.0 e l))),
  λ t. (from_decided M m there).1 (
    t.0,
    (
      t.2.0,
      (to_decided M o m' (ahead t.0) t.0).1
          (t.1, (t.2.1, t.2.2, (first_decided (change M t.0) (outcomes M.moves t.0 o) t.1).1 (λ e i. t.2.3 e (outcome_of M.moves t.0 o e i)))),
    ),
  ),
)
  where
    ahead : ℕ → ℕ → Bool
    ahead c = first_test (change M c) (outcomes M.moves c o)

    there : ℕ → Bool
    there c = to_test M o m' (ahead c) c

    inside : (c e : ℕ) → Leads M c o e → In e (outcomes M.moves c o)
    inside c e l = (among_iff e (outcomes M.moves c o)).0 ((leads_decided M c o e).1 l)

-- ── before the lock goes there ──

abbrev pub goes_test : Model → ℕ → ℕ → Option ℕ → Bool
goes_test M m o None = stops_test M m o
goes_test M m o (Some m') = reaches_test M m o m'

pub goes_decided : (M : Model) (m o : ℕ) (target : Option ℕ) → (goes_test M m o target ≡ true) ↔ Goes M m o target
goes_decided M m o None = stops_decided M m o
goes_decided M m o (Some m') = reaches_decided M m o m'

abbrev pub goes_nth_test : Model → ℕ → ℕ → ℕ → Option ℕ → Bool
goes_nth_test M m o byte None = true
goes_nth_test M m o byte (Some m') = nth_test M m o byte m'

pub goes_nth_decided : (M : Model) (m o byte : ℕ) (target : Option ℕ) → (goes_nth_test M m o byte target ≡ true) ↔ GoesNth M m o byte target
goes_nth_decided M m o byte None = (λ e. tt, λ u. refl)
goes_nth_decided M m o byte (Some m') = nth_decided M m o byte m'

abbrev pub goes_least_test : Model → ℕ → ℕ → Option ℕ → Bool
goes_least_test M m o None = true
goes_least_test M m o (Some m') = least_test M m o m'

pub goes_least_decided : (M : Model) (m o : ℕ) (target : Option ℕ) → (goes_least_test M m o target ≡ true) ↔ GoesLeast M m o target
goes_least_decided M m o None = (λ e. tt, λ u. refl)
goes_least_decided M m o (Some m') = least_decided M m o m'

abbrev pub nearest_test : (ℕ → ℕ) → List ℕ → Option ℕ → Bool
nearest_test changes ds None = each (λ e. false) ds
nearest_test changes ds (Some d) = among d ds && first_test changes ds d

pub nearest_decided : (changes : ℕ → ℕ) (ds : List ℕ) (target : Option ℕ) → (nearest_test changes ds target ≡ true) ↔ Nearest changes ds target
nearest_decided changes ds None = (
  λ h e i. false≢true (each_in (λ (e : ℕ). false) ds h e i),
  λ h. in_each (λ (e : ℕ). false) ds (λ e i. absurd (h e i)),
)
nearest_decided changes ds (Some d) = both (among d ds) (first_test changes ds d) (among_iff d ds) (first_decided changes ds d)
