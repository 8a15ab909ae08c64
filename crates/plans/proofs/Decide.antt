-- The tests that a program computes decide what they stand for.
use Rattle.std.proofs.Common.{◌≡◌, ℕ, zero, suc, ◌*◌, ◌<◌, ◌≤◌, Bool, true, false, not, ◌&&◌, ◌||◌, eqb, ◌⊎◌, ◌↔◌, List, [], ◌∷◌, sym, refl, ap, ◌∙◌, subst, inl, inr, eq-or-lt_of_le, arith, eq-eqb, eqb-true}
use mathlib.Core.Bool.{and-eq-true_iff, false≢true}
use Rattle.port.specs.Limits.{In}
use Rattle.port.specs.declared.Move.{Move}
use Rattle.plans.specs.Plans.{stop, Can, Within}
use Rattle.plans.specs.Simulation.{Domain, WellFormed, InRange, Holds, Serves, ServesRow, Kept}
use Rattle.plans.specs.Iterate.{Iterates}
use Rattle.plans.specs.Reach.{Attainable, Steps, Member, Closed, any_of, each, leads, steps, grown, attains, reached, aim, serves, left_after}
use Rattle.plans.specs.Flags.{bit}
use Rattle.plans.specs.Theorems.{ReachedAttains}
use Rattle.plans.proofs.Attain.{aim_meets, stop_attains, step_attains, closed_has}
use Rattle.plans.proofs.Serve.{serves_mono_in, row_le}
use Rattle.plans.proofs.Count.{same_or_less, sum, sum_most, bit_most, bit_shrinks}
use Rattle.plans.proofs.Shrink.{iteration_row, stable_kept, stable_soon}

-- ── tests on lists ──

pub or_cases : (a b : Bool) → (a || b) ≡ true → (a ≡ true) ⊎ (b ≡ true)
or_cases true b e = inl refl
or_cases false b e = inr e

pub or_left : (a b : Bool) → a ≡ true → (a || b) ≡ true
or_left true b e = refl
or_left false b e = absurd (false≢true e)

pub or_right : (a b : Bool) → b ≡ true → (a || b) ≡ true
or_right true b e = refl
or_right false b e = e

pub implies : (a b : Bool) → ((not a || b) ≡ true) ↔ (a ≡ true → b ≡ true)
implies true b = (λ e t. e, λ f. f refl)
implies false b = (λ e t. absurd (false≢true t), λ f. refl)

pub some_in : {A : Type 0} (p : A → Bool) (xs : List A) → any_of p xs ≡ true → (x : A) × In x xs × (p x ≡ true)
some_in p [] e = absurd (false≢true e)
some_in {A} p (x ∷ xs) e = go (or_cases (p x) (any_of p xs) e) (some_in p xs)
  where
    go : (p x ≡ true) ⊎ (any_of p xs ≡ true) → (any_of p xs ≡ true → (y : A) × In y xs × (p y ≡ true)) →
        (y : A) × ((y ≡ x) ⊎ In y xs) × (p y ≡ true)
    go (inl h) below = (x, inl refl, h)
    go (inr h) below = let t = below h in (t.0, inr t.1, t.2)

pub in_some : {A : Type 0} (p : A → Bool) (x : A) (xs : List A) → In x xs → p x ≡ true → any_of p xs ≡ true
in_some p x [] i e = absurd i
in_some p x (y ∷ ys) (inl q) e = or_left (p y) (any_of p ys) (ap p (sym q) ∙ e)
in_some p x (y ∷ ys) (inr i) e = or_right (p y) (any_of p ys) (in_some p x ys i e)

pub each_in : {A : Type 0} (p : A → Bool) (xs : List A) → each p xs ≡ true → (x : A) → In x xs → p x ≡ true
each_in p [] e x i = absurd i
each_in p (y ∷ ys) e x (inl q) = ap p q ∙ ((and-eq-true_iff (p y) (each p ys)).0 e).0
each_in p (y ∷ ys) e x (inr i) = each_in p ys ((and-eq-true_iff (p y) (each p ys)).0 e).1 x i

pub in_each : {A : Type 0} (p : A → Bool) (xs : List A) → ((x : A) → In x xs → p x ≡ true) → each p xs ≡ true
in_each p [] h = refl
in_each p (y ∷ ys) h = (and-eq-true_iff (p y) (each p ys)).1 (h y (inl refl), in_each p ys (λ x i. h x (inr i)))

-- ── the rule ──

pub leads_iff : (moves : List Move) (G : ℕ → Bool) (c o : ℕ) → (leads moves G c o ≡ true) ↔ ((m : Move) → Can moves c o m → Member G m.outcome)
leads_iff moves G c o = (
  λ e m can. (implies (test m) (G m.outcome)).0 (each_in into moves e m can.0)
      ((and-eq-true_iff (eqb m.condition c) (eqb m.operation o)).1 (eq-eqb m.condition c can.1, eq-eqb m.operation o can.2)),
  λ h. in_each into moves (λ m i. (implies (test m) (G m.outcome)).1 (λ t.
      let b = (and-eq-true_iff (eqb m.condition c) (eqb m.operation o)).0 t in
      h m (i, eqb-true m.condition c b.0, eqb-true m.operation o b.1))),
)
  where
    test : Move → Bool
    test m = eqb m.condition c && eqb m.operation o

    into : Move → Bool
    into m = not (test m) || G m.outcome

pub steps_iff : (moves : List Move) (keep G : ℕ → Bool) (c : ℕ) → (steps moves keep G c ≡ true) ↔ Steps moves keep (Member G) c
steps_iff moves keep G c = (
  λ e.
      let b = (and-eq-true_iff (keep c) (any_of test moves)).0 e in
      let t = some_in test moves b.1 in
      let m = t.0 in
      let d = (and-eq-true_iff (eqb m.condition c) (leads moves G c m.operation)).0 t.2 in
      (m.operation, b.0, (m, (t.1, eqb-true m.condition c d.0, refl)), (leads_iff moves G c m.operation).0 d.1),
  λ h.
      let m = h.2.0 in
      let can = h.2.1 in
      (and-eq-true_iff (keep c) (any_of test moves)).1 (
        h.1,
        in_some test m moves can.0
            ((and-eq-true_iff (eqb m.condition c) (leads moves G c m.operation)).1 (
              eq-eqb m.condition c can.1,
              (leads_iff moves G c m.operation).1 (λ a ca. h.3 a (ca.0, ca.1, ca.2 ∙ can.2)),
            )),
      ),
)
  where
    test : Move → Bool
    test m = eqb m.condition c && leads moves G c m.operation

-- ── what is reached ──

pub good_attains : (moves : List Move) (keep goal : ℕ → Bool) (k c : ℕ) → Member (grown moves keep goal k) c → Attainable moves keep goal c
good_attains moves keep goal zero c h = (stop, stop_attains moves keep goal c h)
good_attains moves keep goal (suc k) c h =
    go (or_cases (grown moves keep goal k c) (steps moves keep (grown moves keep goal k) c) h) (good_attains moves keep goal k)
  where
    go : (grown moves keep goal k c ≡ true) ⊎ (steps moves keep (grown moves keep goal k) c ≡ true) →
        ((x : ℕ) → Member (grown moves keep goal k) x → Attainable moves keep goal x) → Attainable moves keep goal c
    go (inl e) below = below c e
    go (inr e) below = step_attains moves keep goal (grown moves keep goal k) below c ((steps_iff moves keep (grown moves keep goal k) c).0 e)

grows : (moves : List Move) (keep goal : ℕ → Bool) (k c : ℕ) → Member (grown moves keep goal k) c → Member (grown moves keep goal (suc k)) c
grows moves keep goal k c h = or_left (grown moves keep goal k c) (steps moves keep (grown moves keep goal k) c) h

grows_to : (moves : List Move) (keep goal : ℕ → Bool) (k j c : ℕ) → k ≤ j → Member (grown moves keep goal k) c → Member (grown moves keep goal j) c
grows_to moves keep goal k zero c l h =
    let e : k ≡ 0 = omega arith in
    subst (λ (i : ℕ). Member (grown moves keep goal i) c) e h
grows_to moves keep goal k (suc j) c l h = go (eq-or-lt_of_le l) (λ m. grows_to moves keep goal k j c m h)
  where
    go : (k ≡ suc j) ⊎ (k < suc j) → (k ≤ j → Member (grown moves keep goal j) c) → Member (grown moves keep goal (suc j)) c
    go (inl e) below = subst (λ (i : ℕ). Member (grown moves keep goal i) c) e h
    go (inr m) below = grows moves keep goal j c (below (omega arith))

Still : ℕ → List Move → (ℕ → Bool) → (ℕ → Bool) → ℕ → Type 0
Still n moves keep goal k = (c : ℕ) → c < n → grown moves keep goal k c ≡ grown moves keep goal (suc k) c

size : ℕ → List Move → (ℕ → Bool) → (ℕ → Bool) → ℕ → ℕ
size n moves keep goal k = sum (λ c. bit (grown moves keep goal k c)) n

rises : (n : ℕ) (moves : List Move) (keep goal : ℕ → Bool) (k : ℕ) → Still n moves keep goal k ⊎ (size n moves keep goal k < size n moves keep goal (suc k))
unfolding Still size
rises n moves keep goal k =
    go (same_or_less (λ c. grown moves keep goal k c ≡ grown moves keep goal (suc k) c)
    (λ c. bit (grown moves keep goal k c)) (λ c. bit (grown moves keep goal (suc k) c)) n
    (λ c h. bit_shrinks (grown moves keep goal k c) (grown moves keep goal (suc k) c) (grows moves keep goal k c)))
  where
    go : (((c : ℕ) → c < n → grown moves keep goal k c ≡ grown moves keep goal (suc k) c) × (size n moves keep goal k ≡ size n moves keep goal (suc k)))
        ⊎ (size n moves keep goal k < size n moves keep goal (suc k)) →
        Still n moves keep goal k ⊎ (size n moves keep goal k < size n moves keep goal (suc k))
    go (inl a) = inl a.0
    go (inr l) = inr l

find : (n : ℕ) (moves : List Move) (keep goal : ℕ → Bool) (j : ℕ) → ((k : ℕ) × (k < j) × Still n moves keep goal k) ⊎ (j ≤ size n moves keep goal j)
find n moves keep goal zero = inr (omega arith)
find n moves keep goal (suc j) = go (find n moves keep goal j) (rises n moves keep goal j)
  where
    go : ((k : ℕ) × (k < j) × Still n moves keep goal k) ⊎ (j ≤ size n moves keep goal j) →
        Still n moves keep goal j ⊎ (size n moves keep goal j < size n moves keep goal (suc j)) →
        ((k : ℕ) × (k < suc j) × Still n moves keep goal k) ⊎ (suc j ≤ size n moves keep goal (suc j))
    go (inl f) l = inl (f.0, omega (arith, f.1), f.2)
    go (inr a) (inl st) = inl (j, omega arith, st)
    go (inr a) (inr l) = inr (omega arith)

still : (n : ℕ) (moves : List Move) (keep goal : ℕ → Bool) → (k : ℕ) × (k ≤ n) × Still n moves keep goal k
unfolding size
still n moves keep goal = go (find n moves keep goal (suc n))
  where
    go : ((k : ℕ) × (k < suc n) × Still n moves keep goal k) ⊎ (suc n ≤ size n moves keep goal (suc n)) →
        (k : ℕ) × (k ≤ n) × Still n moves keep goal k
    go (inl f) = (f.0, omega (arith, f.1), f.2)
    go (inr l) =
        absurd (omega (
          arith,
          sum_most (λ c. bit (grown moves keep goal (suc n) c)) 1 n
              (λ c. bit_most (grown moves keep goal (suc n) c)),
        ))

closed : (n : ℕ) (moves : List Move) (keep goal : ℕ → Bool) (k : ℕ) → Still n moves keep goal k → Closed n moves keep goal (grown moves keep goal k)
unfolding Still
closed n moves keep goal k st = record {
  goals = λ c h g. grows_to moves keep goal 0 k c (omega arith) g;
  steps = λ c h t. st c h ∙ or_right (grown moves keep goal k c) (steps moves keep (grown moves keep goal k) c) ((steps_iff moves keep (grown moves keep goal k) c).1 t);
}

pub attains_iff : (n : ℕ) (moves : List Move) → Within n moves → (keep goal : ℕ → Bool) (c : ℕ) → c < n →
    Member (attains n moves keep goal) c ↔ Attainable moves keep goal c
attains_iff n moves wf keep goal c h = (
  good_attains moves keep goal n c,
  λ a.
      let s = still n moves keep goal in
      grows_to moves keep goal s.0 n c s.1
      (closed_has n moves wf keep goal (grown moves keep goal s.0) (closed n moves keep goal s.0 s.2) c h a),
)

pub reached_attains : ReachedAttains
reached_attains D wf = attains_iff D.conditions D.moves wf.within

pub alike : (a b : Bool) → (a ≡ true → b ≡ true) → (b ≡ true → a ≡ true) → a ≡ b
alike true b f g = sym (f refl)
alike false true f g = g refl
alike false false f g = refl

-- ── what is served, and what is kept ──

pub serves_decided : (D : Domain) → WellFormed D → (R : ℕ → ℕ → Bool) (s c : ℕ) → c < D.conditions →
    Holds (serves D R) s c ↔ Serves D (Holds R) s c
serves_decided D wf R s c h = (
  λ e q i f. (aim_meets D q R c).0
      ((reached_attains D wf q.keep (aim R q) c h).0
      ((implies (eqb q.from s) (reached D q.keep (aim R q) c)).0 (each_in (λ q. not (eqb q.from s) || reached D q.keep (aim R q) c) D.tasks e q i) (eq-eqb q.from s f))),
  λ serve. in_each (λ q. not (eqb q.from s) || reached D q.keep (aim R q) c) D.tasks
      (λ q i. (implies (eqb q.from s) (reached D q.keep (aim R q) c)).1 (λ t.
      (reached_attains D wf q.keep (aim R q) c h).1 ((aim_meets D q R c).1 (serve q i (eqb-true q.from s t))))),
)

-- Sets that agree within the domain are served alike.
pub serves_same : (D : Domain) → WellFormed D → (R S : ℕ → ℕ → Bool) → ((s c : ℕ) → InRange D s c → R s c ≡ S s c) →
    (s c : ℕ) → c < D.conditions → serves D R s c ≡ serves D S s c
serves_same D wf R S same s c h =
    alike (serves D R s c) (serves D S s c)
    (λ e. (serves_decided D wf S s c h).1
    (serves_mono_in D wf (Holds R) (Holds S) (λ t d a b f. sym (same t d (a, b)) ∙ f) s c h ((serves_decided D wf R s c h).0 e)))
    (λ e. (serves_decided D wf R s c h).1
    (serves_mono_in D wf (Holds S) (Holds R) (λ t d a b f. same t d (a, b) ∙ f) s c h ((serves_decided D wf S s c h).0 e)))

pub left_iterates : (D : Domain) → WellFormed D → Iterates D (left_after D)
left_iterates D wf = record { start = λ s c r. refl; step = λ k s c r. serves_decided D wf (left_after D k) s c r.1 }

-- What serves as many requests in a row as there are pairs serves them for ever.
pub row_kept : (D : Domain) → WellFormed D → (s c : ℕ) → InRange D s c → ServesRow D (D.stages * D.conditions) s c → Kept D s c
row_kept D wf s c r b =
    let it = left_iterates D wf in
    let t = stable_soon D wf (left_after D) it in
    (stable_kept D wf (left_after D) it t.0 t.2 s c r).0
    ((iteration_row D wf (left_after D) it t.0 s c r).1 (row_le D t.0 (D.stages * D.conditions) s c t.1 b))
