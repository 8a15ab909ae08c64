-- Tests that decide what is said of moves, plans and runs.
use Rattle.std.proofs.Common.{◌≡◌, ℕ, ◌<◌, Bool, true, false, not, ◌&&◌, ◌||◌, eqb, ltb, ◌↔◌, List, [], ◌∷◌, sym, refl, ap, ◌∙◌, subst, eq-eqb, eqb-true, lt-ltb, ltb-true}
use mathlib.Core.Bool.{and-eq-true_iff, false≢true}
use Rattle.port.specs.Limits.{In}
use Rattle.port.specs.declared.Move.{Move}
use Rattle.plans.specs.Plans.{Plan, stop, work, Within, Can, Possible, IsRun, Works, Attains}
use Rattle.plans.specs.Reach.{any_of, each}
use Rattle.plans.proofs.Attain.{work_attains, stop_attains, after, works_kept}
use Rattle.plans.proofs.Decide.{some_in, in_some, each_in, in_each, implies}
use Rattle.locks.specs.Places.{fits, possible}
use Rattle.locks.proofs.Standing.{fits_true, fits_parts, possible_means, possible_there}

pub both : {P Q : Type 0} (a b : Bool) → (a ≡ true) ↔ P → (b ≡ true) ↔ Q → ((a && b) ≡ true) ↔ (P × Q)
both a b p q = (
  λ e. let h = (and-eq-true_iff a b).0 e in (p.0 h.0, q.0 h.1),
  λ t. (and-eq-true_iff a b).1 (p.1 t.0, q.1 t.1),
)

pub equal : (a b : ℕ) → (eqb a b ≡ true) ↔ (a ≡ b)
equal a b = (eqb-true a b, eq-eqb a b)

pub below : (a b : ℕ) → (ltb a b ≡ true) ↔ (a < b)
below a b = (ltb-true a b, lt-ltb a b)

-- ── moves ──

-- two moves are the same
abbrev pub same_move : Move → Move → Bool
same_move a b = eqb a.condition b.condition && (eqb a.operation b.operation && (eqb a.outcome b.outcome && eqb a.minutes b.minutes))

move_is : (a b : Move) → a.condition ≡ b.condition → a.operation ≡ b.operation → a.outcome ≡ b.outcome → a.minutes ≡ b.minutes → a ≡ b
move_is a b p q r s =
    ap (λ n. made n a.operation a.outcome a.minutes) p
    ∙ ap (λ n. made b.condition n a.outcome a.minutes) q
    ∙ ap (λ n. made b.condition b.operation n a.minutes) r
    ∙ ap (λ n. made b.condition b.operation b.outcome n) s
  where
    made : ℕ → ℕ → ℕ → ℕ → Move
    made condition operation outcome minutes = record { condition = condition; operation = operation; outcome = outcome; minutes = minutes }

pub same_moves : (a b : Move) → (same_move a b ≡ true) ↔ (a ≡ b)
same_moves a b = (
  λ e.
      let h = (and-eq-true_iff (eqb a.condition b.condition) (eqb a.operation b.operation && (eqb a.outcome b.outcome && eqb a.minutes b.minutes))).0 e in
      let i = (and-eq-true_iff (eqb a.operation b.operation) (eqb a.outcome b.outcome && eqb a.minutes b.minutes)).0 h.1 in
      let j = (and-eq-true_iff (eqb a.outcome b.outcome) (eqb a.minutes b.minutes)).0 i.1 in
      move_is a b (eqb-true a.condition b.condition h.0) (eqb-true a.operation b.operation i.0) (eqb-true a.outcome b.outcome j.0) (eqb-true a.minutes b.minutes j.1),
  λ q. subst (λ (x : Move). same_move a x ≡ true) q (itself a),
)
  where
    itself : (a : Move) → same_move a a ≡ true
    itself a =
        (and-eq-true_iff (eqb a.condition a.condition) (eqb a.operation a.operation && (eqb a.outcome a.outcome && eqb a.minutes a.minutes))).1 (
          eq-eqb a.condition a.condition refl,
          (and-eq-true_iff (eqb a.operation a.operation) (eqb a.outcome a.outcome && eqb a.minutes a.minutes)).1 (
            eq-eqb a.operation a.operation refl,
            (and-eq-true_iff (eqb a.outcome a.outcome) (eqb a.minutes a.minutes)).1 (eq-eqb a.outcome a.outcome refl, eq-eqb a.minutes a.minutes refl),
          ),
        )

-- a move is one of the list
abbrev pub listed : Move → List Move → Bool
listed m ms = any_of (same_move m) ms

pub listed_in : (m : Move) (ms : List Move) → (listed m ms ≡ true) ↔ In m ms
listed_in m ms = (
  λ e. let t = some_in (same_move m) ms e in subst (λ (x : Move). In x ms) (sym ((same_moves m t.0).0 t.2)) t.1,
  λ i. in_some (same_move m) m ms i ((same_moves m m).1 refl),
)

abbrev pub within_test : ℕ → List Move → Bool
within_test n ms = each (λ (m : Move). ltb m.condition n && ltb m.outcome n) ms

pub within_decided : (n : ℕ) (ms : List Move) → (within_test n ms ≡ true) ↔ Within n ms
within_decided n ms = (
  λ e m i. (one m).0 (each_in test ms e m i),
  λ w. in_each test ms (λ m i. (one m).1 (w m i)),
)
  where
    test : Move → Bool
    test m = ltb m.condition n && ltb m.outcome n

    one : (m : Move) → (test m ≡ true) ↔ ((m.condition < n) × (m.outcome < n))
    one m = both (ltb m.condition n) (ltb m.outcome n) (below m.condition n) (below m.outcome n)

abbrev pub can_test : List Move → ℕ → ℕ → Move → Bool
can_test moves c o m = listed m moves && fits c o m

pub can_decided : (moves : List Move) (c o : ℕ) (m : Move) → (can_test moves c o m ≡ true) ↔ Can moves c o m
can_decided moves c o m = (
  λ e.
      let h = (and-eq-true_iff (listed m moves) (fits c o m)).0 e in
      let f = fits_parts c o m h.1 in
      ((listed_in m moves).0 h.0, f.0, f.1),
  λ can. (and-eq-true_iff (listed m moves) (fits c o m)).1 ((listed_in m moves).1 can.0, fits_true c o m can.1 can.2),
)

pub possible_decided : (moves : List Move) (c o : ℕ) → (possible moves c o ≡ true) ↔ Possible moves c o
possible_decided moves c o = (possible_means moves c o, possible_there moves c o)

-- each move of the operation passes a test
abbrev pub all_fit : List Move → ℕ → ℕ → (Move → Bool) → Bool
all_fit moves c o p = each (λ (m : Move). not (fits c o m) || p m) moves

pub all_fit_iff : (moves : List Move) (c o : ℕ) (p : Move → Bool) → (all_fit moves c o p ≡ true) ↔ ((m : Move) → Can moves c o m → p m ≡ true)
all_fit_iff moves c o p = (
  λ e m can. (implies (fits c o m) (p m)).0 (each_in test moves e m can.0) (fits_true c o m can.1 can.2),
  λ h. in_each test moves (λ m i. (implies (fits c o m) (p m)).1 (λ t. let f = fits_parts c o m t in h m (i, f.0, f.1))),
)
  where
    test : Move → Bool
    test m = not (fits c o m) || p m

-- ── plans ──

abbrev pub run_test : List Move → Plan → ℕ → List Move → Bool
run_test moves stop c [] = true
run_test moves stop c (m ∷ ms) = false
run_test moves (work o next) c [] = false
run_test moves (work o next) c (m ∷ ms) = can_test moves c o m && run_test moves (next m.outcome) m.outcome ms

pub run_decided : (moves : List Move) (plan : Plan) (c : ℕ) (ms : List Move) → (run_test moves plan c ms ≡ true) ↔ IsRun moves plan c ms
run_decided moves stop c [] = (λ e. tt, λ r. refl)
run_decided moves stop c (m ∷ ms) = (λ e. absurd (false≢true e), λ r. absurd r)
run_decided moves (work o next) c [] = (λ e. absurd (false≢true e), λ r. absurd r)
run_decided moves (work o next) c (m ∷ ms) =
    both (can_test moves c o m) (run_test moves (next m.outcome) m.outcome ms) (can_decided moves c o m)
    (run_decided moves (next m.outcome) m.outcome ms)

abbrev pub works_test : List Move → Plan → ℕ → Bool
works_test moves stop c = true
works_test moves (work o next) c = possible moves c o && all_fit moves c o (λ m. works_test moves (next m.outcome) m.outcome)

pub works_decided : (moves : List Move) (plan : Plan) (c : ℕ) → (works_test moves plan c ≡ true) ↔ Works moves plan c
works_decided moves stop c = (λ e. tt, λ w. refl)
works_decided moves (work o next) c =
    both (possible moves c o) (all_fit moves c o rest) (possible_decided moves c o) (
      λ e m can. (works_decided moves (next m.outcome) m.outcome).0 ((all_fit_iff moves c o rest).0 e m can),
      λ w. (all_fit_iff moves c o rest).1 (λ m can. (works_decided moves (next m.outcome) m.outcome).1 (w m can)),
    )
  where
    rest : Move → Bool
    rest m = works_test moves (next m.outcome) m.outcome

abbrev pub attains_test : List Move → (ℕ → Bool) → (ℕ → Bool) → Plan → ℕ → Bool
attains_test moves keep goal stop c = goal c
attains_test moves keep goal (work o next) c =
    (keep c && possible moves c o) && all_fit moves c o (λ m. attains_test moves keep goal (next m.outcome) m.outcome)

pub attains_decided : (moves : List Move) (keep goal : ℕ → Bool) (plan : Plan) (c : ℕ) →
    (attains_test moves keep goal plan c ≡ true) ↔ Attains moves keep goal plan c
attains_decided moves keep goal stop c = (λ e. stop_attains moves keep goal c e, λ a. (a.1 [] tt).1)
attains_decided moves keep goal (work o next) c = (
  λ e.
      let h = (and-eq-true_iff (keep c && possible moves c o) (all_fit moves c o rest)).0 e in
      let k = (and-eq-true_iff (keep c) (possible moves c o)).0 h.0 in
      work_attains moves keep goal o next c k.0 ((possible_decided moves c o).0 k.1)
      (λ m can. (attains_decided moves keep goal (next m.outcome) m.outcome).0 ((all_fit_iff moves c o rest).0 h.1 m can)),
  λ a.
      (and-eq-true_iff (keep c && possible moves c o) (all_fit moves c o rest)).1 (
        (and-eq-true_iff (keep c) (possible moves c o)).1 (works_kept moves keep goal o next c a, (possible_decided moves c o).1 a.0.0),
        (all_fit_iff moves c o rest).1
            (λ m can. (attains_decided moves keep goal (next m.outcome) m.outcome).1 (after moves keep goal o next c a m can)),
      ),
)
  where
    rest : Move → Bool
    rest m = attains_test moves keep goal (next m.outcome) m.outcome
