-- That a table of answers is right: a test that is computed, and what it proves.
use Rattle.std.proofs.Common.{◌≡◌, ℕ, zero, suc, ◌<◌, ◌≤◌, Bool, true, false, not, ◌&&◌, ◌||◌, eqb, List, [], ◌∷◌, length, Some, None, Option, slice_index_or, sym, refl, ap, ap₂, ◌∙◌, subst, true≢false, arith, eqb-true, eq-eqb}
use mathlib.Core.Bool.{and-eq-true_iff, false≢true}
use Rattle.std.proofs.Math.Decide.{dec_lt}
use Rattle.port.specs.declared.Move.{Move}
use Rattle.plans.specs.Flags.{every}
use Rattle.plans.specs.Plans.{Plan, stop, work, Within, Can, IsRun, Attains}
use Rattle.plans.specs.Reach.{each}
use Rattle.plans.proofs.Attain.{stop_attains, after, works_kept}
use Rattle.plans.proofs.Decide.{each_in, implies}
use Rattle.plans.proofs.Flags.{every_at}
use Rattle.locks.specs.Places.{possible}
use Rattle.locks.proofs.Standing.{possible_there}
use Rattle.costs.specs.Costs.{Model, Laws, Sized, Le, cost}
use Rattle.costs.proofs.Order.{weaken, was_true, not_true, cost_sized}
use Rattle.search.specs.Answers.{Costs, Prices, BestToGoal, RightChoice}
use Rattle.search.specs.declared.Choice.{Choice}
use Rattle.search.specs.declared.Choice.TheVariants.{None as Nothing, There, Work}
use Rattle.search.proofs.Exact.{none_where, there_where}
use Rattle.search.proofs.Runs.{has_cost, costs_sized}
use Rattle.cases_search.proofs.Runs.{was_so, some_fits, some_fits_iff, prices_test, prices_decided}

no_value : {a : List ℕ} → ◌≡◌ {A = Option (List ℕ)} None (Some a) → ⊥
no_value q = let z : ◌≡◌ {A = ℕ} 0 1 = cc in omega arith

same_value : {a b : List ℕ} → ◌≡◌ {A = Option (List ℕ)} (Some a) (Some b) → a ≡ b
same_value {a} {b} q = let e : a ≡ b = cc in e

module _ (k : Model) (n : ℕ) (moves : List Move) (keep goal : ℕ → Bool) (answers : List (Choice (List ℕ))) where
  abbrev pub told : ℕ → Choice (List ℕ)
  told c = slice_index_or answers c Nothing

  -- the cost that an answer tells
  abbrev pub worth : Choice (List ℕ) → Option (List ℕ)
  worth Nothing = None
  worth There = Some k.zero
  worth (Work o f) = Some f

  abbrev pub value : ℕ → Option (List ℕ)
  value c = worth (told c)

  -- a cost has its columns and passes; where there is none, nothing follows
  abbrev passes : (List ℕ → Bool) → Option (List ℕ) → Bool
  passes p None = true
  passes p (Some a) = eqb (length a) k.columns && p a

  -- some move by the operation leads to where there is no plan, or to what makes it cost what passes
  abbrev pub heavy : (List ℕ → Bool) → ℕ → ℕ → Bool
  heavy p c o = some_fits moves c o (λ m. passes (λ a. p (k.join m a)) (value m.outcome))

  -- at a goal the cost is at most none
  abbrev starts : Option (List ℕ) → Bool
  starts None = false
  starts (Some f) = eqb (length f) k.columns && k.within f k.zero

  -- an operation comes to no less than the cost, and to nothing where there is none
  abbrev covers : Option (List ℕ) → ℕ → ℕ → Bool
  covers None c o = heavy (λ x. false) c o
  covers (Some f) c o = eqb (length f) k.columns && heavy (λ x. k.within f x) c o

  -- the plan that works as the answers say, for so many operations
  abbrev follow : Choice (List ℕ) → (ℕ → Plan) → Plan
  follow (Work o f) next = work o next
  follow There next = stop
  follow Nothing next = stop

  abbrev plan_by : ℕ → ℕ → Plan
  plan_by zero c = stop
  plan_by (suc i) c = follow (told c) (plan_by i)

  abbrev low_test : ℕ → Bool
  low_test c = (not (goal c) || starts (value c)) && each (λ (m : Move). not (eqb m.condition c && keep c) || covers (value c) c m.operation) moves

  abbrev right_test : ℕ → Choice (List ℕ) → Bool
  right_test c Nothing = true
  right_test c There = goal c
  right_test c (Work o f) =
      (not (goal c) && prices_test k moves keep goal c f (work o (plan_by n)))
      && every (λ p. not (possible moves c p) || heavy (λ x. not (k.within x f)) c p) o

  abbrev pub table_test : Bool
  table_test = every (λ c. low_test c && right_test c (told c)) n

  module _ (laws : Laws k) (within : Within n moves) (tested : table_test ≡ true) where
    low : (c : ℕ) → c < n → low_test c ≡ true
    low c l = ((and-eq-true_iff (low_test c) (right_test c (told c))).0 (every_at (λ c. low_test c && right_test c (told c)) n tested c l)).0

    right : (c : ℕ) → c < n → right_test c (told c) ≡ true
    right c l = ((and-eq-true_iff (low_test c) (right_test c (told c))).0 (every_at (λ c. low_test c && right_test c (told c)) n tested c l)).1

    -- some run of the plan costs at least what the answer tells
    abbrev pub Bound : Plan → ℕ → List ℕ → Type 0
    Bound p c a = (value c ≡ Some a) × Sized k a × ((ms : List Move) × IsRun moves p c ms × Le k a (cost k ms))

    at_goal : (x : Option (List ℕ)) → starts x ≡ true → (a : List ℕ) × ((x ≡ Some a) × Sized k a × Le k a k.zero)
    at_goal None e = absurd (false≢true e)
    at_goal (Some f) e =
        let h = (and-eq-true_iff (eqb (length f) k.columns) (k.within f k.zero)).0 e in
        (f, (refl, eqb-true (length f) k.columns h.0, was_true h.1))

    -- a heavy operation has a run that costs what passes, with the cost of what follows below it
    weighed : (p : List ℕ → Bool) (c o : ℕ) (next : ℕ → Plan) → heavy p c o ≡ true →
        ((m : Move) → Can moves c o m → (a : List ℕ) × Bound (next m.outcome) m.outcome a) →
        (m : Move) × Can moves c o m × ((a : List ℕ) × Bound (next m.outcome) m.outcome a × (p (k.join m a) ≡ true))
    weighed p c o next e below =
        let t = (some_fits_iff moves c o test).0 e in
        let b = below t.0 t.1 in
        (t.0, t.1, (b.0, b.1, ((and-eq-true_iff (eqb (length b.0) k.columns) (p (k.join t.0 b.0))).0 (subst (λ x. passes (λ a. p (k.join t.0 a)) x ≡ true) b.1.0 t.2)).1))
      where
        test : Move → Bool
        test m = passes (λ a. p (k.join m a)) (value m.outcome)

    covered : (x : Option (List ℕ)) (c o : ℕ) (next : ℕ → Plan) → covers x c o ≡ true →
        ((m : Move) → Can moves c o m → (a : List ℕ) × Bound (next m.outcome) m.outcome a) →
        (a : List ℕ) × ((x ≡ Some a) × Sized k a × ((ms : List Move) × IsRun moves (work o next) c ms × Le k a (cost k ms)))
    covered None c o next e below = absurd (false≢true (weighed (λ x. false) c o next e below).2.2)
    covered (Some f) c o next e below =
        let h = (and-eq-true_iff (eqb (length f) k.columns) (heavy (λ x. k.within f x) c o)).0 e in
        let sized : Sized k f = eqb-true (length f) k.columns h.0 in
        let t = weighed (λ x. k.within f x) c o next h.1 below in
        let m = t.0 in
        let a = t.2.0 in
        let b = t.2.1 in
        let ms = b.2.0 in
        let rest = cost_sized (weaken laws) ms in (
          f,
          (
            refl,
            sized,
            (
              m ∷ ms,
              (t.1, b.2.1),
              laws.chain f (k.join m a) (k.join m (cost k ms)) sized (laws.join_sized m a b.1) (laws.join_sized m (cost k ms) rest)
                  (was_true t.2.2) (laws.keeps m a (cost k ms) b.1 rest b.2.2),
            ),
          ),
        )

    pub bound : (p : Plan) (c : ℕ) → c < n → Attains moves keep goal p c → (a : List ℕ) × Bound p c a
    bound stop c l a =
        let h = at_goal (value c) ((implies (goal c) (starts (value c))).0 ((and-eq-true_iff (not (goal c) || starts (value c)) (each (test c) moves)).0 (low c l)).0 (a.1 [] tt).1) in
        (h.0, (h.1.0, h.1.1, ([], tt, h.1.2)))
      where
        test : ℕ → Move → Bool
        test c m = not (eqb m.condition c && keep c) || covers (value c) c m.operation
    bound (work o next) c l a =
        covered (value c) c o next (here a.0.0.0 a.0.0.1) (λ m can. bound (next m.outcome) m.outcome (within m can.0).1 (after moves keep goal o next c a m can))
      where
        test : Move → Bool
        test m = not (eqb m.condition c && keep c) || covers (value c) c m.operation

        here : (m : Move) → Can moves c o m → covers (value c) c o ≡ true
        here m can =
            subst (λ x. covers (value c) c x ≡ true) can.2
            ((implies (eqb m.condition c && keep c) (covers (value c) c m.operation)).0
            (each_in test moves ((and-eq-true_iff (not (goal c) || starts (value c)) (each test moves)).0 (low c l)).1 m can.0)
            ((and-eq-true_iff (eqb m.condition c) (keep c)).1 (eq-eqb m.condition c can.1, works_kept moves keep goal o next c a)))

    -- an operation that is heavier than f begins no plan of that price
    not_lower : (c p : ℕ) (next : ℕ → Plan) (f : List ℕ) → c < n → Sized k f → heavy (λ x. not (k.within x f)) c p ≡ true → Prices k moves keep goal c f (work p next) → ⊥
    not_lower c p next f l sized e pr =
        let t = weighed (λ x. not (k.within x f)) c p next e (λ m can. bound (next m.outcome) m.outcome (within m can.0).1 (after moves keep goal p next c pr.0 m can)) in
        let m = t.0 in
        let a = t.2.0 in
        let b = t.2.1 in
        let ms = b.2.0 in
        let rest = cost_sized (weaken laws) ms in
        let le =
        laws.chain (k.join m a) (k.join m (cost k ms)) f (laws.join_sized m a b.1) (laws.join_sized m (cost k ms) rest) sized
        (laws.keeps m a (cost k ms) b.1 rest b.2.2) (pr.1.most (m ∷ ms) (t.1, b.2.1)) in
        true≢false (sym (was_so (k.within (k.join m a) f) le) ∙ not_true (k.within (k.join m a) f) t.2.2)

    right_answer : (c : ℕ) → c < n → (x : Choice (List ℕ)) → told c ≡ x → right_test c x ≡ true → RightChoice k (λ a. a) moves keep goal c x
    right_answer c l Nothing q e = λ p a. no_value (sym (ap worth q) ∙ (bound p c l a).1.0)
    right_answer c l There q e = e
    right_answer c l (Work o f) q e = (not_true (goal c) g.0, record { next = plan_by n; prices = prices; least = least; lowest = lowest })
      where
        dear : ℕ → Bool
        dear p = not (possible moves c p) || heavy (λ x. not (k.within x f)) c p

        h : ((not (goal c) && prices_test k moves keep goal c f (work o (plan_by n))) ≡ true) × (every dear o ≡ true)
        h = (and-eq-true_iff (not (goal c) && prices_test k moves keep goal c f (work o (plan_by n))) (every dear o)).0 e

        g : (not (goal c) ≡ true) × (prices_test k moves keep goal c f (work o (plan_by n)) ≡ true)
        g = (and-eq-true_iff (not (goal c)) (prices_test k moves keep goal c f (work o (plan_by n)))).0 h.0

        prices : Prices k moves keep goal c f (work o (plan_by n))
        prices = (prices_decided k moves keep goal c f (work o (plan_by n))).0 g.1

        sized : Sized k f
        sized = costs_sized (weaken laws) moves keep goal (work o (plan_by n)) c f prices.1

        least : (p : Plan) → Attains moves keep goal p c → (x : List ℕ) × Costs k moves p c x × Le k f x
        least p a =
            let t = has_cost (weaken laws) moves keep goal p c a in
            let b = bound p c l a in
            let same : b.0 ≡ f = same_value (sym b.1.0 ∙ ap worth q) in
            let ms = b.1.2.0 in (
              t.0,
              t.1,
              laws.chain f (cost k ms) t.0 sized (cost_sized (weaken laws) ms) (costs_sized (weaken laws) moves keep goal p c t.0 t.1)
                  (subst (λ x. Le k x (cost k ms)) same b.1.2.2) (t.1.most ms b.1.2.1),
            )

        lowest : (p : ℕ) (next : ℕ → Plan) → Prices k moves keep goal c f (work p next) → o ≤ p
        lowest p next pr = elim (dec_lt p o) [
          | yes i ↦ absurd (not_lower c p next f l sized ((implies (possible moves c p) (heavy (λ x. not (k.within x f)) c p)).0 (every_at dear o h.1 p i) (possible_there moves c p pr.0.0.0)) pr)
          | no i ↦ omega arith
        ]

    pub told_right : (c : ℕ) → c < n → RightChoice k (λ a. a) moves keep goal c (told c)
    told_right c l = right_answer c l (told c) refl (right c l)

-- ── one answer alone ──

module _ (k : Model) (laws : Laws k) (moves : List Move) (keep goal : ℕ → Bool) (c : ℕ) where
  below : (o p : ℕ) (f g : List ℕ) → BestToGoal k moves keep goal c o f → BestToGoal k moves keep goal c p g → Le k f g
  below o p f g a b =
      let t = a.least (work p b.next) b.prices.0 in
      let s = t.1.some in
      let sized = λ (x : ℕ) (y : ℕ → Plan) (z : List ℕ) (w : Costs k moves (work x y) c z). costs_sized (weaken laws) moves keep goal (work x y) c z w in
      laws.chain f t.0 g (sized o a.next f a.prices.1) (sized p b.next t.0 t.1) (sized p b.next g b.prices.1) t.2
      (subst (λ x. Le k x g) s.2 (b.prices.1.most s.0 s.1))

  same_cost_of : (o p : ℕ) (f g : List ℕ) → BestToGoal k moves keep goal c o f → BestToGoal k moves keep goal c p g → f ≡ g
  same_cost_of o p f g a b =
      laws.tie f g (costs_sized (weaken laws) moves keep goal (work o a.next) c f a.prices.1) (costs_sized (weaken laws) moves keep goal (work p b.next) c g b.prices.1)
      (below o p f g a b) (below p o g f b a)

  one_best : (o p : ℕ) (f g : List ℕ) → BestToGoal k moves keep goal c o f → BestToGoal k moves keep goal c p g → Work o f ≡ Work p g
  one_best o p f g a b =
      let same = same_cost_of o p f g a b in
      let up : o ≤ p = a.lowest p b.next (subst (λ x. Prices k moves keep goal c x (work p b.next)) (sym same) b.prices) in
      let down : p ≤ o = b.lowest o a.next (subst (λ x. Prices k moves keep goal c x (work o a.next)) same a.prices) in
      let e : o ≡ p = omega arith in
      ap₂ Work e same

  pub one_answer : (x y : Choice (List ℕ)) → RightChoice k (λ a. a) moves keep goal c x → RightChoice k (λ a. a) moves keep goal c y → x ≡ y
  one_answer Nothing y a b = sym (none_where k (λ a. a) moves keep goal c y b a)
  one_answer There y a b = sym (there_where k (λ a. a) moves keep goal c y b a)
  one_answer (Work o f) Nothing a b = none_where k (λ a. a) moves keep goal c (Work o f) a b
  one_answer (Work o f) There a b = there_where k (λ a. a) moves keep goal c (Work o f) a b
  one_answer (Work o f) (Work p g) a b = one_best o p f g a.1 b.1

  -- at a goal nothing is best to begin with
  pub no_best : (o : ℕ) (f : List ℕ) → goal c ≡ true → BestToGoal k moves keep goal c o f → ⊥
  no_best o f e b = some_run b.prices.1.some.0 b.prices.1.some.1 b.prices.1.some.2 (free (b.least stop (stop_attains moves keep goal c e)))
    where
      free : ((g : List ℕ) × Costs k moves stop c g × Le k f g) → Le k f k.zero
      free t = ends t.1.some.0 t.1.some.1 t.1.some.2 t.2
        where
          ends : (ms : List Move) → IsRun moves stop c ms → cost k ms ≡ t.0 → Le k f t.0 → Le k f k.zero
          ends [] r q le = subst (Le k f) (sym q) le
          ends (m ∷ ms) r q le = absurd r

      some_run : (ms : List Move) → IsRun moves (work o b.next) c ms → cost k ms ≡ f → Le k f k.zero → ⊥
      some_run [] r q le = absurd r
      some_run (m ∷ ms) r q le =
          let sized = cost_sized (weaken laws) ms in
          laws.grows m (cost k ms) sized (laws.chain (k.join m (cost k ms)) k.zero (cost k ms) (laws.join_sized m (cost k ms) sized) laws.zero_sized sized
          (subst (λ x. Le k x k.zero) (sym q) le) (laws.least (cost k ms) sized))
