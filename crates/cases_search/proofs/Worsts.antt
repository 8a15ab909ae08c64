-- Tests that decide what moves come to by the costs of a table.
use Rattle.std.proofs.Common.{◌≡◌, ℕ, Bool, true, false, cond, not, ◌&&◌, ◌||◌, ◌↔◌, List, [], ◌∷◌, Some, None, Option, sym, refl, ap, ◌∙◌, subst, ⊎_elim}
use mathlib.Core.Bool.{and-eq-true_iff, false≢true}
use Rattle.port.specs.Limits.{In}
use Rattle.port.specs.declared.Move.{Move}
use Rattle.plans.specs.Reach.{any_of, each}
use Rattle.plans.proofs.Decide.{some_in, in_some, each_in, in_each, implies, or_cases}
use Rattle.costs.specs.Costs.{Sized, Le}
use Rattle.costs.specs.Models.{minutes_model, minutes_laws}
use Rattle.tables.proofs.Options.{some_inj, none_some, AllSized}
use Rattle.search.specs.Labels.{After, Worst}
use Rattle.cases_search.proofs.Runs.{so_iff, same_cost, costs_tell}

-- a cost that is there and passes
abbrev there : (List ℕ → Bool) → Option (List ℕ) → Bool
there p None = false
there p (Some a) = p a

there_iff : {P : List ℕ → Type 0} (p : List ℕ → Bool) → ((a : List ℕ) → (p a ≡ true) ↔ P a) → (x : Option (List ℕ)) →
    (there p x ≡ true) ↔ ((a : List ℕ) × (x ≡ Some a) × P a)
there_iff p one None = (λ e. absurd (false≢true e), λ t. absurd (none_some t.1))
there_iff {P} p one (Some b) = (λ e. (b, refl, (one b).0 e), λ t. (one b).1 (subst P (sym (some_inj t.1)) t.2))

-- no cost is there that does not pass
abbrev pub only : (List ℕ → Bool) → Option (List ℕ) → Bool
only p None = true
only p (Some a) = p a

module _ (V : ℕ → Option (List ℕ)) (ms : List Move) where
  abbrev pub Of : (Move → Bool) → Move → Type 0
  Of p m = In m ms × (p m ≡ true)

  abbrev at_most : List ℕ → Move → Bool
  at_most f m = there (λ a. minutes_model.within (minutes_model.join m a) f) (V m.outcome)

  abbrev hits : List ℕ → Move → Bool
  hits f m = there (λ a. same_cost (minutes_model.join m a) f) (V m.outcome)

  abbrev pub worst_test : (Move → Bool) → List ℕ → Bool
  worst_test p f = each (λ m. not (p m) || at_most f m) ms && any_of (λ m. p m && hits f m) ms

  pub worst_decided : (p : Move → Bool) (f : List ℕ) → (worst_test p f ≡ true) ↔ Worst minutes_model (After V) (Of p) f
  worst_decided p f = (
    λ e.
        let h = (and-eq-true_iff (each below ms) (any_of tops ms)).0 e in
        let t = some_in tops ms h.1 in
        let u = (and-eq-true_iff (p t.0) (hits f t.0)).0 t.2 in
        record {
          each = λ m q. (least m).0 ((implies (p m) (at_most f m)).0 (each_in below ms h.0 m q.0) q.1);
          top = (t.0, (t.1, u.0), (hit t.0).0 u.1);
        },
    λ w. (and-eq-true_iff (each below ms) (any_of tops ms)).1 (
      in_each below ms (λ m i. (implies (p m) (at_most f m)).1 (λ q. (least m).1 (w.each m (i, q)))),
      in_some tops w.top.0 ms w.top.1.0 ((and-eq-true_iff (p w.top.0) (hits f w.top.0)).1 (w.top.1.1, (hit w.top.0).1 w.top.2)),
    ),
  )
    where
      below : Move → Bool
      below m = not (p m) || at_most f m

      tops : Move → Bool
      tops m = p m && hits f m

      least : (m : Move) → (at_most f m ≡ true) ↔ ((a : List ℕ) × (V m.outcome ≡ Some a) × Le minutes_model (minutes_model.join m a) f)
      least m = there_iff (λ a. minutes_model.within (minutes_model.join m a) f) (λ a. so_iff (minutes_model.within (minutes_model.join m a) f)) (V m.outcome)

      hit : (m : Move) → (hits f m ≡ true) ↔ ((a : List ℕ) × (V m.outcome ≡ Some a) × (minutes_model.join m a ≡ f))
      hit m = there_iff (λ a. same_cost (minutes_model.join m a) f) (λ a. costs_tell (minutes_model.join m a) f) (V m.outcome)

  -- ── the greatest, found among what the moves come to ──

  abbrev candidate : (Move → Bool) → Move → Option (List ℕ) → Option (List ℕ) → Option (List ℕ)
  candidate p m None rest = rest
  candidate p m (Some a) rest = cond (worst_test p (minutes_model.join m a)) (Some (minutes_model.join m a)) rest

  abbrev found_in : (Move → Bool) → List Move → Option (List ℕ)
  found_in p [] = None
  found_in p (m ∷ rest) = candidate p m (V m.outcome) (found_in p rest)

  abbrev pub found : (Move → Bool) → Option (List ℕ)
  found p = found_in p ms

  abbrev nothing : Option (List ℕ) → Bool
  nothing None = true
  nothing (Some a) = false

  -- what is found is right
  abbrev right_for : (Move → Bool) → Option (List ℕ) → Bool
  right_for p None = each (λ m. not (p m)) ms || any_of (λ m. p m && nothing (V m.outcome)) ms
  right_for p (Some f) = worst_test p f

  abbrev pub found_test : (Move → Bool) → Bool
  found_test p = right_for p (found p)

  module _ (sized : AllSized minutes_model V) where
    worst_size : (p : Move → Bool) (f : List ℕ) → Worst minutes_model (After V) (Of p) f → Sized minutes_model f
    worst_size p f w = let t = w.top in subst (Sized minutes_model) t.2.2 (minutes_laws.join_sized t.0 t.2.0 (sized t.0.outcome t.2.0 t.2.1))

    within_other : (p : Move → Bool) (f g : List ℕ) → Worst minutes_model (After V) (Of p) f → Worst minutes_model (After V) (Of p) g → Le minutes_model f g
    within_other p f g v w =
        let t = v.top in
        let x = w.each t.0 t.1 in
        let same : x.0 ≡ t.2.0 = some_inj (sym x.1 ∙ t.2.1) in
        subst (λ y. Le minutes_model y g) (ap (minutes_model.join t.0) same ∙ t.2.2) x.2

    pub one_worst : (p : Move → Bool) (f g : List ℕ) → Worst minutes_model (After V) (Of p) f → Worst minutes_model (After V) (Of p) g → f ≡ g
    one_worst p f g v w = minutes_laws.tie f g (worst_size p f v) (worst_size p g w) (within_other p f g v w) (within_other p g f w v)

    no_worst : (p : Move → Bool) (f : List ℕ) → right_for p None ≡ true → Worst minutes_model (After V) (Of p) f → ⊥
    no_worst p f e w = ⊎_elim empty bare (or_cases (each (λ m. not (p m)) ms) (any_of (λ m. p m && nothing (V m.outcome)) ms) e)
      where
        empty : each (λ m. not (p m)) ms ≡ true → ⊥
        empty h = false≢true (ap not (sym w.top.1.1) ∙ each_in (λ m. not (p m)) ms h w.top.0 w.top.1.0)

        bare : any_of (λ m. p m && nothing (V m.outcome)) ms ≡ true → ⊥
        bare h =
            let t = some_in (λ m. p m && nothing (V m.outcome)) ms h in
            let u = (and-eq-true_iff (p t.0) (nothing (V t.0.outcome))).0 t.2 in
            false≢true (sym (ap nothing (w.each t.0 (t.1, u.0)).1) ∙ u.1)

    -- all that the moves come to passes, where what is found does
    pub all_worst_iff : {P : List ℕ → Type 0} (p : Move → Bool) (t : List ℕ → Bool) → ((a : List ℕ) → (t a ≡ true) ↔ P a) → found_test p ≡ true →
        (only t (found p) ≡ true) ↔ ((g : List ℕ) → Worst minutes_model (After V) (Of p) g → P g)
    all_worst_iff {P} p t one e = go (found p) e
      where
        go : (x : Option (List ℕ)) → right_for p x ≡ true → (only t x ≡ true) ↔ ((g : List ℕ) → Worst minutes_model (After V) (Of p) g → P g)
        go None h = (λ q g w. absurd (no_worst p g h w), λ q. refl)
        go (Some f) h = (
          λ q g w. subst P (one_worst p f g ((worst_decided p f).0 h) w) ((one f).0 q),
          λ all. (one f).1 (all f ((worst_decided p f).0 h)),
        )

  -- ── what operations come to: q tells the moves of each, and r which operations are meant ──

  module _ (q : ℕ → Move → Bool) (named : (o : ℕ) (m : Move) → q o m ≡ true → m.operation ≡ o) where
    abbrev pub some_op_test : List ℕ → Bool
    some_op_test f = any_of (λ m. worst_test (q m.operation) f) ms

    pub some_op_iff : (f : List ℕ) → (some_op_test f ≡ true) ↔ ((o : ℕ) × Worst minutes_model (After V) (Of (q o)) f)
    some_op_iff f = (
      λ e. let t = some_in test ms e in (t.0.operation, (worst_decided (q t.0.operation) f).0 t.2),
      λ t.
          let top = t.1.top in
          in_some test top.0 ms top.1.0
          (subst (λ o. worst_test (q o) f ≡ true) (sym (named t.0 top.0 top.1.1)) ((worst_decided (q t.0) f).1 t.1)),
    )
      where
        test : Move → Bool
        test m = worst_test (q m.operation) f

    -- each operation that comes to f passes
    abbrev pub each_op_test : List ℕ → (ℕ → Bool) → Bool
    each_op_test f t = each (λ m. not (worst_test (q m.operation) f) || t m.operation) ms

    pub each_op_iff : {T : ℕ → Type 0} (f : List ℕ) (t : ℕ → Bool) → ((o : ℕ) → (t o ≡ true) ↔ T o) →
        (each_op_test f t ≡ true) ↔ ((o : ℕ) → Worst minutes_model (After V) (Of (q o)) f → T o)
    each_op_iff {T} f t one = (
      λ e o w.
          let top = w.top in
          let m = top.0 in
          let same = named o m top.1.1 in
          (one o).0 (subst (λ x. t x ≡ true) same
          ((implies (worst_test (q m.operation) f) (t m.operation)).0 (each_in test ms e m top.1.0)
          (subst (λ x. worst_test (q x) f ≡ true) (sym same) ((worst_decided (q o) f).1 w)))),
      λ h. in_each test ms (λ m i. (implies (worst_test (q m.operation) f) (t m.operation)).1
          (λ e. (one m.operation).1 (h m.operation ((worst_decided (q m.operation) f).0 e)))),
    )
      where
        test : Move → Bool
        test m = not (worst_test (q m.operation) f) || t m.operation

    abbrev pub all_found : Bool
    all_found = each (λ m. found_test (q m.operation)) ms

    -- what the operations meant come to passes
    abbrev pub ops_test : (ℕ → Bool) → (List ℕ → Bool) → Bool
    ops_test r t = each (λ m. not (r m.operation) || only t (found (q m.operation))) ms

    pub ops_iff : {P : List ℕ → Type 0} {R : ℕ → Type 0} → AllSized minutes_model V → (r : ℕ → Bool) (t : List ℕ → Bool) →
        ((o : ℕ) → (r o ≡ true) ↔ R o) → ((a : List ℕ) → (t a ≡ true) ↔ P a) → all_found ≡ true →
        (ops_test r t ≡ true) ↔ ((o : ℕ) (g : List ℕ) → R o → Worst minutes_model (After V) (Of (q o)) g → P g)
    ops_iff {P} {R} sized r t meant one all = (
      λ e o g ro w.
          let top = w.top in
          let m = top.0 in
          let same = named o m top.1.1 in
          (passing m top.1.0).0
          ((implies (r m.operation) (only t (found (q m.operation)))).0 (each_in test ms e m top.1.0) (subst (λ x. r x ≡ true) (sym same) ((meant o).1 ro)))
          g (subst (λ x. Worst minutes_model (After V) (Of (q x)) g) (sym same) w),
      λ h. in_each test ms (λ m i. (implies (r m.operation) (only t (found (q m.operation)))).1
          (λ e. (passing m i).1 (λ g w. h m.operation g ((meant m.operation).0 e) w))),
    )
      where
        test : Move → Bool
        test m = not (r m.operation) || only t (found (q m.operation))

        passing : (m : Move) → In m ms → (only t (found (q m.operation)) ≡ true) ↔ ((g : List ℕ) → Worst minutes_model (After V) (Of (q m.operation)) g → P g)
        passing m i = all_worst_iff sized (q m.operation) t one (each_in (λ m. found_test (q m.operation)) ms all m i)
