-- Plans from their parts, and that each plan has a cost.
use Rattle.std.proofs.Common.{◌≡◌, ℕ, Bool, true, ◌⊎◌, List, [], ◌∷◌, sym, refl, ap, ◌∙◌, subst, inl, inr, ⊎_elim}
use Rattle.std.proofs.lemmas.Bool.{cases_eq}
use Rattle.port.specs.Limits.{In}
use Rattle.port.specs.declared.Move.{Move}
use Rattle.plans.specs.Plans.{Plan, stop, work, Can, Possible, IsRun, end, Works, Attains}
use Rattle.costs.specs.Costs.{Model, WeakLaws, Sized, Le, cost}
use Rattle.search.specs.Answers.{Costs}
use Rattle.search.specs.Labels.{Worst}
use Rattle.costs.proofs.Order.{reflexive, cost_sized}

-- ── what plans attain ──

module _ (moves : List Move) (keep goal : ℕ → Bool) where
  -- An operation that keeps, is possible, and after which each outcome's plan attains the goal.
  pub work_attains : (o : ℕ) (next : ℕ → Plan) (c : ℕ) → keep c ≡ true → Possible moves c o → ((m : Move) → Can moves c o m → Attains moves keep goal (next m.outcome) m.outcome) → Attains moves keep goal (work o next) c
  work_attains o next c kept possible rest = ((possible, λ m can. (rest m can).0), runs)
    where
      runs : (ms : List Move) → IsRun moves (work o next) c ms → ((m : Move) → In m ms → keep m.condition ≡ true) × (goal (end c ms) ≡ true)
      runs [] r = absurd r
      runs (m ∷ ms) r = let t = (rest m r.0).1 ms r.1 in (λ a i. keeps a i t.0, t.1)
        where
          keeps : (a : Move) → (a ≡ m) ⊎ In a ms → ((b : Move) → In b ms → keep b.condition ≡ true) → keep a.condition ≡ true
          keeps a (inl e) k = ap (λ (b : Move). keep b.condition) e ∙ ap keep r.0.1 ∙ kept
          keeps a (inr i) k = k a i

  pub stop_attains : (c : ℕ) → goal c ≡ true → Attains moves keep goal stop c
  stop_attains c h = (tt, runs)
    where
      runs : (ms : List Move) → IsRun moves stop c ms → ((m : Move) → In m ms → keep m.condition ≡ true) × (goal (end c ms) ≡ true)
      runs [] r = (λ m i. absurd i, h)
      runs (m ∷ ms) r = absurd r

  pub stop_goal : (c : ℕ) → Attains moves keep goal stop c → goal c ≡ true
  stop_goal c a = (a.1 [] tt).1

  -- A plan that works has a run.
  has_run : (plan : Plan) (c : ℕ) → Works moves plan c → (ms : List Move) × IsRun moves plan c ms
  has_run stop c w = ([], tt)
  has_run (work o next) c w =
      let m = w.0.0 in
      let t = has_run (next m.outcome) m.outcome (w.1 m w.0.1) in
      (m ∷ t.0, (w.0.1, t.1))

  -- After a move that the plan may make, the rest of the plan attains the goal.
  pub after : (o : ℕ) (next : ℕ → Plan) (c : ℕ) → Attains moves keep goal (work o next) c → (m : Move) → Can moves c o m → Attains moves keep goal (next m.outcome) m.outcome
  after o next c a m can =
      (a.0.1 m can, λ ms r. let t = a.1 (m ∷ ms) (can, r) in (λ b i. t.0 b (inr i), t.1))

  pub works_kept : (o : ℕ) (next : ℕ → Plan) (c : ℕ) → Attains moves keep goal (work o next) c → keep c ≡ true
  works_kept o next c a =
      let m = a.0.0.0 in
      let can = a.0.0.1 in
      let t = has_run (next m.outcome) m.outcome (a.0.1 m can) in
      ap keep (sym can.1) ∙ (a.1 (m ∷ t.0) (can, t.1)).0 m (inl refl)

-- ── the greatest over the moves of an operation ──

pub worst_map : {k : Model} {W : Move → List ℕ → Type 0} {P Q : Move → Type 0} {f : List ℕ} → ((m : Move) → P m → Q m) → ((m : Move) → Q m → P m) → Worst k W P f → Worst k W Q f
worst_map to from w = record { each = λ m q. w.each m (from m q); top = (w.top.0, to w.top.0 w.top.1, w.top.2) }

-- another reading of what follows a move
pub worst_after : {k : Model} {W X : Move → List ℕ → Type 0} {P : Move → Type 0} {f : List ℕ} → ((m : Move) (a : List ℕ) → P m → W m a → X m a) → Worst k W P f → Worst k X P f
worst_after {k} {W} {X} {P} {f} h w = record {
  each = λ m p. let x = w.each m p in (x.0, h m x.0 p x.1, x.2);
  top = let t = w.top in (t.0, t.1, (t.2.0, h t.0 t.2.0 t.1 t.2.1, t.2.2));
}

module _ {k : Model} (laws : WeakLaws k) (W : Move → List ℕ → Type 0) where
  -- the first move, alone or with others
  pub worst_one : {P : Move → Type 0} (m : Move) (a : List ℕ) → P m → ((x : Move) → P x → x ≡ m) → W m a → Sized k a → Worst k W P (k.join m a)
  worst_one m a p only w s = record {
    each = λ x q. (a, subst (λ (y : Move). W y a) (sym (only x q)) w, subst (λ (y : Move). Le k (k.join y a) (k.join m a)) (sym (only x q)) (reflexive laws _ (laws.join_sized m a s)));
    top = (m, p, (a, w, refl));
  }

  pub worst_old : {P Q : Move → Type 0} (sized : (m : Move) (a : List ℕ) → W m a → Sized k a) (m : Move) (a g : List ℕ) → ((x : Move) → P x → Q x) → ((x : Move) → Q x → (x ≡ m) ⊎ P x) → W m a → Worst k W P g → Le k (k.join m a) g → Worst k W Q g
  worst_old sized m a g into split w v le = record {
    each = λ x q. ⊎_elim
        (λ e. (a, subst (λ (y : Move). W y a) (sym e) w, subst (λ (y : Move). Le k (k.join y a) g) (sym e) le))
        (λ p. v.each x p)
        (split x q);
    top = (v.top.0, into v.top.0 v.top.1, v.top.2);
  }

  pub worst_sized : {P : Move → Type 0} → ((m : Move) (a : List ℕ) → W m a → Sized k a) → (f : List ℕ) → Worst k W P f → Sized k f
  worst_sized sized f w = let t = w.top in subst (Sized k) t.2.2 (laws.join_sized t.0 t.2.0 (sized _ _ t.2.1))

  pub worst_new : {P Q : Move → Type 0} (sized : (m : Move) (a : List ℕ) → W m a → Sized k a) (m : Move) (a g : List ℕ) → Q m → ((x : Move) → Q x → (x ≡ m) ⊎ P x) → W m a → Worst k W P g → Le k g (k.join m a) → Worst k W Q (k.join m a)
  worst_new sized m a g q split w v le =
      let js = laws.join_sized m a (sized m a w) in
      record {
        each = λ x y. ⊎_elim
            (λ e. (a, subst (λ (z : Move). W z a) (sym e) w, subst (λ (z : Move). Le k (k.join z a) (k.join m a)) (sym e) (reflexive laws _ js)))
            (λ p. let h = v.each x p in (h.0, h.1, laws.chain _ g _ (laws.join_sized x _ (sized _ _ h.1)) (worst_sized sized g v) js h.2 le))
            (split x y);
        top = (m, q, (a, w, refl));
      }

  -- of the moves of `ms` by o from c: none is there, or one is bad, or one costs most
  abbrev pub Found : (Move → Type 0) → (Move → Type 0) → Type 0
  Found P N = ((m : Move) → P m → ⊥) ⊎ (((m : Move) × P m × N m) ⊎ ((f : List ℕ) × Worst k W P f))

  module _ (sized : (m : Move) (a : List ℕ) → W m a → Sized k a) (N : Move → Type 0) (c o : ℕ) where
    abbrev Here : List Move → Move → Type 0
    Here ms m = In m ms × (m.condition ≡ c) × (m.operation ≡ o)

    skip : (m : Move) (ms : List Move) → ((m.condition ≡ c) × (m.operation ≡ o) → ⊥) → Found (Here ms) N → Found (Here (m ∷ ms)) N
    skip m ms no-fit =
        ⊎_elim
        (λ none. inl (λ x h. ⊎_elim (λ e. not x e h) (λ i. none x (i, h.1, h.2)) h.0))
        (⊎_elim
        (λ b. inr (inl (b.0, into b.0 b.1, b.2)))
        (λ w. inr (inr (w.0, worst_map into back w.1))))
      where
        not : (x : Move) → x ≡ m → Here (m ∷ ms) x → ⊥
        not x e h = no-fit (subst (λ (y : Move). (y.condition ≡ c) × (y.operation ≡ o)) e (h.1, h.2))

        into : (x : Move) → Here ms x → Here (m ∷ ms) x
        into x h = (inr h.0, h.1, h.2)

        back : (x : Move) → Here (m ∷ ms) x → Here ms x
        back x h = ⊎_elim (λ e. absurd (not x e h)) (λ i. (i, h.1, h.2)) h.0

    join_in : (m : Move) (ms : List Move) → (m.condition ≡ c) × (m.operation ≡ o) → (a : List ℕ) → W m a → Found (Here ms) N → Found (Here (m ∷ ms)) N
    join_in m ms fit a w =
        ⊎_elim
        (λ none. inr (inr (k.join m a, worst_one m a here (λ x h. ⊎_elim (λ e. e) (λ i. absurd (none x (i, h.1, h.2))) h.0) w (sized m a w))))
        (⊎_elim
        (λ b. inr (inl (b.0, into b.0 b.1, b.2)))
        (λ v. inr (inr (⊎_elim
        (λ le. (v.0, worst_old sized m a v.0 into split w v.1 le))
        (λ le. (k.join m a, worst_new sized m a v.0 here split w v.1 le))
        (laws.total (k.join m a) v.0 (laws.join_sized m a (sized m a w)) (worst_sized sized v.0 v.1))))))
      where
        here : Here (m ∷ ms) m
        here = (inl refl, fit.0, fit.1)

        into : (x : Move) → Here ms x → Here (m ∷ ms) x
        into x h = (inr h.0, h.1, h.2)

        split : (x : Move) → Here (m ∷ ms) x → (x ≡ m) ⊎ Here ms x
        split x h = ⊎_elim inl (λ i. inr (i, h.1, h.2)) h.0

    pub find : (ms : List Move) → ((m : Move) → Here ms m → ((a : List ℕ) × W m a) ⊎ N m) → Found (Here ms) N
    find [] h = inl (λ m p. p.0)
    find (m ∷ ms) h =
        cases (find ms (λ x p. h x (inr p.0, p.1, p.2)))
      where
        fits : (m.condition ≡ c) × (m.operation ≡ o) → Found (Here ms) N → Found (Here (m ∷ ms)) N
        fits fit rest =
            ⊎_elim
            (λ w. join_in m ms fit w.0 w.1 rest)
            (λ b. inr (inl (m, (inl refl, fit.0, fit.1), b)))
            (h m (inl refl, fit.0, fit.1))

        cases : Found (Here ms) N → Found (Here (m ∷ ms)) N
        cases rest =
            ⊎_elim
            (λ p. ⊎_elim (λ q. fits (p, q) rest) (λ q. skip m ms (λ f. q f.1) rest) (cases_eq m.operation o))
            (λ p. skip m ms (λ f. p f.0) rest)
            (cases_eq m.condition c)

-- ── what plans cost ──

module _ {k : Model} (laws : WeakLaws k) (moves : List Move) (keep goal : ℕ → Bool) where
  pub costs_sized : (p : Plan) (c : ℕ) (f : List ℕ) → Costs k moves p c f → Sized k f
  costs_sized p c f w = subst (Sized k) w.some.2 (cost_sized laws w.some.0)

  -- what is left of a plan after a move costs a
  abbrev pub Rest : (ℕ → Plan) → Move → List ℕ → Type 0
  Rest next m a = Costs k moves (next m.outcome) m.outcome a

  pub stop_costs : (c : ℕ) → Costs k moves stop c k.zero
  stop_costs c = record { some = ([], tt, refl); most = go }
    where
      go : (ms : List Move) → IsRun moves stop c ms → Le k (cost k ms) k.zero
      go [] r = reflexive laws k.zero laws.zero_sized
      go (m ∷ ms) r = absurd r

  pub work_costs : (c o : ℕ) (next : ℕ → Plan) (f : List ℕ) → Worst k (Rest next) (Can moves c o) f → Costs k moves (work o next) c f
  work_costs c o next f w = record { some = some; most = most }
    where
      some : (ms : List Move) × IsRun moves (work o next) c ms × (cost k ms ≡ f)
      some =
          let t = w.top in
          let s = t.2.1.some in
          (t.0 ∷ s.0, (t.1, s.1), ap (k.join t.0) s.2 ∙ t.2.2)

      most : (ms : List Move) → IsRun moves (work o next) c ms → Le k (cost k ms) f
      most [] r = absurd r
      most (m ∷ ms) r =
          let x = w.each m r.0 in
          let s = costs_sized _ _ x.0 x.1 in
          laws.chain _ (k.join m x.0) f (laws.join_sized m _ (cost_sized laws ms)) (laws.join_sized m x.0 s)
          (worst_sized laws (Rest next) (λ m a. costs_sized _ _ a) f w)
          (laws.keeps m _ x.0 (cost_sized laws ms) s (x.1.most ms r.1)) x.2

  pub has_cost : (p : Plan) (c : ℕ) → Attains moves keep goal p c → (f : List ℕ) × Costs k moves p c f
  has_cost stop c a = (k.zero, stop_costs c)
  has_cost (work o next) c a = of (λ m can. has_cost (next m.outcome) m.outcome (after moves keep goal o next c a m can))
    where
      of : ((m : Move) → Can moves c o m → (f : List ℕ) × Rest next m f) → (f : List ℕ) × Costs k moves (work o next) c f
      of ih =
          ⊎_elim
          (λ none. absurd (none a.0.0.0 a.0.0.1))
          (⊎_elim (λ b. absurd b.2) (λ w. (w.0, work_costs c o next w.0 w.1)))
          (find laws (Rest next) (λ m a. costs_sized _ _ a) (λ m. ⊥) c o moves (λ m can. inl (ih m can)))
