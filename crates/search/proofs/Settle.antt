-- Why conditions may become final in order of cost.
use Rattle.std.proofs.Common.{◌≡◌, ℕ, ◌+◌, ◌<◌, ◌≤◌, Bool, true, false, ◌⊎◌, List, ◌∷◌, Some, None, Option, sym, refl, ap, ◌∙◌, subst, inl, inr, ⊎_elim, arith}
use Rattle.std.proofs.lemmas.Bool.{cases_eq}
use Rattle.port.specs.Limits.{In, Limited}
use Rattle.port.specs.declared.Move.{Move}
use Rattle.plans.specs.Plans.{Within, Plan, stop, work, Can, Possible, IsRun, Attains}
use Rattle.costs.specs.Costs.{Model, WeakLaws, Sized, Le, cost, Reached}
use Rattle.search.specs.Answers.{Prices, BestToGoal}
use Rattle.search.specs.Labels.{After, Worst, Offered, AtLeast, Final}
use Rattle.costs.proofs.Order.{cost_sized}
pub use Rattle.tables.proofs.Options.{AllSized, none_some, some_inj}
use Rattle.search.proofs.Runs.{work_attains, stop_goal, after, works_kept, worst_after, worst_sized, find, costs_sized, work_costs, has_cost}

module _ {k : Model} (laws : WeakLaws k) (moves : List Move) (keep goal : ℕ → Bool) (n : ℕ) (within : Within n moves) where
  -- ── a table of final costs ──
  module _ (V : ℕ → Option (List ℕ)) (good : AllSized k V) where
    pub each_sized : (m : Move) (a : List ℕ) → After V m a → Sized k a
    each_sized m a e = good m.outcome a e

    -- of an operation's moves: none is there, or one leads out of the table, or one costs most
    pub look : (c o : ℕ) → Possible moves c o → ((m : Move) × Can moves c o m × (V m.outcome ≡ None)) ⊎ ((f : List ℕ) × Worst k (After V) (Can moves c o) f)
    look c o p =
        ⊎_elim
        (λ none. absurd (none p.0 p.1))
        (λ r. r)
        (find laws (After V) each_sized (λ m. V m.outcome ≡ None) c o moves (λ m can. split (V m.outcome) refl))
      where
        split : {d : ℕ} (v : Option (List ℕ)) → V d ≡ v → ((a : List ℕ) × (V d ≡ Some a)) ⊎ (V d ≡ None)
        split None e = inr e
        split (Some a) e = inl (a, e)

    module _ (prices : (c : ℕ) (f : List ℕ) → V c ≡ Some f → (p : Plan) × Prices k moves keep goal c f p) where
      -- the plans behind the costs
      pick : (c : ℕ) (v : Option (List ℕ)) → V c ≡ v → Plan
      pick c None e = stop
      pick c (Some a) e = (prices c a e).0

      pick_prices : (c : ℕ) (v : Option (List ℕ)) (e : V c ≡ v) (a : List ℕ) → v ≡ Some a → Prices k moves keep goal c a (pick c v e)
      unfolding pick
      pick_prices c None e a q = absurd (none_some q)
      pick_prices c (Some b) e a q = subst (λ x. Prices k moves keep goal c x (prices c b e).0) (some_inj q) (prices c b e).1

      pub next : ℕ → Plan
      next c = pick c (V c) refl

      next_prices : (c : ℕ) (a : List ℕ) → V c ≡ Some a → Prices k moves keep goal c a (next c)
      unfolding next
      next_prices c a e = pick_prices c (V c) refl a e

      -- an operation whose outcomes all have a cost begins a plan
      pub begins : (c o : ℕ) (f : List ℕ) → keep c ≡ true → Worst k (After V) (Can moves c o) f → Prices k moves keep goal c f (work o next)
      begins c o f kept w = (
        work_attains moves keep goal o next c kept (w.top.0, w.top.1) (λ m can. (next_prices m.outcome _ (w.each m can).1).0),
        work_costs laws moves keep goal c o next f (worst_after (λ m a can e. (next_prices m.outcome a e).1) w),
      )

    -- each plan by an operation whose outcomes all have a cost has a run of what that comes to
    pub at_worst : ((c : ℕ) (f : List ℕ) → V c ≡ Some f → AtLeast k moves keep goal c f) → (c o : ℕ) (after' : ℕ → Plan) (f : List ℕ) → Attains moves keep goal (work o after') c → Worst k (After V) (Can moves c o) f → (ms : List Move) × IsRun moves (work o after') c ms × Le k f (cost k ms)
    at_worst least c o after' f a w =
        let t = w.top in
        let m = t.0 in
        let r = least m.outcome t.2.0 t.2.1 (after' m.outcome) (after moves keep goal o after' c a m t.1) in (
          m ∷ r.0,
          (t.1, r.1),
          subst (λ x. Le k x (k.join m (cost k r.0))) t.2.2 (laws.keeps m _ _ (good _ _ t.2.1) (cost_sized laws r.0) r.2),
        )

    -- ── no plan from the other conditions is below the least offer ──
    module _ (goals : (c : ℕ) → c < n → goal c ≡ true → V c ≡ Some k.zero) (U : ℕ → Option (List ℕ)) (offered : (c : ℕ) → c < n → Offered k moves keep V c (U c)) where
      -- an operation at c whose outcomes all have a cost is on offer
      on_offer : (c o : ℕ) (g : List ℕ) → c < n → V c ≡ None → keep c ≡ true → Worst k (After V) (Can moves c o) g → (f : List ℕ) × (U c ≡ Some f) × Le k f g
      on_offer c o g l e kept w = go (U c) refl (offered c l)
        where
          go : (u : Option (List ℕ)) → U c ≡ u → Offered k moves keep V c u → (f : List ℕ) × (U c ≡ Some f) × Le k f g
          go None q h = absurd (h e kept o g w)
          go (Some f) q h = (f, q, h.2.1 o g w)

      pub bound : ((c : ℕ) (f : List ℕ) → V c ≡ Some f → AtLeast k moves keep goal c f) → (f : List ℕ) → Sized k f → AllSized k U → ((c : ℕ) (g : List ℕ) → c < n → U c ≡ Some g → Le k f g) → (p : Plan) (c : ℕ) → c < n → V c ≡ None → Attains moves keep goal p c → (ms : List Move) × IsRun moves p c ms × Le k f (cost k ms)
      bound least f s su low stop c l e a = absurd (none_some (sym e ∙ goals c l (stop_goal moves keep goal c a)))
      bound least f s su low (work o after') c l e a =
          ⊎_elim
          (λ b.
          let m = b.0 in
          let r = bound least f s su low (after' m.outcome) m.outcome (within m b.1.0).1 b.2 (after moves keep goal o after' c a m b.1) in
          let cs = cost_sized laws r.0 in
          (m ∷ r.0, (b.1, r.1), laws.chain f _ _ s cs (laws.join_sized m _ cs) r.2 (laws.rises m _ cs)))
          (λ w.
          let u = on_offer c o w.0 l e (works_kept moves keep goal o after' c a) w.1 in
          let r = at_worst least c o after' w.0 a w.1 in
          let ws = worst_sized laws (After V) each_sized w.0 w.1 in
          let cs = cost_sized laws r.0 in
          (r.0, r.1, laws.chain f u.0 _ s (su c _ u.1) cs (low c u.0 l u.1) (laws.chain u.0 w.0 _ (su c _ u.1) ws cs u.2 r.2)))
          (look c o a.0.0)

      pub no_plan : ((c : ℕ) → c < n → U c ≡ None) → (p : Plan) (c : ℕ) → c < n → V c ≡ None → Attains moves keep goal p c → ⊥
      no_plan none stop c l e a = none_some (sym e ∙ goals c l (stop_goal moves keep goal c a))
      no_plan none (work o after') c l e a =
          ⊎_elim
          (λ b. let m = b.0 in no_plan none (after' m.outcome) m.outcome (within m b.1.0).1 b.2 (after moves keep goal o after' c a m b.1))
          (λ w. let u = on_offer c o w.0 l e (works_kept moves keep goal o after' c a) w.1 in none_some (sym (none c l) ∙ u.1))
          (look c o a.0.0)

    -- ── a complete table ──
    module _ (final : Final k moves keep goal n V) (closed : (p : Plan) (c : ℕ) → c < n → V c ≡ None → Attains moves keep goal p c → ⊥) where
      -- an operation that begins a plan as cheap as any comes to the table's cost
      pub comes_to : (c o : ℕ) (f : List ℕ) (after' : ℕ → Plan) → V c ≡ Some f → Prices k moves keep goal c f (work o after') → Worst k (After V) (Can moves c o) f
      comes_to c o f after' e s =
          ⊎_elim
          (λ b. absurd (closed (after' b.0.outcome) b.0.outcome (within b.0 b.1.0).1 b.2 (after moves keep goal o after' c s.0 b.0 b.1)))
          same
          (look c o s.0.0.0)
        where
          same : (g : List ℕ) × Worst k (After V) (Can moves c o) g → Worst k (After V) (Can moves c o) f
          same (g, w) =
              let gs = worst_sized laws (After V) each_sized g w in
              let fs = good c f e in
              let t = begins final.prices c o g (works_kept moves keep goal o after' c s.0) w in
              let up = final.least c f e (work o (next final.prices)) t.0 in
              let down = at_worst final.least c o after' g s.0 w in
              let le : Le k f g = laws.chain f _ g fs (cost_sized laws up.0) gs up.2 (t.1.most up.0 up.1) in
              let ge : Le k g f = laws.chain g _ f gs (cost_sized laws down.0) fs down.2 (s.1.most down.0 down.1) in
              subst (Worst k (After V) (Can moves c o)) (laws.tie g f gs fs ge le) w

      pub best : (c o : ℕ) (f : List ℕ) → V c ≡ Some f → goal c ≡ false → Worst k (After V) (Can moves c o) f → ((p : ℕ) → Worst k (After V) (Can moves c p) f → o ≤ p) → BestToGoal k moves keep goal c o f
      best c o f e away w low = record {
        next = next final.prices;
        prices = begins final.prices c o f (final.by c f e away).0 w;
        least = λ p a.
            let g = has_cost laws moves keep goal p c a in
            let r = final.least c f e p a in
            (g.0, g.1, laws.chain f _ g.0 (good c f e) (cost_sized laws r.0) (costs_sized laws moves keep goal p c g.0 g.1) r.2 (g.1.most r.0 r.1));
        lowest = λ p after' s. low p (comes_to c p f after' e s);
      }

  -- ── one condition more ──
  module _ (V V' : ℕ → Option (List ℕ)) (d : ℕ) (f : List ℕ) (fresh : V d ≡ None) (here : V' d ≡ Some f) (there : (c : ℕ) → (c ≡ d → ⊥) → V' c ≡ V c) where
    pub extends : (c : ℕ) (a : List ℕ) → V c ≡ Some a → V' c ≡ Some a
    extends c a e = there c (λ q. none_some (sym fresh ∙ ap V (sym q) ∙ e)) ∙ e

    pub further : {P : Move → Type 0} {g : List ℕ} → Worst k (After V) P g → Worst k (After V') P g
    further = worst_after (λ m a p e. extends m.outcome a e)

    either : (c : ℕ) (a : List ℕ) → V' c ≡ Some a → ((c ≡ d) × (f ≡ a)) ⊎ (V c ≡ Some a)
    either c a e = ⊎_elim (λ q. inl (q, some_inj (sym here ∙ ap V' (sym q) ∙ e))) (λ q. inr (sym (there c q) ∙ e)) (cases_eq c d)

    pub settle : (good : AllSized k V) → Final k moves keep goal n V → (U : ℕ → Option (List ℕ)) → AllSized k U → ((c : ℕ) → c < n → Offered k moves keep V c (U c)) → d < n → U d ≡ Some f → ((c : ℕ) (g : List ℕ) → c < n → U c ≡ Some g → Le k f g) → Final k moves keep goal n V'
    settle good final U su offered l e low = record {
      goals = λ c m h. extends c _ (final.goals c m h);
      prices = λ c a q. ⊎_elim (λ x. subst (λ y. (p : Plan) × Prices k moves keep goal c y p) x.1 (subst (λ y. (p : Plan) × Prices k moves keep goal y f p) (sym x.0) served)) (final.prices c a) (either c a q);
      least = λ c a q. ⊎_elim (λ x. subst (AtLeast k moves keep goal c) x.1 (subst (λ y. AtLeast k moves keep goal y f) (sym x.0) bounded)) (final.least c a) (either c a q);
      by = λ c a q away. ⊎_elim
          (λ x. (ap keep x.0 ∙ offer.1, (offer.2.0.0, subst (λ y. Worst k (After V') (Can moves y offer.2.0.0) a) (sym x.0) (subst (Worst k (After V') (Can moves d offer.2.0.0)) x.1 (further offer.2.0.1)))))
          (λ y. let b = final.by c a y away in (b.0, (b.1.0, further b.1.1)))
          (either c a q);
    }
      where
        offer : Offered k moves keep V d (Some f)
        offer = subst (Offered k moves keep V d) e (offered d l)

        served : (p : Plan) × Prices k moves keep goal d f p
        served = (work offer.2.0.0 (next V good final.prices), begins V good final.prices d offer.2.0.0 f offer.1 offer.2.0.1)

        bounded : AtLeast k moves keep goal d f
        bounded p a = bound V good final.goals U offered final.least f (su d f e) su low p d l fresh a

    -- what is on offer by the new table is not below the new cost
    pub later : (good : AllSized k V) → ((c : ℕ) → c < n → goal c ≡ true → V c ≡ Some k.zero) → (U : ℕ → Option (List ℕ)) → AllSized k U → ((c : ℕ) → c < n → Offered k moves keep V c (U c)) → Sized k f → ((c : ℕ) (g : List ℕ) → c < n → U c ≡ Some g → Le k f g) → (c : ℕ) (g : List ℕ) → c < n → Offered k moves keep V' c (Some g) → Le k f g
    later good goals U su offered fs low c g l h = ⊎_elim by_new by_old (look V good c o (w.top.0, w.top.1))
      where
        o : ℕ
        o = h.2.0.0

        w : Worst k (After V') (Can moves c o) g
        w = h.2.0.1

        open_still : V c ≡ None
        open_still = sym (there c (λ q. none_some (sym h.0 ∙ ap V' q ∙ here))) ∙ h.0

        gs : Sized k g
        gs = worst_sized laws (After V') (λ m a q. ⊎_elim (λ x. subst (Sized k) x.1 fs) (good m.outcome a) (either m.outcome a q)) g w

        by_new : (m : Move) × Can moves c o m × (V m.outcome ≡ None) → Le k f g
        by_new (m, can, none) =
            let x = w.each m can in
            let same : f ≡ x.0 = ⊎_elim (λ y. y.1) (λ y. absurd (none_some (sym none ∙ y))) (either m.outcome x.0 x.1) in
            laws.chain f _ g fs (laws.join_sized m f fs) gs (laws.rises m f fs) (subst (λ a. Le k (k.join m a) g) (sym same) x.2)

        by_old : (b : List ℕ) × Worst k (After V) (Can moves c o) b → Le k f g
        by_old (b, v) =
            let u = on_offer V good goals U offered c o b l open_still h.1 v in
            let t = v.top in
            let x = w.each t.0 t.1 in
            let same : x.0 ≡ t.2.0 = some_inj (sym x.1 ∙ extends t.0.outcome t.2.0 t.2.1) in
            let up : Le k b g = subst (λ y. Le k y g) (ap (k.join t.0) same ∙ t.2.2) x.2 in
            let us = su c u.0 u.1 in
            let bs = worst_sized laws (After V) (each_sized V good) b v in
            laws.chain f u.0 g fs us gs (low c u.0 l u.1) (laws.chain u.0 b g us bs gs u.2 up)

    -- an offer stands where no move leads to the new condition
    pub stands : (c : ℕ) (x : Option (List ℕ)) → (c ≡ d → ⊥) → ((m : Move) → In m moves → m.condition ≡ c → m.outcome ≡ d → ⊥) → Offered k moves keep V c x → Offered k moves keep V' c x
    stands c x q away = go x
      where
        back : (o : ℕ) (g : List ℕ) → Worst k (After V') (Can moves c o) g → Worst k (After V) (Can moves c o) g
        back o g = worst_after (λ m a can e. sym (there m.outcome (away m can.0 can.1)) ∙ e)

        go : (y : Option (List ℕ)) → Offered k moves keep V c y → Offered k moves keep V' c y
        go None h = λ e kept o g w. h (sym (there c q) ∙ e) kept o g (back o g w)
        go (Some y) h = (there c q ∙ h.0, h.1, ((h.2.0.0, further h.2.0.1), λ o g w. h.2.1 o g (back o g w)))

    pub gone : Offered k moves keep V' d None
    gone e kept o g w = none_some (sym e ∙ here)

-- a move more
pub reached_more : {k : Model} (steps : ℕ) (m : Move) (a f : List ℕ) → Limited m → Reached k steps a → k.join m a ≡ f → Reached k (steps + 1) f
reached_more {k} steps m a f small r e =
    let s = r.short in
    record { moves = m ∷ r.moves; short = omega arith; small = (small, r.small); same = sym e ∙ ap (k.join m) r.same }

pub widen : {k : Model} {f : List ℕ} (i j : ℕ) → i ≤ j → Reached k i f → Reached k j f
widen i j l r = let s = r.short in record { moves = r.moves; short = omega arith; small = r.small; same = r.same }
