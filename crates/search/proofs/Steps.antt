-- The steps of the search keep what it knows.
use Rattle.std.proofs.Common.{◌≡◌, ℕ, suc, ◌+◌, ◌-◌, ◌<◌, ◌≤◌, Bool, true, false, cond, T, List, [], length, get_or, set, Some, None, Option, sym, refl, ap, ◌∙◌, subst, ⊎_elim, true≢false, arith, below_more}
use Rattle.std.proofs.lemmas.List.{get_or-set_same, get_or-set_other, length-set, get_or_past}
use Rattle.std.proofs.lemmas.Bool.{cases_eq, cases_lt}
use Rattle.port.specs.Limits.{In, Limited}
use Rattle.port.specs.declared.Move.{Move}
use Rattle.plans.specs.Plans.{Within, Can, Plan, stop, Attains}
use Rattle.index.specs.Indexes.{From, Apart}
use Rattle.costs.specs.Costs.{Model, WeakLaws, Sized, Le, Reached, cost}
use Rattle.search.specs.Groups.{Lowest}
use Rattle.costs.specs.Compare.{shown}
use Rattle.search.specs.Labels.{After, Worst, Cheapest, Offered, Final, By, Few, done}
use Rattle.tables.specs.Tables.{looked, LeastOf}
use Rattle.search.specs.Answers.{Costs, RightChoice}
use Rattle.search.specs.Steps.{start, Above, AllOffered, Early, SearchState, Settled, Picked}
use Rattle.search.specs.declared.Choice.{Choice}
use Rattle.search.specs.declared.Choice.TheVariants.{None as Nothing, There, Work}
use Rattle.tables.specs.declared.Label.{Label}
use Rattle.costs.proofs.Order.{reflexive, cost_sized}
use Rattle.search.proofs.Runs.{worst_map, stop_attains, stop_costs, has_cost}
use Rattle.tables.proofs.Options.{some_inj, none_some, looked_sized}
use Rattle.search.proofs.Settle.{settle, later, stands, gone, best, no_plan, reached_more, widen}
use Rattle.search.proofs.Tables.{unshown, done_more, done_some}
use Rattle.search.proofs.Few.{early_all, spare_all}

-- ── moves ──

module _ (k : Model) (V : ℕ → Option (List ℕ)) (moves : List Move) (c : ℕ) (ms : List Move) (from : From moves c ms) where
  into : (o : ℕ) (m : Move) → By ms o m → Can moves c o m
  into o m h = let r = from.are m h.0 in (r.0, r.1, h.1)

  back : (o : ℕ) (m : Move) → Can moves c o m → By ms o m
  back o m h = (from.all m h.0 h.1, h.2)

  pub cheapest_from : (x : Option (List ℕ)) → Cheapest k V (By ms) x → Cheapest k V (Can moves c) x
  cheapest_from None h = λ o g w. h o g (worst_map (back o) (into o) w)
  cheapest_from (Some f) h = ((h.0.0, worst_map (into h.0.0) (back h.0.0) h.0.1), λ o g w. h.1 o g (worst_map (back o) (into o) w))

  pub offered_from : (keep : ℕ → Bool) (x : Option (List ℕ)) → V c ≡ None → keep c ≡ true → Cheapest k V (By ms) x → Offered k moves keep V c x
  offered_from keep None e kept h = λ p q. cheapest_from None h
  offered_from keep (Some f) e kept h = (e, kept, cheapest_from (Some f) h)

  pub lowest_from : (f : List ℕ) (o : ℕ) → Lowest k V ms f (Some o) → Worst k (After V) (Can moves c o) f × ((p : ℕ) → Worst k (After V) (Can moves c p) f → o ≤ p)
  lowest_from f o h = (worst_map (into o) (back o) h.0, λ p w. h.1 p (worst_map (back p) (into p) w))

  pub none_from : (f : List ℕ) → Lowest k V ms f None → (p : ℕ) → Worst k (After V) (Can moves c p) f → ⊥
  none_from f h p w = h p (worst_map (back p) (into p) w)

-- ── tables ──

module _ {A : Type 0} (e : A → List ℕ) (t : List (Option A)) (d : ℕ) (x : Option A) where
  pub looked_same : d < length t → looked e (set t d x) d ≡ shown e x
  looked_same l = ap (shown e) (get_or-set_same t d x None l)

  pub looked_other : (c : ℕ) → (c ≡ d → ⊥) → looked e (set t d x) c ≡ looked e t c
  looked_other c q = ap (shown e) (get_or-set_other t d c x None q)

-- ── offers made anew, up to the condition i ──

module _ {A : Type 0} (k : Model) (e : A → List ℕ) (moves : List Move) (keep : ℕ → Bool) (n d : ℕ) (V : ℕ → Option (List ℕ)) where
  abbrev Rest : ℕ → List (Option A) → Type 0
  Rest i t = (c : ℕ) → i ≤ c → c < n → Apart moves c d → Offered k moves keep V c (looked e t c)

  pub renew_set : (t : List (Option A)) (i : ℕ) (x : Option A) → i < length t → AllOffered k moves keep i V (looked e t) → Rest i t → Offered k moves keep V i (shown e x) → AllOffered k moves keep (i + 1) V (looked e (set t i x)) × Rest (i + 1) (set t i x)
  renew_set t i x l below above here = (
    below_more (λ c. Offered k moves keep V c (looked e (set t i x) c)) i
        (λ c m. let ne : c ≡ i → ⊥ = λ q. omega arith in subst (Offered k moves keep V c) (sym (looked_other e t i x c ne)) (below c m))
        (subst (Offered k moves keep V i) (sym (looked_same e t i x l)) here),
    λ c m h apart. let ne : c ≡ i → ⊥ = λ q. omega arith in subst (Offered k moves keep V c) (sym (looked_other e t i x c ne)) (above c (omega arith) h apart),
  )

  pub renew_skip : (t : List (Option A)) (i : ℕ) → i < n → AllOffered k moves keep i V (looked e t) → Rest i t → Apart moves i d → AllOffered k moves keep (i + 1) V (looked e t) × Rest (i + 1) t
  renew_skip t i l below above apart = (
    below_more (λ c. Offered k moves keep V c (looked e t c)) i below (above i (omega arith) l apart),
    λ c m h a. above c (omega arith) h a,
  )

module _ {A : Type 0} {k : Model} (laws : WeakLaws k) (e : A → List ℕ) (sized : (a : A) → Sized k (e a)) where
  -- ── the state ──

  module _ (moves : List Move) (keep goal : ℕ → Bool) (n : ℕ) (within : Within n moves) (limited : (m : Move) → In m moves → Limited m) where
    started : (t : List (Option A)) → length t ≡ n → ((c : ℕ) → c < n → looked e t c ≡ start k goal c) → (c : ℕ) (f : List ℕ) → looked e t c ≡ Some f → (goal c ≡ true) × (k.zero ≡ f)
    started t l h c f q = ⊎_elim (λ m. go (goal c) refl (sym (h c m) ∙ q)) (λ m. let past : length t ≤ c = omega arith in absurd (none_some (sym (ap (shown e) (get_or_past t c None past)) ∙ q))) (cases_lt c n)
      where
        go : (b : Bool) → goal c ≡ b → cond b (Some k.zero) None ≡ Some f → (goal c ≡ true) × (k.zero ≡ f)
        go true g p = (g, some_inj p)
        go false g p = absurd (none_some p)

    pub final_start : (t : List (Option A)) → length t ≡ n → ((c : ℕ) → c < n → looked e t c ≡ start k goal c) → Final k moves keep goal n (looked e t)
    final_start t l h = record {
      goals = λ c m g. h c m ∙ ap (λ b. cond b (Some k.zero) None) g;
      prices = λ c f q. let s = started t l h c f q in (stop, (stop_attains moves keep goal c s.0, subst (λ x. Costs k moves stop c x) s.1 (stop_costs laws moves keep goal c)));
      least = λ c f q p a.
          let s = started t l h c f q in
          let g = has_cost laws moves keep goal p c a in
          let r = g.1.some in
          (r.0, r.1, subst (λ x. Le k x (cost k r.0)) s.1 (laws.least _ (cost_sized laws r.0)));
      by = λ c f q away. absurd (true≢false (sym (started t l h c f q).0 ∙ away));
    }

    pub few_start : (steps : ℕ) (t : List (Option A)) → length t ≡ n → ((c : ℕ) → c < n → looked e t c ≡ start k goal c) → Few k e steps t
    few_start steps t l h c a q = record { moves = []; short = omega arith; small = tt; same = sym (started t l h c (e a) (ap (shown e) q)).1 }

    pub above_start : (t u : List (Option A)) → length t ≡ n → ((c : ℕ) → c < n → looked e t c ≡ start k goal c) → Above k n (looked e t) (looked e u)
    above_start t u l h c d f g m p q = subst (λ x. Le k x g) (started t l h c f p).1 (laws.least g (looked_sized k e sized u d g q))

    module _ (costs offers : List (Option A)) (state : SearchState k e moves keep goal n costs offers) (b : Label A) (low : LeastOf k e offers (length offers) (Some b)) where
      pub d_within : b.condition < n
      d_within = subst (λ m. b.condition < m) state.offers_sized low.0

      offer : Offered k moves keep (looked e costs) b.condition (Some (e b.cost))
      offer = subst (Offered k moves keep (looked e costs) b.condition) low.1 (state.offered b.condition d_within)

      pub fresh : get_or costs b.condition None ≡ None
      fresh = go (get_or costs b.condition None) refl
        where
          go : (x : Option A) → get_or costs b.condition None ≡ x → x ≡ None
          go None q = refl
          go (Some a) q = absurd (none_some (sym offer.0 ∙ ap (shown e) q))

      inside : b.condition < length costs
      inside = subst (λ m. b.condition < m) (sym state.costs_sized) d_within

      pub done_next : done (set costs b.condition (Some b.cost)) ≡ suc (done costs)
      done_next = done_more costs b.condition b.cost inside fresh

      pub few_next : Few k e (done (set costs b.condition (Some b.cost)) - 1) (set costs b.condition (Some b.cost))
      few_next c a q = ⊎_elim at_d elsewhere (cases_eq c b.condition)
        where
          at_d : c ≡ b.condition → Reached k (done (set costs b.condition (Some b.cost)) - 1) (e a)
          at_d z =
              let same : e b.cost ≡ e a = some_inj (sym (looked_same e costs b.condition (Some b.cost) inside) ∙ ap (looked e (set costs b.condition (Some b.cost))) (sym z) ∙ ap (shown e) q) in
              let t = offer.2.0.1.top in
              let u = unshown e (get_or costs t.0.outcome None) t.2.0 t.2.1 in
              let r = state.few t.0.outcome u.0 u.1 in
              let some = done_some costs t.0.outcome u.0 u.1 in
              let more = done_next in
              widen (done costs - 1 + 1) _ (omega arith)
              (reached_more (done costs - 1) t.0 t.2.0 (e a) (limited t.0 t.1.0) (subst (Reached k (done costs - 1)) u.2 r) (t.2.2 ∙ same))

          elsewhere : (c ≡ b.condition → ⊥) → Reached k (done (set costs b.condition (Some b.cost)) - 1) (e a)
          elsewhere z =
              let more = done_next in
              widen (done costs - 1) _ (omega arith) (state.few c a (sym (get_or-set_other costs b.condition c (Some b.cost) None z) ∙ q))

      pub rest_next : (c : ℕ) → c < n → Apart moves c b.condition → Offered k moves keep (looked e (set costs b.condition (Some b.cost))) c (looked e (set offers b.condition None) c)
      rest_next c l apart = ⊎_elim here there (cases_eq c b.condition)
        where
          is : looked e (set costs b.condition (Some b.cost)) b.condition ≡ Some (e b.cost)
          is = looked_same e costs b.condition (Some b.cost) inside

          other : (c : ℕ) → (c ≡ b.condition → ⊥) → looked e (set costs b.condition (Some b.cost)) c ≡ looked e costs c
          other = looked_other e costs b.condition (Some b.cost)

          here : c ≡ b.condition → Offered k moves keep (looked e (set costs b.condition (Some b.cost))) c (looked e (set offers b.condition None) c)
          here z =
              subst (λ y. Offered k moves keep (looked e (set costs b.condition (Some b.cost))) y (looked e (set offers b.condition None) y)) (sym z)
              (subst (Offered k moves keep (looked e (set costs b.condition (Some b.cost))) b.condition) (sym (looked_same e offers b.condition None low.0))
              (gone laws moves keep goal n within (looked e costs) (looked e (set costs b.condition (Some b.cost))) b.condition (e b.cost) (ap (shown e) fresh) is other))

          there : (c ≡ b.condition → ⊥) → Offered k moves keep (looked e (set costs b.condition (Some b.cost))) c (looked e (set offers b.condition None) c)
          there z =
              subst (Offered k moves keep (looked e (set costs b.condition (Some b.cost))) c) (sym (looked_other e offers b.condition None c z))
              (stands laws moves keep goal n within (looked e costs) (looked e (set costs b.condition (Some b.cost))) b.condition (e b.cost) (ap (shown e) fresh) is other c (looked e offers c) z apart (state.offered c l))

      -- no cost is above the new one
      most_new : (c : ℕ) (f : List ℕ) → looked e (set costs b.condition (Some b.cost)) c ≡ Some f → Le k f (e b.cost)
      most_new c f q = ⊎_elim
          (λ z. subst (λ x. Le k x (e b.cost)) (some_inj (sym (looked_same e costs b.condition (Some b.cost) inside) ∙ ap (looked e (set costs b.condition (Some b.cost))) (sym z) ∙ q)) (reflexive laws (e b.cost) (sized b.cost)))
          (λ z. state.above c b.condition f (e b.cost) d_within (sym (looked_other e costs b.condition (Some b.cost) c z) ∙ q) low.1)
          (cases_eq c b.condition)

      pub early_next : Early k e (done (set costs b.condition (Some b.cost)) - 2) (set costs b.condition (Some b.cost))
      early_next d f p c a q w = ⊎_elim
          (λ z. absurd (subst T w (subst (Le k f) (newest z) (most_new d f p))))
          (λ z. let more = done_next in widen (done costs - 1) _ (omega arith) (state.few c a (sym (get_or-set_other costs b.condition c (Some b.cost) None z) ∙ q)))
          (cases_eq c b.condition)
        where
          newest : c ≡ b.condition → e b.cost ≡ e a
          newest z = some_inj (sym (looked_same e costs b.condition (Some b.cost) inside) ∙ ap (looked e (set costs b.condition (Some b.cost))) (sym z) ∙ ap (shown e) q)

      above_next : (u : List (Option A)) → AllOffered k moves keep n (looked e (set costs b.condition (Some b.cost))) (looked e u) → Above k n (looked e (set costs b.condition (Some b.cost))) (looked e u)
      above_next u off c d f g l p q =
          laws.chain f (e b.cost) g (looked_sized k e sized (set costs b.condition (Some b.cost)) c f p) (sized b.cost) (looked_sized k e sized u d g q) (most_new c f p)
          (later laws moves keep goal n within (looked e costs) (looked e (set costs b.condition (Some b.cost))) b.condition (e b.cost) (ap (shown e) fresh)
          (looked_same e costs b.condition (Some b.cost) inside) (looked_other e costs b.condition (Some b.cost))
          (looked_sized k e sized costs) state.final.goals (looked e offers) (looked_sized k e sized offers) state.offered (sized b.cost)
          (λ c g l p. low.2 c g (subst (λ m. c < m) (sym state.offers_sized) l) p)
          d g l (subst (Offered k moves keep (looked e (set costs b.condition (Some b.cost))) d) q (off d l)))

      pub final_next : Final k moves keep goal n (looked e (set costs b.condition (Some b.cost)))
      final_next =
          settle laws moves keep goal n within (looked e costs) (looked e (set costs b.condition (Some b.cost))) b.condition (e b.cost) (ap (shown e) fresh)
          (looked_same e costs b.condition (Some b.cost) inside) (looked_other e costs b.condition (Some b.cost))
          (looked_sized k e sized costs) state.final (looked e offers) (looked_sized k e sized offers) state.offered d_within low.1
          (λ c g l p. low.2 c g (subst (λ m. c < m) (sym state.offers_sized) l) p)

      pub state_next : (costs' offers' : List (Option A)) → costs' ≡ set costs b.condition (Some b.cost) → length offers' ≡ n → AllOffered k moves keep n (looked e costs') (looked e offers') → SearchState k e moves keep goal n costs' offers' × (done costs' ≡ suc (done costs))
      state_next costs' offers' q l off = (
        record {
          costs_sized = ap length q ∙ length-set costs b.condition (Some b.cost) ∙ state.costs_sized;
          offers_sized = l;
          final = subst (λ t. Final k moves keep goal n (looked e t)) (sym q) final_next;
          few = subst (λ t. Few k e (done t - 1) t) (sym q) few_next;
          above = subst (λ t. Above k n (looked e t) (looked e offers')) (sym q) (above_next offers' (subst (λ t. AllOffered k moves keep n (looked e t) (looked e offers')) q off));
          early = subst (λ t. Early k e (done t - 2) t) (sym q) early_next;
          offered = off;
        },
        ap done q ∙ done_next,
      )

    pub settled : n ≤ 256 → (costs offers : List (Option A)) → SearchState k e moves keep goal n costs offers → LeastOf k e offers (length offers) None → Settled k e moves keep goal n costs
    settled small costs offers state none = record {
      sized = state.costs_sized;
      final = state.final;
      early = early_all k e costs n small state.costs_sized state.early;
      spare = spare_all k e costs n small state.costs_sized state.few;
      closed = no_plan laws moves keep goal n within (looked e costs) (looked_sized k e sized costs) state.final.goals (looked e offers) state.offered (λ c l. none c (subst (λ m. c < m) (sym state.offers_sized) l));
    }

    -- what is chosen by costs that are settled is the answer
    pub answered : (costs : List (Option A)) → Settled k e moves keep goal n costs → (c : ℕ) → c < n → (x : Choice A) → Picked k e moves (looked e costs) goal c x → RightChoice k e moves keep goal c x
    answered costs s c l Nothing h = go (looked e costs c) refl
      where
        go : (v : Option (List ℕ)) → looked e costs c ≡ v → (p : Plan) → Attains moves keep goal p c → ⊥
        go None q = λ p a. s.closed p c l q a
        go (Some f) q = let b = s.final.by c f q h.0 in absurd (h.1 f q b.1.0 b.1.1)
    answered costs s c l There h = h
    answered costs s c l (Work o x) h =
        (h.0, best laws moves keep goal n within (looked e costs) (looked_sized k e sized costs) s.final s.closed c o (e x) h.1.0 h.0 h.1.1 h.1.2)
