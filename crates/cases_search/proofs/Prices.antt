-- What the cheapest plan from a condition costs, by a table of answers that is right.
use Rattle.std.proofs.Common.{◌≡◌, ℕ, ◌<◌, Bool, true, ◌↔◌, List, [], ◌∷◌, Some, None, Option, sym, refl, ap, ◌∙◌, subst}
use Rattle.port.specs.declared.Move.{Move}
use Rattle.plans.specs.Plans.{Plan, stop, work, Within, IsRun, Attains}
use Rattle.plans.proofs.Attain.{stop_attains}
use Rattle.costs.specs.Costs.{Model, Laws, Sized, Le, cost}
use Rattle.costs.proofs.Order.{weaken, reflexive, cost_sized}
use Rattle.search.specs.Answers.{Costs, Prices, RightChoice}
use Rattle.search.specs.Labels.{AtLeast}
use Rattle.search.specs.declared.Choice.{Choice}
use Rattle.search.specs.declared.Choice.TheVariants.{None as Nothing, There, Work}
use Rattle.search.proofs.Runs.{costs_sized}
use Rattle.tables.proofs.Options.{some_inj, none_some}
use Rattle.cases_plans.proofs.Values.{same_option, option_tells}
use Rattle.cases_search.proofs.Bounds.{bound, value, told, told_right, table_test, worth}
use Rattle.cases_search.proofs.Runs.{was_so, so_iff, same_cost, costs_tell}
use Rattle.cases_search.proofs.Steps.{only_iff}
use Rattle.cases_search.proofs.Worsts.{only}

module _ (k : Model) (laws : Laws k) (moves : List Move) (within : Within 4 moves) (keep goal : ℕ → Bool) (answers : List (Choice (List ℕ)))
    (tested : table_test k 4 moves keep goal answers ≡ true) (c : ℕ) (l : c < 4) where
  -- the least that a plan costs, or none
  abbrev pub price : Option (List ℕ)
  price = value k 4 moves keep goal answers c

  abbrev Says : Choice (List ℕ) → Type 0
  Says x = RightChoice k (λ a. a) moves keep goal c x

  says : Says (told k 4 moves keep goal answers c)
  says = told_right k 4 moves keep goal answers laws within tested c l

  abbrev pays : Choice (List ℕ) → Option (List ℕ)
  pays x = worth k 4 moves keep goal answers x

  abbrev Bounded : List ℕ → Type 0
  Bounded f = AtLeast k moves keep goal c f

  -- ── what each plan costs at least ──

  pub forth : (f : List ℕ) → Sized k f → only (λ a. k.within f a) price ≡ true → Bounded f
  forth f sized e p a =
      let b = bound k 4 moves keep goal answers laws within tested p c l a in
      let le = (only_iff (λ a. k.within f a) (λ a. so_iff (k.within f a)) price).0 e b.0 b.1.0 in
      let ms = b.1.2.0 in
      (ms, b.1.2.1, laws.chain f b.0 (cost k ms) sized b.1.1 (cost_sized (weaken laws) ms) le b.1.2.2)

  back_from : (f : List ℕ) → Sized k f → (x : Choice (List ℕ)) → Says x → Bounded f → only (λ a. k.within f a) (pays x) ≡ true
  back_from f sized Nothing a h = refl
  back_from f sized There a h = let t = h stop (stop_attains moves keep goal c a) in ends t.0 t.1 t.2
    where
      ends : (ms : List Move) → IsRun moves stop c ms → Le k f (cost k ms) → k.within f k.zero ≡ true
      ends [] r le = was_so (k.within f k.zero) le
      ends (m ∷ ms) r le = absurd r
  back_from f sized (Work o g) a h =
      let b = a.1 in
      let t = h (work o b.next) b.prices.0 in
      was_so (k.within f g) (laws.chain f (cost k t.0) g sized (cost_sized (weaken laws) t.0)
      (costs_sized (weaken laws) moves keep goal (work o b.next) c g b.prices.1) t.2 (b.prices.1.most t.0 t.1))

  pub back : (f : List ℕ) → Sized k f → Bounded f → only (λ a. k.within f a) price ≡ true
  back f sized h = back_from f sized (told k 4 moves keep goal answers c) says h

  -- ── the cost of a plan that each other plan comes to ──

  abbrev Priced : List ℕ → Type 0
  Priced f = (p : Plan) × Prices k moves keep goal c f p

  free : Costs k moves stop c k.zero
  free = record { some = ([], tt, refl); most = none }
    where
      none : (ms : List Move) → IsRun moves stop c ms → Le k (cost k ms) k.zero
      none [] r = reflexive (weaken laws) k.zero laws.zero_sized
      none (m ∷ ms) r = absurd r

  bounds : (f : List ℕ) → price ≡ Some f → Bounded f
  bounds f q p a =
      let b = bound k 4 moves keep goal answers laws within tested p c l a in
      let same : b.0 ≡ f = some_inj (sym b.1.0 ∙ q) in
      let ms = b.1.2.0 in
      (ms, b.1.2.1, subst (λ x. Le k x (cost k ms)) same b.1.2.2)

  has_plan : (f : List ℕ) (x : Choice (List ℕ)) → Says x → pays x ≡ Some f → Priced f
  has_plan f Nothing a q = absurd (none_some q)
  has_plan f There a q = (stop, (stop_attains moves keep goal c a, subst (Costs k moves stop c) (some_inj q) free))
  has_plan f (Work o g) a q = (work o a.1.next, subst (λ x. Prices k moves keep goal c x (work o a.1.next)) (some_inj q) a.1.prices)

  is_price : (f : List ℕ) → Priced f → Bounded f → price ≡ Some f
  is_price f t h =
      let p = t.0 in
      let b = bound k 4 moves keep goal answers laws within tested p c l t.1.0 in
      let ms = b.1.2.0 in
      let sized = costs_sized (weaken laws) moves keep goal p c f t.1.1 in
      let up = laws.chain b.0 (cost k ms) f b.1.1 (cost_sized (weaken laws) ms) sized b.1.2.2 (t.1.1.most ms b.1.2.1) in
      let down = (only_iff (λ a. k.within f a) (λ a. so_iff (k.within f a)) price).0 (back f sized h) b.0 b.1.0 in
      b.1.0 ∙ ap Some (laws.tie b.0 f b.1.1 sized up down)

  pub priced_iff : (f : List ℕ) → (same_option same_cost price (Some f) ≡ true) ↔ (Priced f × Bounded f)
  priced_iff f =
      let same = option_tells same_cost costs_tell price (Some f) in (
        λ e. (has_plan f (told k 4 moves keep goal answers c) says (same.0 e), bounds f (same.0 e)),
        λ t. same.1 (is_price f t.0 t.1),
      )

  -- ── no plan ──

  abbrev Planless : Type 0
  Planless = (p : Plan) → Attains moves keep goal p c → ⊥

  unpriced : (x : Choice (List ℕ)) → Says x → Planless → pays x ≡ None
  unpriced Nothing a h = refl
  unpriced There a h = absurd (h stop (stop_attains moves keep goal c a))
  unpriced (Work o g) a h = absurd (h (work o a.1.next) a.1.prices.0)

  pub planless_iff : (same_option same_cost price None ≡ true) ↔ Planless
  planless_iff =
      let same = option_tells same_cost costs_tell price None in (
        λ e p a. let b = bound k 4 moves keep goal answers laws within tested p c l a in none_some (sym (same.0 e) ∙ b.1.0),
        λ h. same.1 (unpriced (told k 4 moves keep goal answers c) says h),
      )
