-- Tests that decide what operations come to in a condition, and what is on offer for it, by the costs of a table.
use Rattle.std.proofs.Common.{◌≡◌, ℕ, Bool, true, false, not, ◌&&◌, ◌||◌, ◌↔◌, List, Some, None, Option, refl}
use mathlib.Core.Bool.{false≢true}
use Rattle.port.specs.declared.Move.{Move}
use Rattle.plans.specs.Flags.{every}
use Rattle.plans.specs.Plans.{Can}
use Rattle.locks.specs.Places.{fits}
use Rattle.locks.proofs.Standing.{fits_true, fits_parts}
use Rattle.costs.specs.declared.models.Time.{Time}
use Rattle.costs.specs.Models.{minutes_model, time_list, time_sized}
use Rattle.tables.proofs.Options.{AllSized, looked_sized}
use Rattle.search.specs.Labels.{After, Worst, Cheapest, Offered}
use Rattle.search.specs.Steps.{AllOffered}
use Rattle.search.proofs.Runs.{worst_map}
use Rattle.cases_plans.proofs.Tests.{both}
use Rattle.cases_plans.proofs.Values.{same_option, option_tells}
use Rattle.cases_search.specs.Labels.{costs_in}
use Rattle.cases_search.proofs.Combine.{every_iff, where_iff}
use Rattle.cases_search.proofs.Runs.{so_iff, same_cost, costs_tell}
use Rattle.cases_search.proofs.Worsts.{Of, worst_test, worst_decided, some_op_test, some_op_iff, all_found, ops_test, ops_iff}

pub sized_in : (t : List (Option Time)) → AllSized minutes_model (costs_in t)
sized_in t = looked_sized minutes_model time_list time_sized t

pub fits_named : (c o : ℕ) (m : Move) → fits c o m ≡ true → m.operation ≡ o
fits_named c o m e = let f = fits_parts c o m e in f.1

-- no cost at all
pub none_iff : (a : List ℕ) → (false ≡ true) ↔ ⊥
none_iff a = (λ e. false≢true e, λ h. absurd h)

pub none_there : (x : Option (List ℕ)) → (same_option same_cost x None ≡ true) ↔ (x ≡ None)
none_there x = option_tells same_cost costs_tell x None

module _ (moves : List Move) (V : ℕ → Option (List ℕ)) where
  abbrev Worsts : (Move → Type 0) → List ℕ → Type 0
  Worsts P f = Worst minutes_model (After V) P f

  pub can_to : (c o : ℕ) (f : List ℕ) → Worsts (Of V moves (fits c o)) f → Worsts (Can moves c o) f
  can_to c o f w = worst_map (λ m h. let g = fits_parts c o m h.1 in (h.0, g.0, g.1)) (λ m can. (can.0, fits_true c o m can.1 can.2)) w

  pub can_from : (c o : ℕ) (f : List ℕ) → Worsts (Can moves c o) f → Worsts (Of V moves (fits c o)) f
  can_from c o f w = worst_map (λ m can. (can.0, fits_true c o m can.1 can.2)) (λ m h. let g = fits_parts c o m h.1 in (h.0, g.0, g.1)) w

  pub worst_at : (c o : ℕ) (f : List ℕ) → (worst_test V moves (fits c o) f ≡ true) ↔ Worsts (Can moves c o) f
  worst_at c o f =
      let one = worst_decided V moves (fits c o) f in
      (λ h. can_to c o f (one.0 h), λ w. one.1 (can_from c o f w))

  -- some operation comes to f
  pub some_at : (c : ℕ) (f : List ℕ) → (some_op_test V moves (fits c) (fits_named c) f ≡ true) ↔ ((o : ℕ) × Worsts (Can moves c o) f)
  some_at c f =
      let some = some_op_iff V moves (fits c) (fits_named c) f in
      (λ h. let t = some.0 h in (t.0, can_to c t.0 f t.1), λ t. some.1 (t.0, can_from c t.0 f t.1))

  abbrev pub cheapest_test : ℕ → Option (List ℕ) → Bool
  cheapest_test c None = ops_test V moves (fits c) (fits_named c) (λ o. true) (λ a. false)
  cheapest_test c (Some f) = some_op_test V moves (fits c) (fits_named c) f && ops_test V moves (fits c) (fits_named c) (λ o. true) (λ g. minutes_model.within f g)

  pub cheapest_decided : AllSized minutes_model V → (c : ℕ) (x : Option (List ℕ)) → all_found V moves (fits c) (fits_named c) ≡ true →
      (cheapest_test c x ≡ true) ↔ Cheapest minutes_model V (Can moves c) x
  cheapest_decided sized c None e =
      let all = ops_iff V moves (fits c) (fits_named c) {R = λ o. Unit {0}} sized (λ o. true) (λ a. false) (λ o. (λ h. tt, λ h. refl)) none_iff e in
      (λ h o g w. all.0 h o g tt (can_from c o g w), λ h. all.1 (λ o g u w. h o g (can_to c o g w)))
  cheapest_decided sized c (Some f) e =
      let some = some_op_iff V moves (fits c) (fits_named c) f in
      let all = ops_iff V moves (fits c) (fits_named c) {R = λ o. Unit {0}} sized (λ o. true) (λ g. minutes_model.within f g) (λ o. (λ h. tt, λ h. refl)) (λ g. so_iff (minutes_model.within f g)) e in
      let parts = both (some_op_test V moves (fits c) (fits_named c) f) (ops_test V moves (fits c) (fits_named c) (λ o. true) (λ g. minutes_model.within f g)) some all in (
        λ h. let p = parts.0 h in ((p.0.0, can_to c p.0.0 f p.0.1), λ o g w. p.1 o g tt (can_from c o g w)),
        λ t. parts.1 ((t.0.0, can_from c t.0.0 f t.0.1), λ o g u w. t.1 o g (can_to c o g w)),
      )

  abbrev pub offered_test : (ℕ → Bool) → ℕ → Option (List ℕ) → Bool
  offered_test keep c None = not (same_option same_cost (V c) None) || (not (keep c) || cheapest_test c None)
  offered_test keep c (Some f) = same_option same_cost (V c) None && (keep c && cheapest_test c (Some f))

  pub offered_decided : AllSized minutes_model V → (keep : ℕ → Bool) (c : ℕ) (x : Option (List ℕ)) → all_found V moves (fits c) (fits_named c) ≡ true →
      (offered_test keep c x ≡ true) ↔ Offered minutes_model moves keep V c x
  offered_decided sized keep c None e =
      where_iff (same_option same_cost (V c) None) (not (keep c) || cheapest_test c None) (none_there (V c))
      (where_iff (keep c) (cheapest_test c None) (λ h. h, λ h. h) (cheapest_decided sized c None e))
  offered_decided sized keep c (Some f) e =
      let parts =
      both (same_option same_cost (V c) None) (keep c && cheapest_test c (Some f)) (none_there (V c))
      (both (keep c) (cheapest_test c (Some f)) (λ h. h, λ h. h) (cheapest_decided sized c (Some f) e)) in
      (λ h. let p = parts.0 h in (p.0, p.1.0, p.1.1), λ t. parts.1 (t.0, (t.1, t.2)))

  -- ── at each of the first conditions ──

  abbrev pub offers_found : ℕ → Bool
  offers_found n = every (λ c. all_found V moves (fits c) (fits_named c)) n

  abbrev pub all_offered_test : (ℕ → Bool) → ℕ → (ℕ → Option (List ℕ)) → Bool
  all_offered_test keep n U = every (λ c. offered_test keep c (U c)) n

  pub all_offered_decided : AllSized minutes_model V → (keep : ℕ → Bool) (n : ℕ) (U : ℕ → Option (List ℕ)) → offers_found n ≡ true →
      (all_offered_test keep n U ≡ true) ↔ AllOffered minutes_model moves keep n V U
  all_offered_decided sized keep n U e =
      every_iff (λ c. offered_test keep c (U c)) n
      (λ c l. offered_decided sized keep c (U c) ((every_iff (λ c. all_found V moves (fits c) (fits_named c)) n (λ c l. (λ h. h, λ h. h))).0 e c l))
