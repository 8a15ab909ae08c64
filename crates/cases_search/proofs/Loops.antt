-- The rows of what the loop of the search keeps, by one test.
use Rattle.std.proofs.Common.{◌≡◌, ℕ, zero, suc, ◌-◌, ◌<◌, ◌≤◌, Bool, true, false, not, ◌&&◌, ◌||◌, eqb, leb, ◌↔◌, List, [], ◌∷◌, length, Some, None, Option, refl, arith, leb-true}
use mathlib.Core.Bool.{and-eq-true_iff}
use Rattle.port.specs.declared.Move.{Move}
use Rattle.plans.specs.Flags.{has, every}
use Rattle.plans.specs.Plans.{Plan, Can, Attains}
use Rattle.plans.specs.Reach.{each}
use Rattle.locks.specs.Places.{fits}
use Rattle.costs.specs.declared.models.Time.{Time}
use Rattle.costs.specs.Models.{minutes_model, minutes_laws, time_list}
use Rattle.tables.proofs.Options.{none_some}
use Rattle.search.specs.Answers.{Prices}
use Rattle.search.specs.Labels.{After, Worst, AtLeast, Final, Few, done}
use Rattle.search.specs.Steps.{SearchState, Settled, Above, AllOffered, Early, Spare}
use Rattle.cases_plans.proofs.Rows.{right, all_say}
use Rattle.cases_plans.proofs.Tests.{both, equal, within_test, within_decided}
use Rattle.cases_plans.proofs.Values.{same_option, option_tells}
use Rattle.cases_search.specs.Labels.{costs_in}
use Rattle.cases_search.specs.Loops.{Claim, final, state, settled, Means, rows, LoopsSay}
use Rattle.cases_search.specs.Sluice.{Quest}
use Rattle.cases_search.proofs.Bounds.{value, table_test}
use Rattle.cases_search.proofs.Combine.{every_iff, where_iff, unless_iff}
use Rattle.cases_search.proofs.Few.{few_test, few_decided, early_test, early_decided, spare_test, spare_decided}
use Rattle.cases_search.proofs.Offers.{sized_in, fits_named, none_there, some_at, offers_found, all_offered_test, all_offered_decided}
use Rattle.cases_search.proofs.Prices.{priced_iff, planless_iff}
use Rattle.cases_search.proofs.Runs.{same_cost, costs_tell}
use Rattle.cases_search.proofs.Steps.{only_iff, above_test, above_decided}
use Rattle.cases_search.proofs.Worsts.{only, some_op_test}

-- only the conditions of a table have costs
inside : (t : List (Option Time)) (c : ℕ) (f : List ℕ) → costs_in t c ≡ Some f → c < length t
inside [] c f q = absurd (none_some q)
inside (x ∷ t) zero f q = omega arith
inside (x ∷ t) (suc c) f q = let l = inside t c f q in omega arith

-- a test for each of the first four conditions, of the costs of a table with no others
costs_iff : {P : ℕ → List ℕ → Type 0} (p : ℕ → List ℕ → Bool) (t : List (Option Time)) → length t ≤ 4 →
    ((c : ℕ) → c < 4 → (f : List ℕ) → (p c f ≡ true) ↔ P c f) →
    (every (λ c. only (p c) (costs_in t c)) 4 ≡ true) ↔ ((c : ℕ) (f : List ℕ) → costs_in t c ≡ Some f → P c f)
costs_iff {P} p t few one = (
  λ e c f q. let l = inside t c f q in all.0 e c (omega (arith, few)) f q,
  λ h. all.1 (λ c l f q. h c f q),
)
  where
    all : (every (λ c. only (p c) (costs_in t c)) 4 ≡ true) ↔ ((c : ℕ) → c < 4 → (f : List ℕ) → costs_in t c ≡ Some f → P c f)
    all = every_iff (λ c. only (p c) (costs_in t c)) 4 (λ c l. only_iff (p c) (one c l) (costs_in t c))

module _ (ms : List Move) (w : Quest) where
  abbrev keep : ℕ → Bool
  keep = has w.keep

  abbrev goal : ℕ → Bool
  goal = has w.goal

  abbrev price : ℕ → Option (List ℕ)
  price c = value minutes_model 4 ms keep goal w.answers c

  -- the answers of the quest are right
  abbrev known : Bool
  known = within_test 4 ms && table_test minutes_model 4 ms keep goal w.answers

  -- ── costs that are final ──

  module _ (t : List (Option Time)) where
    abbrev goals_test : ℕ → Bool
    goals_test n = every (λ c. not (goal c) || same_option same_cost (costs_in t c) (Some minutes_model.zero)) n

    abbrev prices_test : Bool
    prices_test = every (λ c. only (λ f. same_option same_cost (price c) (Some f)) (costs_in t c)) 4

    abbrev by_one : ℕ → List ℕ → Bool
    by_one c f = goal c || (keep c && some_op_test (costs_in t) ms (fits c) (fits_named c) f)

    abbrev by_test : Bool
    by_test = every (λ c. only (by_one c) (costs_in t c)) 4

    abbrev final_test : ℕ → Bool
    final_test n = goals_test n && (prices_test && by_test)

    abbrev Paid : ℕ → List ℕ → Type 0
    Paid c f = ((p : Plan) × Prices minutes_model ms keep goal c f p) × AtLeast minutes_model ms keep goal c f

    abbrev Comes : ℕ → List ℕ → Type 0
    Comes c f = (keep c ≡ true) × ((o : ℕ) × Worst minutes_model (After (costs_in t)) (Can ms c o) f)

    final_decided : known ≡ true → length t ≤ 4 → (n : ℕ) → (final_test n ≡ true) ↔ Final minutes_model ms keep goal n (costs_in t)
    final_decided e few n = (
      λ h.
          let p = parts.0 h in
          record { goals = p.0; prices = λ c f q. (p.1.0 c f q).0; least = λ c f q. (p.1.0 c f q).1; by = λ c f q g. p.1.1 c f q g },
      λ v. parts.1 (v.goals, (λ c f q. (v.prices c f q, v.least c f q), λ c f q g. v.by c f q g)),
    )
      where
        k : (within_test 4 ms ≡ true) × (table_test minutes_model 4 ms keep goal w.answers ≡ true)
        k = (and-eq-true_iff (within_test 4 ms) (table_test minutes_model 4 ms keep goal w.answers)).0 e

        goals : (goals_test n ≡ true) ↔ ((c : ℕ) → c < n → goal c ≡ true → costs_in t c ≡ Some minutes_model.zero)
        goals =
            every_iff (λ c. not (goal c) || same_option same_cost (costs_in t c) (Some minutes_model.zero)) n
            (λ c l. where_iff (goal c) (same_option same_cost (costs_in t c) (Some minutes_model.zero)) (λ h. h, λ h. h)
            (option_tells same_cost costs_tell (costs_in t c) (Some minutes_model.zero)))

        paid : (prices_test ≡ true) ↔ ((c : ℕ) (f : List ℕ) → costs_in t c ≡ Some f → Paid c f)
        paid =
            costs_iff (λ c f. same_option same_cost (price c) (Some f)) t few
            (λ c l f. priced_iff minutes_model minutes_laws ms ((within_decided 4 ms).0 k.0) keep goal w.answers k.1 c l f)

        comes : (by_test ≡ true) ↔ ((c : ℕ) (f : List ℕ) → costs_in t c ≡ Some f → goal c ≡ false → Comes c f)
        comes =
            costs_iff by_one t few
            (λ c l f. unless_iff (goal c) (keep c && some_op_test (costs_in t) ms (fits c) (fits_named c) f)
            (both (keep c) (some_op_test (costs_in t) ms (fits c) (fits_named c) f) (λ h. h, λ h. h) (some_at ms (costs_in t) c f)))

        parts : (final_test n ≡ true) ↔ (((c : ℕ) → c < n → goal c ≡ true → costs_in t c ≡ Some minutes_model.zero)
            × (((c : ℕ) (f : List ℕ) → costs_in t c ≡ Some f → Paid c f) × ((c : ℕ) (f : List ℕ) → costs_in t c ≡ Some f → goal c ≡ false → Comes c f)))
        parts = both (goals_test n) (prices_test && by_test) goals (both prices_test by_test paid comes)

    -- ── on the way, and at the end ──

    abbrev sizes_test : ℕ → List (Option Time) → Bool
    sizes_test n u = eqb (length t) n && eqb (length u) n

    abbrev short_test : Bool
    short_test = few_test (done t - 1) t && early_test (done t - 2) t

    abbrev offers_test : ℕ → List (Option Time) → Bool
    offers_test n u = above_test n t u && all_offered_test ms (costs_in t) keep n (costs_in u)

    abbrev state_test : ℕ → List (Option Time) → Bool
    state_test n u = sizes_test n u && (final_test n && (short_test && offers_test n u))

    state_decided : known ≡ true → length t ≤ 4 → (n : ℕ) (u : List (Option Time)) → offers_found ms (costs_in t) n ≡ true →
        (state_test n u ≡ true) ↔ SearchState minutes_model time_list ms keep goal n t u
    state_decided e few n u f = (
      λ h.
          let p = parts.0 h in
          record {
            costs_sized = p.0.0;
            offers_sized = p.0.1;
            final = p.1.0;
            few = p.1.1.0.0;
            above = p.1.1.1.0;
            early = p.1.1.0.1;
            offered = p.1.1.1.1;
          },
      λ s. parts.1 ((s.costs_sized, s.offers_sized), (s.final, ((s.few, s.early), (s.above, s.offered)))),
    )
      where
        parts : (state_test n u ≡ true) ↔ (((length t ≡ n) × (length u ≡ n)) × (Final minutes_model ms keep goal n (costs_in t)
            × ((Few minutes_model time_list (done t - 1) t × Early minutes_model time_list (done t - 2) t)
            × (Above minutes_model n (costs_in t) (costs_in u) × AllOffered minutes_model ms keep n (costs_in t) (costs_in u)))))
        parts =
            both (sizes_test n u) (final_test n && (short_test && offers_test n u)) (both (eqb (length t) n) (eqb (length u) n) (equal (length t) n) (equal (length u) n))
            (both (final_test n) (short_test && offers_test n u) (final_decided e few n)
            (both short_test (offers_test n u)
            (both (few_test (done t - 1) t) (early_test (done t - 2) t) (few_decided (done t - 1) t) (early_decided (done t - 2) t))
            (both (above_test n t u) (all_offered_test ms (costs_in t) keep n (costs_in u)) (above_decided n t u)
            (all_offered_decided ms (costs_in t) (sized_in t) keep n (costs_in u) f))))

    abbrev closed_test : ℕ → Bool
    closed_test n = every (λ c. not (same_option same_cost (costs_in t c) None) || same_option same_cost (price c) None) n

    abbrev room_test : ℕ → Bool
    room_test n = early_test 254 t && spare_test n 254 t

    abbrev settled_test : ℕ → Bool
    settled_test n = eqb (length t) n && (final_test n && (room_test n && closed_test n))

    abbrev Closed : ℕ → Type 0
    Closed n = (c : ℕ) → c < n → costs_in t c ≡ None → (p : Plan) → Attains ms keep goal p c → ⊥

    settled_decided : known ≡ true → length t ≤ 4 → (n : ℕ) → n ≤ 4 → (settled_test n ≡ true) ↔ Settled minutes_model time_list ms keep goal n t
    settled_decided e few n small = (
      λ h.
          let p = parts.0 h in
          record { sized = p.0; final = p.1.0; early = p.1.1.0.0; spare = p.1.1.0.1; closed = λ p' c l q a. p.1.1.1 c l q p' a },
      λ s. parts.1 (s.sized, (s.final, ((s.early, s.spare), λ c l q p a. s.closed p c l q a))),
    )
      where
        k : (within_test 4 ms ≡ true) × (table_test minutes_model 4 ms keep goal w.answers ≡ true)
        k = (and-eq-true_iff (within_test 4 ms) (table_test minutes_model 4 ms keep goal w.answers)).0 e

        closes : (closed_test n ≡ true) ↔ Closed n
        closes =
            every_iff (λ c. not (same_option same_cost (costs_in t c) None) || same_option same_cost (price c) None) n
            (λ c l. where_iff (same_option same_cost (costs_in t c) None) (same_option same_cost (price c) None) (none_there (costs_in t c))
            (planless_iff minutes_model minutes_laws ms ((within_decided 4 ms).0 k.0) keep goal w.answers k.1 c (omega (arith, l, small))))

        parts : (settled_test n ≡ true) ↔ ((length t ≡ n) × (Final minutes_model ms keep goal n (costs_in t)
            × ((Early minutes_model time_list 254 t × Spare minutes_model time_list n 254 t) × Closed n)))
        parts =
            both (eqb (length t) n) (final_test n && (room_test n && closed_test n)) (equal (length t) n)
            (both (final_test n) (room_test n && closed_test n) (final_decided e few n)
            (both (room_test n) (closed_test n) (both (early_test 254 t) (spare_test n 254 t) (early_decided 254 t) (spare_decided n 254 t)) closes))

-- ── the rows ──

-- what the test decides: claims of quests whose answers are right, of at most four conditions
abbrev decides : Claim → Bool
decides (final ms w n t) = known ms w && leb (length t) 4
decides (state ms w n t u) = (known ms w && leb (length t) 4) && offers_found ms (costs_in t) n
decides (settled ms w n t) = (known ms w && leb (length t) 4) && leb n 4

abbrev test : Claim → Bool
test (final ms w n t) = final_test ms w t n
test (state ms w n t u) = state_test ms w t n u
test (settled ms w n t) = settled_test ms w t n

two_so : (a b : Bool) → (a && b) ≡ true → (a ≡ true) × (b ≡ true)
two_so a b e = (and-eq-true_iff a b).0 e

decided : (x : Claim) → decides x ≡ true → (test x ≡ true) ↔ Means x
decided (final ms w n t) e =
    let h = two_so (known ms w) (leb (length t) 4) e in
    final_decided ms w t h.0 (leb-true (length t) 4 h.1) n
decided (state ms w n t u) e =
    let g = two_so (known ms w && leb (length t) 4) (offers_found ms (costs_in t) n) e in
    let h = two_so (known ms w) (leb (length t) 4) g.0 in
    state_decided ms w t h.0 (leb-true (length t) 4 h.1) n u g.1
decided (settled ms w n t) e =
    let g = two_so (known ms w && leb (length t) 4) (leb n 4) e in
    let h = two_so (known ms w) (leb (length t) 4) g.0 in
    settled_decided ms w t h.0 (leb-true (length t) 4 h.1) n (leb-true n 4 g.1)

all_right : each (right decides test) rows ≡ true
all_right = refl

pub loops_say : LoopsSay
loops_say = all_say Means decides test decided rows all_right
