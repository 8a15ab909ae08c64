-- The rows of policies, by one test.
use Rattle.std.proofs.Common.{◌≡◌, ℕ, ◌<◌, Bool, true, false, not, ◌&&◌, ltb, ◌↔◌, List, sym, refl, ◌∙◌, subst, ltb-true}
use mathlib.Core.Bool.{and-eq-true_iff, false≢true}
use Rattle.plans.specs.Flags.{every, rank_at}
use Rattle.plans.specs.Plans.{stop}
use Rattle.plans.specs.Reach.{each}
use Rattle.plans.specs.Simulation.{InRange, Rank}
use Rattle.plans.proofs.Flags.{every_at, at_every}
use Rattle.costs.specs.Models.{minutes_laws}
use Rattle.costs.proofs.Order.{not_true}
use Rattle.solver.specs.declared.Entry.{Entry}
use Rattle.solver.specs.declared.Entry.TheVariants.{None, There, Work}
use Rattle.solver.specs.Policy.{World, Best, Right, Solved}
use Rattle.solver.proofs.KeptSets.{kept_largest, kept_simulates}
use Rattle.cases_plans.proofs.Rows.{right as row_right, all_say}
use Rattle.cases_plans.proofs.Tests.{both}
use Rattle.cases_plans.proofs.Kept.{pairwise, pairwise_iff, rank_test, rank_decided}
use Rattle.cases_histories.specs.Sluice.{sluice, with_tables, w}
use Rattle.cases_histories.specs.Policies.{Claim, safe, price, begins, best, right, solved, Means, rows, PoliciesSay}
use Rattle.cases_histories.proofs.Tests.{same_numbers, numbers_tell, same_entry, entries_tell}
use Rattle.cases_histories.proofs.Plans.{safe_test, safe_decided, price_test, price_decided}
use Rattle.cases_histories.proofs.Rights.{right_one, formed, begins_test, begins_decided, own_right}

-- the entry and the cost are the sluice's own
abbrev pub right_test : ℕ → ℕ → Entry → List ℕ → Bool
right_test q c x f = same_entry x (w.entry q c) && same_numbers f (w.cost q c)

pub right_decided : (q c : ℕ) → q < 3 → c < 3 → (x : Entry) (f : List ℕ) → (right_test q c x f ≡ true) ↔ Right w q c x f
right_decided q c l m x f = (
  λ e.
      let h = same.0 e in
      subst (λ (y : Entry). Right w q c y f) (sym h.0) (subst (λ (g : List ℕ). Right w q c (w.entry q c) g) (sym h.1) (own_right q c l m)),
  λ r. same.1 (right_one w minutes_laws q c x (w.entry q c) f (w.cost q c) r (own_right q c l m)),
)
  where
    same : (right_test q c x f ≡ true) ↔ ((x ≡ w.entry q c) × (f ≡ w.cost q c))
    same = both (same_entry x (w.entry q c)) (same_numbers f (w.cost q c)) (entries_tell x (w.entry q c)) (numbers_tell f (w.cost q c))

-- an operation is the best where stopping is not safe and its entry is right
pub best_decided : (q c : ℕ) → q < 3 → c < 3 → safe_test w q stop c ≡ false → (o : ℕ) (f : List ℕ) → (right_test q c (Work o) f ≡ true) ↔ Best w q c o f
best_decided q c l m e o f = (
  λ t. ((right_decided q c l m (Work o) f).0 t).1,
  λ b. (right_decided q c l m (Work o) f).1 (λ s. false≢true (sym e ∙ (safe_decided w formed q stop c).1 s), b),
)

-- ── solved tables ──

module _ (es : List Entry) (fs : List (List ℕ)) (rs : List ℕ) where
  abbrev v : World
  v = with_tables es fs rs

  right_to : (q c : ℕ) (x : Entry) (f : List ℕ) → Right w q c x f → Right v q c x f
  right_to q c None f r = r
  right_to q c There f r = r
  right_to q c (Work o) f r = (r.0, record { begins = r.1.begins; least = r.1.least; lowest = r.1.lowest })

  right_of : (q c : ℕ) (x : Entry) (f : List ℕ) → Right v q c x f → Right w q c x f
  right_of q c None f r = r
  right_of q c There f r = r
  right_of q c (Work o) f r = (r.0, record { begins = r.1.begins; least = r.1.least; lowest = r.1.lowest })

  abbrev pub ranks_test : Bool
  ranks_test = pairwise sluice (λ s c. rank_test sluice s c (rank_at 3 rs s c))

  abbrev entries_test : Bool
  entries_test = every (λ q. every (λ c. right_test q c (v.entry q c) (v.cost q c)) 3) 3

  abbrev pub solved_test : Bool
  solved_test = ranks_test && entries_test

  pub ranks_decided : (ranks_test ≡ true) ↔ ((s c : ℕ) → InRange sluice s c → Rank sluice s c (rank_at 3 rs s c))
  ranks_decided = (
    λ e s c r. (rank_decided sluice formed s c (rank_at 3 rs s c) r).0 ((pairwise_iff sluice (λ s c. rank_test sluice s c (rank_at 3 rs s c))).0 e s c r),
    λ h. (pairwise_iff sluice (λ s c. rank_test sluice s c (rank_at 3 rs s c))).1 (λ s c r. (rank_decided sluice formed s c (rank_at 3 rs s c) r).1 (h s c r)),
  )

  entries_decided : (entries_test ≡ true) ↔ ((q c : ℕ) → q < 3 → c < 3 → Right v q c (v.entry q c) (v.cost q c))
  entries_decided = (
    λ e q c l m. right_to q c (v.entry q c) (v.cost q c) ((right_decided q c l m (v.entry q c) (v.cost q c)).0
        (every_at (λ c. right_test q c (v.entry q c) (v.cost q c)) 3 (every_at (λ q. every (λ c. right_test q c (v.entry q c) (v.cost q c)) 3) 3 e q l) c m)),
    λ h. at_every (λ q. every (λ c. right_test q c (v.entry q c) (v.cost q c)) 3) 3
        (λ q l. at_every (λ c. right_test q c (v.entry q c) (v.cost q c)) 3
        (λ c m. (right_decided q c l m (v.entry q c) (v.cost q c)).1 (right_of q c (v.entry q c) (v.cost q c) (h q c l m)))),
  )

  pub solved_decided : (solved_test ≡ true) ↔ Solved v
  solved_decided = (
    λ e.
        let h = (and-eq-true_iff ranks_test entries_test).0 e in
        let ranked = ranks_decided.0 h.0 in record {
          ranked = ranked;
          simulates = kept_simulates v ranked;
          largest = kept_largest v ranked;
          entered = entries_decided.0 h.1;
        },
    λ s. (and-eq-true_iff ranks_test entries_test).1 (ranks_decided.1 s.ranked, entries_decided.1 s.entered),
  )

-- ── the rows ──

-- what the test decides: requests and conditions that there are, and the best operation where stopping is not safe
abbrev decides : Claim → Bool
decides (best q c o f) = (ltb q 3 && ltb c 3) && not (safe_test w q stop c)
decides (right q c x f) = ltb q 3 && ltb c 3
decides x = true

abbrev test : Claim → Bool
test (safe q plan c) = safe_test w q plan c
test (price plan c f) = price_test w plan c f
test (begins q c o f) = begins_test q c o f
test (best q c o f) = right_test q c (Work o) f
test (right q c x f) = right_test q c x f
test (solved es fs rs) = solved_test es fs rs

inside : (q c : ℕ) → (ltb q 3 && ltb c 3) ≡ true → (q < 3) × (c < 3)
inside q c e = let h = (and-eq-true_iff (ltb q 3) (ltb c 3)).0 e in (ltb-true q 3 h.0, ltb-true c 3 h.1)

decided : (x : Claim) → decides x ≡ true → (test x ≡ true) ↔ Means x
decided (safe q plan c) e = safe_decided w formed q plan c
decided (price plan c f) e = price_decided w plan c f
decided (begins q c o f) e = begins_decided q c o f
decided (best q c o f) e =
    let h = (and-eq-true_iff (ltb q 3 && ltb c 3) (not (safe_test w q stop c))).0 e in
    let l = inside q c h.0 in
    best_decided q c l.0 l.1 (not_true (safe_test w q stop c) h.1) o f
decided (right q c x f) e = let l = inside q c e in right_decided q c l.0 l.1 x f
decided (solved es fs rs) e = solved_decided es fs rs

all_right : each (row_right decides test) rows ≡ true
all_right = refl

pub policies_say : PoliciesSay
policies_say = all_say Means decides test decided rows all_right
