-- The rows of the steps of the search, by one test.
use Rattle.std.proofs.Common.{◌≡◌, ℕ, zero, suc, ◌<◌, ◌≤◌, Bool, true, false, ◌&&◌, eqb, leb, ◌↔◌, List, [], ◌∷◌, length, slice_index_or, Some, None, Option, refl, subst}
use mathlib.Core.Bool.{false≢true}
use Rattle.plans.specs.Flags.{has, every}
use Rattle.plans.specs.Plans.{Can}
use Rattle.plans.specs.Reach.{each}
use Rattle.locks.specs.Places.{fits}
use Rattle.costs.specs.Compare.{shown}
use Rattle.costs.specs.Costs.{Le}
use Rattle.costs.specs.declared.models.Time.{Time}
use Rattle.costs.specs.Models.{minutes_model, time_list}
use Rattle.tables.proofs.Options.{some_inj, none_some}
use Rattle.search.specs.Labels.{After, Worst}
use Rattle.search.specs.Steps.{start, Started, Above, LowestAt, Picked, AllPicked}
use Rattle.search.specs.declared.Choice.{Choice}
use Rattle.search.specs.declared.Choice.TheVariants.{None as Nothing, There, Work}
use Rattle.cases_plans.proofs.Rows.{alike, right, all_say}
use Rattle.cases_plans.proofs.Tests.{both, equal}
use Rattle.cases_plans.proofs.Values.{told, values_say, alike_iff, same_option, option_tells}
use Rattle.cases_search.specs.Labels.{costs_in}
use Rattle.cases_search.specs.Sluice.{moves}
use Rattle.cases_search.specs.Steps.{starts, StartsSay, Claim, started, all_offered, above, worked, picked, all_picked, Means, rows, StepsSay}
use Rattle.cases_search.proofs.Combine.{every_iff, at_most}
use Rattle.cases_search.proofs.Offers.{fits_named, can_to, can_from, worst_at, sized_in, offers_found, all_offered_test, all_offered_decided}
use Rattle.cases_search.proofs.Runs.{so_iff, same_cost, costs_tell}
use Rattle.cases_search.proofs.Worsts.{only, worst_test, each_op_test, each_op_iff}

all_told : told starts ≡ true
all_told = refl

pub starts_say : StartsSay
starts_say = values_say starts all_told

-- a cost that is there passes, whatever it is
pub only_iff : {P : List ℕ → Type 0} (p : List ℕ → Bool) → ((a : List ℕ) → (p a ≡ true) ↔ P a) → (x : Option (List ℕ)) → (only p x ≡ true) ↔ ((f : List ℕ) → x ≡ Some f → P f)
only_iff p one None = (λ e f q. absurd (none_some q), λ h. refl)
only_iff {P} p one (Some a) = (λ e f q. subst P (some_inj q) ((one a).0 e), λ h. (one a).1 (h a refl))

-- each cost of a table passes
abbrev pub entries : (List ℕ → Bool) → List (Option Time) → Bool
entries p t = each (λ x. only p (shown time_list x)) t

pub entries_iff : {P : List ℕ → Type 0} (p : List ℕ → Bool) → ((a : List ℕ) → (p a ≡ true) ↔ P a) → (t : List (Option Time)) →
    (entries p t ≡ true) ↔ ((c : ℕ) (f : List ℕ) → costs_in t c ≡ Some f → P f)
entries_iff p one [] = (λ e c f q. absurd (none_some q), λ h. refl)
entries_iff {P} p one (x ∷ t) =
    let parts = both (only p (shown time_list x)) (entries p t) (only_iff p one (shown time_list x)) (entries_iff p one t) in
    (λ e. let h = parts.0 e in at h.0 h.1, λ h. parts.1 (h 0, λ c. h (suc c)))
  where
    at : ((f : List ℕ) → shown time_list x ≡ Some f → P f) → ((c : ℕ) (f : List ℕ) → costs_in t c ≡ Some f → P f) → (c : ℕ) (f : List ℕ) → costs_in (x ∷ t) c ≡ Some f → P f
    at h r zero f q = h f q
    at h r (suc c) f q = r c f q

abbrev started_test : (ℕ → Bool) → ℕ → List (Option Time) → Bool
started_test goal n t = eqb (length t) n && every (λ c. same_option same_cost (costs_in t c) (start minutes_model goal c)) n

started_decided : (goal : ℕ → Bool) (n : ℕ) (t : List (Option Time)) → (started_test goal n t ≡ true) ↔ Started minutes_model time_list goal n t
started_decided goal n t =
    both (eqb (length t) n) (every (λ c. same_option same_cost (costs_in t c) (start minutes_model goal c)) n) (equal (length t) n)
    (every_iff (λ c. same_option same_cost (costs_in t c) (start minutes_model goal c)) n (λ c l. option_tells same_cost costs_tell (costs_in t c) (start minutes_model goal c)))

abbrev below_all : List (Option Time) → List ℕ → Bool
below_all t g = entries (λ f. minutes_model.within f g) t

abbrev pub above_test : ℕ → List (Option Time) → List (Option Time) → Bool
above_test n t u = every (λ d. only (below_all t) (costs_in u d)) n

pub above_decided : (n : ℕ) (t u : List (Option Time)) → (above_test n t u ≡ true) ↔ Above minutes_model n (costs_in t) (costs_in u)
above_decided n t u = (λ e c d f g l v w. all.0 e d l g w c f v, λ h. all.1 (λ d l g w c f v. h c d f g l v w))
  where
    all : (above_test n t u ≡ true) ↔ ((d : ℕ) → d < n → (g : List ℕ) → costs_in u d ≡ Some g → (c : ℕ) (f : List ℕ) → costs_in t c ≡ Some f → Le minutes_model f g)
    all =
        every_iff (λ d. only (below_all t) (costs_in u d)) n
        (λ d l. only_iff (below_all t) (λ g. entries_iff (λ f. minutes_model.within f g) (λ f. so_iff (minutes_model.within f g)) t) (costs_in u d))

module _ (t : List (Option Time)) (c : ℕ) where
  abbrev V : ℕ → Option (List ℕ)
  V = costs_in t

  abbrev no_op : List ℕ → Bool
  no_op f = each_op_test V moves (fits c) (fits_named c) f (λ o. false)

  abbrev is_op : ℕ → List ℕ → Bool
  is_op o f = worst_test V moves (fits c o) f && each_op_test V moves (fits c) (fits_named c) f (leb o)

  abbrev worked_test : Option (ℕ × Time) → Bool
  worked_test None = only no_op (V c)
  worked_test (Some w) = same_option same_cost (V c) (Some (time_list w.1)) && is_op w.0 (time_list w.1)

  no_op_iff : (f : List ℕ) → (no_op f ≡ true) ↔ ((o : ℕ) → Worst minutes_model (After V) (Can moves c o) f → ⊥)
  no_op_iff f =
      let all = each_op_iff V moves (fits c) (fits_named c) f (λ o. false) (λ o. (λ e. false≢true e, λ (h : ⊥). absurd h)) in
      (λ h o w. all.0 h o (can_from moves V c o f w), λ h. all.1 (λ o w. h o (can_to moves V c o f w)))

  lowest_iff : (o : ℕ) (f : List ℕ) → (each_op_test V moves (fits c) (fits_named c) f (leb o) ≡ true) ↔ ((p : ℕ) → Worst minutes_model (After V) (Can moves c p) f → o ≤ p)
  lowest_iff o f =
      let all = each_op_iff V moves (fits c) (fits_named c) f (leb o) (λ p. at_most o p) in
      (λ h p w. all.0 h p (can_from moves V c p f w), λ h. all.1 (λ p w. h p (can_to moves V c p f w)))

  worked_decided : (w : Option (ℕ × Time)) → (worked_test w ≡ true) ↔ LowestAt minutes_model time_list moves V c w
  worked_decided None = only_iff no_op no_op_iff (V c)
  worked_decided (Some w) =
      let parts =
      both (same_option same_cost (V c) (Some (time_list w.1))) (is_op w.0 (time_list w.1)) (option_tells same_cost costs_tell (V c) (Some (time_list w.1)))
      (both (worst_test V moves (fits c w.0) (time_list w.1)) (each_op_test V moves (fits c) (fits_named c) (time_list w.1) (leb w.0))
      (worst_at moves V c w.0 (time_list w.1)) (lowest_iff w.0 (time_list w.1))) in
      (λ e. let h = parts.0 e in (h.0, h.1.0, h.1.1), λ h. parts.1 (h.0, (h.1, h.2)))

  abbrev picked_test : (ℕ → Bool) → Choice Time → Bool
  picked_test goal Nothing = alike (goal c) false && worked_test None
  picked_test goal There = goal c
  picked_test goal (Work o x) = alike (goal c) false && worked_test (Some (o, x))

  picked_decided : (goal : ℕ → Bool) (x : Choice Time) → (picked_test goal x ≡ true) ↔ Picked minutes_model time_list moves V goal c x
  picked_decided goal Nothing = both (alike (goal c) false) (worked_test None) (alike_iff (goal c) false) (worked_decided None)
  picked_decided goal There = (λ e. e, λ e. e)
  picked_decided goal (Work o x) = both (alike (goal c) false) (worked_test (Some (o, x))) (alike_iff (goal c) false) (worked_decided (Some (o, x)))

abbrev all_picked_test : List (Option Time) → (ℕ → Bool) → ℕ → List (Choice Time) → Bool
all_picked_test t goal n r = eqb (length r) n && every (λ c. picked_test t c goal (slice_index_or r c Nothing)) n

all_picked_decided : (t : List (Option Time)) (goal : ℕ → Bool) (n : ℕ) (r : List (Choice Time)) → (all_picked_test t goal n r ≡ true) ↔ AllPicked minutes_model time_list moves (costs_in t) goal n r
all_picked_decided t goal n r =
    both (eqb (length r) n) (every (λ c. picked_test t c goal (slice_index_or r c Nothing)) n) (equal (length r) n)
    (every_iff (λ c. picked_test t c goal (slice_index_or r c Nothing)) n (λ c l. picked_decided t c goal (slice_index_or r c Nothing)))

-- ── the rows ──

-- what the test decides: offers where it has found what the moves come to
abbrev decides : Claim → Bool
decides (all_offered keep n t u) = offers_found moves (costs_in t) n
decides x = true

abbrev test : Claim → Bool
test (started goal n t) = started_test (has goal) n t
test (all_offered keep n t u) = all_offered_test moves (costs_in t) (has keep) n (costs_in u)
test (above n t u) = above_test n t u
test (worked t c w) = worked_test t c w
test (picked t goal c x) = picked_test t c (has goal) x
test (all_picked t goal n r) = all_picked_test t (has goal) n r

decided : (x : Claim) → decides x ≡ true → (test x ≡ true) ↔ Means x
decided (started goal n t) e = started_decided (has goal) n t
decided (all_offered keep n t u) e = all_offered_decided moves (costs_in t) (sized_in t) (has keep) n (costs_in u) e
decided (above n t u) e = above_decided n t u
decided (worked t c w) e = worked_decided t c w
decided (picked t goal c x) e = picked_decided t c (has goal) x
decided (all_picked t goal n r) e = all_picked_decided t (has goal) n r

all_right : each (right decides test) rows ≡ true
all_right = refl

pub steps_say : StepsSay
steps_say = all_say Means decides test decided rows all_right
