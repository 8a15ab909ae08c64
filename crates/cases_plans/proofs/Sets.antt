-- The rows of sets.
use Rattle.std.proofs.Common.{◌≡◌, ℕ, suc, ◌<◌, Bool, true, false, not, ◌&&◌, ◌||◌, eqb, ltb, ◌↔◌, sym, refl, ◌∙◌, true≢false, arith, ltb-true, ne_eqb}
use mathlib.Core.Bool.{and-eq-true_iff}
use Rattle.plans.specs.Flags.{every}
use Rattle.plans.specs.Iterate.{Iterates, Stable}
use Rattle.plans.specs.Reach.{Closed, each, steps, attains, serves, left_after}
use Rattle.plans.specs.Simulation.{Domain, WellFormed, InRange}
use Rattle.plans.proofs.Decide.{alike as agree, attains_iff, steps_iff, implies, serves_decided, serves_same}
use Rattle.plans.proofs.Flags.{every_at, at_every}
use Rattle.cases_plans.specs.Basin.{moves, basin, jamming}
use Rattle.cases_plans.specs.Sets.{Claim, attainable, steps_into, member, closed, stable, Means, rows, computed, iterations, SetsSay, ComputedSay, IterationsSay}
use Rattle.cases_plans.proofs.Rows.{alike, right, all_say, ◌⨾◌, each_says}
use Rattle.cases_plans.proofs.Values.{alike_iff, told, values_say}
use Rattle.cases_plans.proofs.Kept.{formed_decided, pairwise, pairwise_iff}

-- ── closed and stable sets ──

abbrev shut : (ℕ → Bool) → (ℕ → Bool) → (ℕ → Bool) → ℕ → Bool
shut keep goal G c = (not (goal c) || G c) && (not (steps moves keep G c) || G c)

abbrev closed_test : ℕ → (ℕ → Bool) → (ℕ → Bool) → (ℕ → Bool) → Bool
closed_test n keep goal G = every (shut keep goal G) n

closed_decided : (n : ℕ) (keep goal G : ℕ → Bool) → (closed_test n keep goal G ≡ true) ↔ Closed n moves keep goal G
closed_decided n keep goal G = (
  λ e. record {
    goals = λ c l. (implies (goal c) (G c)).0 (halves e c l).0;
    steps = λ c l t. (implies (steps moves keep G c) (G c)).0 (halves e c l).1 ((steps_iff moves keep G c).1 t);
  },
  λ cl. at_every (shut keep goal G) n (λ c l.
      (and-eq-true_iff (not (goal c) || G c) (not (steps moves keep G c) || G c)).1 (
        (implies (goal c) (G c)).1 (cl.goals c l),
        (implies (steps moves keep G c) (G c)).1 (λ e. cl.steps c l ((steps_iff moves keep G c).0 e)),
      )),
)
  where
    halves : every (shut keep goal G) n ≡ true → (c : ℕ) → c < n →
        ((not (goal c) || G c) ≡ true) × ((not (steps moves keep G c) || G c) ≡ true)
    halves e c l =
        (and-eq-true_iff (not (goal c) || G c) (not (steps moves keep G c) || G c)).0 (every_at (shut keep goal G) n e c l)

abbrev stable_test : Domain → (ℕ → ℕ → ℕ → Bool) → ℕ → Bool
stable_test D W k = pairwise D (λ s c. alike (W (suc k) s c) (W k s c))

stable_decided : (D : Domain) (W : ℕ → ℕ → ℕ → Bool) (k : ℕ) → (stable_test D W k ≡ true) ↔ Stable D W k
stable_decided D W k = (
  λ e s c r. (alike_iff (W (suc k) s c) (W k s c)).0 ((pairwise_iff D same).0 e s c r),
  λ st. (pairwise_iff D same).1 (λ s c r. (alike_iff (W (suc k) s c) (W k s c)).1 (st s c r)),
)
  where
    same : ℕ → ℕ → Bool
    same s c = alike (W (suc k) s c) (W k s c)

-- ── the rows ──

basin_formed : WellFormed basin
basin_formed = (formed_decided basin).0 refl

-- what the test decides: claims of conditions that there are
abbrev decides : Claim → Bool
decides (attainable keep goal c) = ltb c 3
decides x = true

abbrev test : Claim → Bool
test (attainable keep goal c) = attains 3 moves keep goal c
test (steps_into keep G c) = steps moves keep G c
test (member G c) = G c
test (closed n keep goal G) = closed_test n keep goal G
test (stable D W k) = stable_test D W k

decided : (x : Claim) → decides x ≡ true → (test x ≡ true) ↔ Means x
decided (attainable keep goal c) e = attains_iff 3 moves basin_formed.within keep goal c (ltb-true c 3 e)
decided (steps_into keep G c) e = steps_iff moves keep G c
decided (member G c) e = (λ h. h, λ h. h)
decided (closed n keep goal G) e = closed_decided n keep goal G
decided (stable D W k) e = stable_decided D W k

all_right : each (right decides test) rows ≡ true
all_right = refl

pub sets_say : SetsSay
sets_say = all_say Means decides test decided rows all_right

all_told : told computed ≡ true
all_told = refl

pub computed_say : ComputedSay
computed_say = values_say computed all_told

-- ── the iteration ──

-- sets that are those left, within the domain, iterate
as_left : (W : ℕ → ℕ → ℕ → Bool) → ((k s c : ℕ) → InRange basin s c → W k s c ≡ left_after basin k s c) → Iterates basin W
as_left W same = record {
  start = λ s c r. same 0 s c r;
  step = λ k s c r.
      let turn : W (suc k) s c ≡ serves basin (W k) s c =
      same (suc k) s c r ∙ serves_same basin basin_formed (left_after basin k) (W k) (λ t d q. sym (same k t d q)) s c r.1 in
      let served = serves_decided basin basin_formed (W k) s c r.1 in
      (λ h. served.0 (sym turn ∙ h), λ h. turn ∙ served.1 h);
}

-- an iteration does not start without a pair, and step k does not leave a pair that is not served
no_start : (W : ℕ → ℕ → ℕ → Bool) (s c : ℕ) → InRange basin s c → W 0 s c ≡ false → Iterates basin W → ⊥
no_start W s c r e it = true≢false (sym (it.start s c r) ∙ e)

no_step : (W : ℕ → ℕ → ℕ → Bool) (k s c : ℕ) → InRange basin s c → alike (W (suc k) s c) (serves basin (W k) s c) ≡ false → Iterates basin W → ⊥
no_step W k s c r e it =
    let served = serves_decided basin basin_formed (W k) s c r.1 in
    let step = it.step k s c r in
    true≢false (sym ((alike_iff (W (suc k) s c) (serves basin (W k) s c)).1 (agree (W (suc k) s c) (serves basin (W k) s c) (λ h. served.1 (step.0 h)) (λ h. step.1 (served.0 h)))) ∙ e)

pub iterations_say : IterationsSay
iterations_say = each_says (Iterates basin) iterations (
    as_left (left_after basin) (λ k s c r. refl)
    ⨾ as_left (λ k s c. left_after basin k s c || eqb s 4)
    (λ k s c r. outside (left_after basin k s c) (eqb s 4) (ne_eqb s 4 (λ q. let l = r.0 in omega arith)))
    ⨾ no_step (λ k s c. true) 0 1 2 (omega arith, omega arith) refl
    ⨾ no_start (λ k s c. false) 0 0 (omega arith, omega arith) refl
    ⨾ no_start (λ k s c. left_after basin (suc k) s c) 1 2 (omega arith, omega arith) refl
    ⨾ no_step (λ k s c. left_after jamming k s c) 1 0 0 (omega arith, omega arith) refl
    ⨾ tt
    )
  where
    outside : (a b : Bool) → b ≡ false → (a || b) ≡ a
    outside true b e = refl
    outside false b e = e
