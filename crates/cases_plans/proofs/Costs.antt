-- The rows of laws and costs.
use Rattle.std.proofs.Common.{◌≡◌, ℕ, Bool, true, false, ◌&&◌, T, eqb, ltb, ◌↔◌, List, [], ◌∷◌, length, get_or, refl, ap, ◌∙◌, ⊎_elim, arith, le→leb, leb→le}
use Rattle.port.specs.Limits.{Limited}
use Rattle.port.specs.declared.Move.{Move}
use Rattle.plans.specs.Reach.{each}
use Rattle.costs.specs.Costs.{Laws, WeakLaws, cost, Small, Reached}
use Rattle.costs.specs.Models.{moves_model, minutes_model, moves_laws, minutes_laws}
use Rattle.costs.proofs.Order.{was_true, weaken}
use Rattle.costs.proofs.Sums.{moves_count, minutes_count, minutes_bound}
use Rattle.cases_plans.specs.Basin.{move, lift, lower, stay}
use Rattle.cases_plans.specs.Costs.{bare_zero, long_join, split, winding, blind, raised, jumping, falling, free, lawful, LawfulSay, weak, WeakSay, Claim, sized, at_most, small, Means, rows, CostsSay, runs, RunsSay, IsReached, prices, PricesSay}
use Rattle.cases_plans.proofs.Rows.{right, all_say, ◌⨾◌, each_says}
use Rattle.cases_plans.proofs.Tests.{both, equal, below}
use Rattle.cases_plans.proofs.Values.{told, values_say}

-- ── laws ──

no_bare_zero : WeakLaws bare_zero → ⊥
no_bare_zero l = let e : ◌≡◌ {A = ℕ} 0 1 = l.zero_sized in omega arith

no_long_join : WeakLaws long_join → ⊥
no_long_join l = let e : ◌≡◌ {A = ℕ} 2 1 = l.join_sized lift (0 ∷ []) refl in omega arith

no_split : WeakLaws split → ⊥
no_split l = ⊎_elim (λ t. t) (λ t. t) (l.total (0 ∷ 1 ∷ []) (1 ∷ 0 ∷ []) refl refl)

no_winding : WeakLaws winding → ⊥
no_winding l = l.chain (0 ∷ 2 ∷ []) (2 ∷ 1 ∷ []) (4 ∷ 0 ∷ []) refl refl refl tt tt

no_blind : WeakLaws blind → ⊥
no_blind l =
    let e : ◌≡◌ {A = ℕ} 0 1 = ap (λ (a : List ℕ). get_or a 0 0) (l.tie (0 ∷ 4 ∷ []) (1 ∷ 4 ∷ []) refl refl tt tt) in
    omega arith

no_raised : WeakLaws raised → ⊥
no_raised l = l.least (0 ∷ []) refl

no_jumping : WeakLaws jumping → ⊥
no_jumping l = l.keeps lift (0 ∷ []) (1 ∷ []) refl refl tt

no_falling : WeakLaws falling → ⊥
no_falling l = l.rises lift (1 ∷ []) refl

no_free : Laws free → ⊥
no_free l = l.grows stay (0 ∷ []) refl tt

free_laws : WeakLaws free
free_laws = record {
  zero_sized = refl;
  join_sized = λ m a s. refl;
  total = moves_laws.total;
  chain = moves_laws.chain;
  tie = moves_laws.tie;
  least = moves_laws.least;
  keeps = λ m a b s t h. omega (arith, leb→le, le→leb);
  rises = λ m a s. omega (arith, le→leb);
}

pub lawful_say : LawfulSay
lawful_say = each_says Laws lawful (
    moves_laws
    ⨾ minutes_laws
    ⨾ (λ l. no_bare_zero (weaken l))
    ⨾ (λ l. no_long_join (weaken l))
    ⨾ (λ l. no_split (weaken l))
    ⨾ (λ l. no_winding (weaken l))
    ⨾ (λ l. no_blind (weaken l))
    ⨾ (λ l. no_raised (weaken l))
    ⨾ (λ l. no_jumping (weaken l))
    ⨾ (λ l. no_falling (weaken l))
    ⨾ no_free
    ⨾ tt
    )

pub weak_say : WeakSay
weak_say = each_says WeakLaws weak (
    weaken moves_laws
    ⨾ weaken minutes_laws
    ⨾ free_laws
    ⨾ no_bare_zero
    ⨾ no_long_join
    ⨾ no_split
    ⨾ no_winding
    ⨾ no_blind
    ⨾ no_raised
    ⨾ no_jumping
    ⨾ no_falling
    ⨾ tt
    )

-- ── costs ──

pub was_so : (b : Bool) → T b → b ≡ true
was_so true t = refl
was_so false t = absurd t

abbrev limited_test : Move → Bool
limited_test m = (ltb m.condition 256 && ltb m.operation 32) && (ltb m.outcome 256 && ltb m.minutes 65536)

limited_decided : (m : Move) → (limited_test m ≡ true) ↔ Limited m
limited_decided m =
    let parts =
    both (ltb m.condition 256 && ltb m.operation 32) (ltb m.outcome 256 && ltb m.minutes 65536)
    (both (ltb m.condition 256) (ltb m.operation 32) (below m.condition 256) (below m.operation 32))
    (both (ltb m.outcome 256) (ltb m.minutes 65536) (below m.outcome 256) (below m.minutes 65536)) in
    (λ e. let h = parts.0 e in (h.0.0, h.0.1, h.1.0, h.1.1), λ l. parts.1 ((l.0, l.1), (l.2, l.3)))

abbrev small_test : List Move → Bool
small_test [] = true
small_test (m ∷ ms) = limited_test m && small_test ms

small_decided : (ms : List Move) → (small_test ms ≡ true) ↔ Small ms
small_decided [] = (λ e. tt, λ s. refl)
small_decided (m ∷ ms) = both (limited_test m) (small_test ms) (limited_decided m) (small_decided ms)

abbrev test : Claim → Bool
test (sized k a) = eqb (length a) k.columns
test (at_most k a b) = k.within a b
test (small ms) = small_test ms

decided : (x : Claim) → (test x ≡ true) ↔ Means x
decided (sized k a) = equal (length a) k.columns
decided (at_most k a b) = (λ e. was_true e, was_so (k.within a b))
decided (small ms) = small_decided ms

all_right : each (right (λ x. true) test) rows ≡ true
all_right = refl

pub costs_say : CostsSay
costs_say = all_say Means (λ x. true) test (λ x e. decided x) rows all_right

all_told : told runs ≡ true
all_told = refl

pub runs_say : RunsSay
runs_say = values_say runs all_told

-- ── what some run costs ──

column : (a b : List ℕ) (i : ℕ) → a ≡ b → get_or a i 0 ≡ get_or b i 0
column a b i e = ap (λ (c : List ℕ). get_or c i 0) e

few_moves : Reached moves_model 2 (3 ∷ []) → ⊥
few_moves r =
    let e : 3 ≡ length r.moves = column (3 ∷ []) (cost moves_model r.moves) 0 r.same ∙ moves_count r.moves in
    omega (arith, r.short)

few_timed : Reached minutes_model 3 (0 ∷ 4 ∷ []) → ⊥
few_timed r =
    let e : 4 ≡ length r.moves = column (0 ∷ 4 ∷ []) (cost minutes_model r.moves) 1 r.same ∙ minutes_count r.moves in
    omega (arith, r.short)

idle : Reached minutes_model 3 (5 ∷ 0 ∷ []) → ⊥
idle r =
    let e : 0 ≡ length r.moves = column (5 ∷ 0 ∷ []) (cost minutes_model r.moves) 1 r.same ∙ minutes_count r.moves in
    let f : 5 ≡ get_or (cost minutes_model r.moves) 0 0 = column (5 ∷ 0 ∷ []) (cost minutes_model r.moves) 0 r.same in
    omega (arith, minutes_bound r.moves r.small)

too_long : Reached minutes_model 1 (65536 ∷ 1 ∷ []) → ⊥
too_long r =
    let f : 65536 ≡ get_or (cost minutes_model r.moves) 0 0 = column (65536 ∷ 1 ∷ []) (cost minutes_model r.moves) 0 r.same in
    omega (arith, minutes_bound r.moves r.small, r.short)

pub prices_say : PricesSay
prices_say = each_says IsReached prices (
    record { moves = lift ∷ lower ∷ []; short = omega arith; small = ((omega arith, omega arith, omega arith, omega arith), ((omega arith, omega arith, omega arith, omega arith), tt)); same = refl }
    ⨾ record { moves = []; short = omega arith; small = tt; same = refl }
    ⨾ record { moves = move 0 0 1 65535 ∷ []; short = omega arith; small = ((omega arith, omega arith, omega arith, omega arith), tt); same = refl }
    ⨾ few_moves
    ⨾ few_timed
    ⨾ idle
    ⨾ too_long
    ⨾ tt
    )
