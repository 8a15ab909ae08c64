-- The rows of runs of few moves, by one test.
use Rattle.std.proofs.Common.{◌≡◌, ℕ, zero, suc, ◌+◌, ◌-◌, ◌*◌, ◌<◌, ◌≤◌, Bool, true, not, ◌&&◌, ◌||◌, leb, ◌↔◌, List, [], ◌∷◌, length, get_or, Some, None, Option, sym, refl, ap, ◌∙◌, subst, arith}
use Rattle.std.proofs.Math.Decide.{dec_le}
use Rattle.port.specs.declared.Move.{Move}
use Rattle.plans.specs.Flags.{every}
use Rattle.plans.specs.Reach.{each}
use Rattle.costs.specs.Costs.{cost, Reached}
use Rattle.costs.specs.declared.models.Time.{Time}
use Rattle.costs.specs.Models.{minutes_model, time_list}
use Rattle.costs.proofs.Sums.{minutes_count, minutes_bound}
use Rattle.search.specs.Labels.{Few, FewBelow, FewAfter}
use Rattle.search.specs.Steps.{Early, Spare}
use Rattle.cases_plans.specs.Basin.{move}
use Rattle.cases_plans.proofs.Rows.{right, all_say}
use Rattle.cases_plans.proofs.Tests.{both}
use Rattle.cases_plans.proofs.Values.{same_option}
use Rattle.cases_search.specs.Few.{Claim, few, few_below, few_after, joinable, early, spare, Means, rows, FewSay}
use Rattle.cases_search.specs.Labels.{costs_in}
use Rattle.cases_search.specs.Sluice.{two}
use Rattle.cases_search.proofs.Combine.{every_iff, each_iff, at_most, where_iff, unless_iff}
use Rattle.cases_search.proofs.Offers.{none_there}
use Rattle.cases_search.proofs.Runs.{same_cost}
use Rattle.cases_search.proofs.Steps.{entries, entries_iff}

-- ── runs of so many minutes ──

-- a move more, which takes x minutes
add : (n r x m : ℕ) → x < 65536 → r + x ≡ m → Reached minutes_model n (two r n) → Reached minutes_model (suc n) (two m (suc n))
add n r x m small sum s = record {
  moves = move 0 0 0 x ∷ s.moves;
  short = let h = s.short in omega arith;
  small = ((omega arith, omega arith, omega arith, small), s.small);
  same =
      let e : suc n ≡ n + 1 = omega arith in
      ap (λ y. two y (suc n)) (sym sum) ∙ ap (λ y. two (r + x) y) e ∙ ap (λ (c : List ℕ). two (get_or c 0 0 + x) (get_or c 1 0 + 1)) s.same;
}

run : (n m : ℕ) → m ≤ 65535 * n → Reached minutes_model n (two m n)
run zero m l = record { moves = []; short = omega arith; small = tt; same = let e : m ≡ 0 = omega (arith, l) in ap (λ x. two x 0) e }
run (suc n) m l =
    elim (dec_le m 65535) [
      | yes h ↦ add n 0 m m (omega (arith, h)) (omega arith) (run n 0 (omega arith))
      | no h ↦ add n (m - 65535) 65535 m (omega arith) (omega (arith, h)) (run n (m - 65535) (omega (arith, l, h)))
    ]

abbrev quick : ℕ → Time → Bool
quick steps a = leb a.moves steps && leb a.minutes (65535 * a.moves)

-- a run of few moves costs this, where there are as few, and none takes too long
quick_iff : (steps : ℕ) (a : Time) → (quick steps a ≡ true) ↔ Reached minutes_model steps (time_list a)
quick_iff steps a = (λ e. let h = parts.0 e in forth h.0 h.1, λ r. parts.1 (back r))
  where
    parts : (quick steps a ≡ true) ↔ ((a.moves ≤ steps) × (a.minutes ≤ 65535 * a.moves))
    parts = both (leb a.moves steps) (leb a.minutes (65535 * a.moves)) (at_most a.moves steps) (at_most a.minutes (65535 * a.moves))

    forth : a.moves ≤ steps → a.minutes ≤ 65535 * a.moves → Reached minutes_model steps (time_list a)
    forth h l =
        let r = run a.moves a.minutes l in
        record { moves = r.moves; short = let s = r.short in omega (arith, h); small = r.small; same = r.same }

    back : Reached minutes_model steps (time_list a) → (a.moves ≤ steps) × (a.minutes ≤ 65535 * a.moves)
    back r =
        let n : a.moves ≡ length r.moves = ap (λ (c : List ℕ). get_or c 1 0) r.same ∙ minutes_count r.moves in
        let m : a.minutes ≡ get_or (cost minutes_model r.moves) 0 0 = ap (λ (c : List ℕ). get_or c 0 0) r.same in
        let b = minutes_bound r.moves r.small in
        let s = r.short in
        (omega (arith, n), omega (arith, n, m))

-- ── entries of a table ──

abbrev pass : (Time → Bool) → Option Time → Bool
pass p None = true
pass p (Some a) = p a

no_time : {a : Time} → ◌≡◌ {A = Option Time} None (Some a) → ⊥
no_time q = let z : ◌≡◌ {A = ℕ} 0 1 = cc in omega arith

same_time : {a b : Time} → ◌≡◌ {A = Option Time} (Some a) (Some b) → a ≡ b
same_time {a} {b} q = let e : a ≡ b = cc in e

pass_iff : {P : Time → Type 0} (p : Time → Bool) → ((a : Time) → (p a ≡ true) ↔ P a) → (x : Option Time) → (pass p x ≡ true) ↔ ((a : Time) → x ≡ Some a → P a)
pass_iff p one None = (λ e a q. absurd (no_time q), λ h. refl)
pass_iff {P} p one (Some b) = (λ e a q. subst P (same_time q) ((one b).0 e), λ h. (one b).1 (h b refl))

items_iff : {P : Time → Type 0} (p : Time → Bool) → ((a : Time) → (p a ≡ true) ↔ P a) → (t : List (Option Time)) →
    (each (pass p) t ≡ true) ↔ ((c : ℕ) (a : Time) → get_or t c None ≡ Some a → P a)
items_iff p one [] = (λ e c a q. absurd (no_time q), λ h. refl)
items_iff {P} p one (x ∷ t) =
    let parts = both (pass p x) (each (pass p) t) (pass_iff p one x) (items_iff p one t) in
    (λ e. let h = parts.0 e in at h.0 h.1, λ h. parts.1 (h 0, λ c. h (suc c)))
  where
    at : ((a : Time) → x ≡ Some a → P a) → ((c : ℕ) (a : Time) → get_or t c None ≡ Some a → P a) → (c : ℕ) (a : Time) → get_or (x ∷ t) c None ≡ Some a → P a
    at h r zero a q = h a q
    at h r (suc c) a q = r c a q

abbrev pub few_test : ℕ → List (Option Time) → Bool
few_test steps t = each (pass (quick steps)) t

pub few_decided : (steps : ℕ) (t : List (Option Time)) → (few_test steps t ≡ true) ↔ Few minutes_model time_list steps t
few_decided steps t = items_iff (quick steps) (quick_iff steps) t

abbrev below_test : ℕ → List (Option Time) → List ℕ → Bool
below_test steps t f = each (pass (λ a. minutes_model.within f (time_list a) || quick steps a)) t

below_decided : (steps : ℕ) (t : List (Option Time)) (f : List ℕ) → (below_test steps t f ≡ true) ↔ FewBelow minutes_model time_list steps t f
below_decided steps t f =
    items_iff (λ a. minutes_model.within f (time_list a) || quick steps a)
    (λ a. unless_iff (minutes_model.within f (time_list a)) (quick steps a) (quick_iff steps a)) t

abbrev pub early_test : ℕ → List (Option Time) → Bool
early_test steps t = entries (below_test steps t) t

pub early_decided : (steps : ℕ) (t : List (Option Time)) → (early_test steps t ≡ true) ↔ Early minutes_model time_list steps t
early_decided steps t = entries_iff (below_test steps t) (below_decided steps t) t

abbrev pub spare_test : ℕ → ℕ → List (Option Time) → Bool
spare_test n steps t = every (λ c. not (same_option same_cost (costs_in t c) None) || few_test steps t) n

pub spare_decided : (n steps : ℕ) (t : List (Option Time)) → (spare_test n steps t ≡ true) ↔ Spare minutes_model time_list n steps t
spare_decided n steps t =
    every_iff (λ c. not (same_option same_cost (costs_in t c) None) || few_test steps t) n
    (λ c l. where_iff (same_option same_cost (costs_in t c) None) (few_test steps t) (none_there (costs_in t c)) (few_decided steps t))

abbrev after_test : List (Option Time) → List Move → Bool
after_test t ms = each (λ (m : Move). pass (quick 254) (get_or t m.outcome None)) ms

after_decided : (t : List (Option Time)) (ms : List Move) → (after_test t ms ≡ true) ↔ FewAfter minutes_model time_list t ms
after_decided t ms =
    let all = each_iff (λ (m : Move). pass (quick 254) (get_or t m.outcome None)) ms (λ m. pass_iff (quick 254) (quick_iff 254) (get_or t m.outcome None)) in
    (λ e m a i q. all.0 e m i a q, λ h. all.1 (λ m i a q. h m a i q))

-- ── the rows ──

abbrev test : Claim → Bool
test (few steps t) = few_test steps t
test (few_below steps t f) = below_test steps t f
test (few_after t ms) = after_test t ms
test (joinable minutes moves) = quick 254 (record { minutes = minutes; moves = moves })
test (early steps t) = early_test steps t
test (spare n steps t) = spare_test n steps t

decided : (x : Claim) → (test x ≡ true) ↔ Means x
decided (few steps t) = few_decided steps t
decided (few_below steps t f) = below_decided steps t f
decided (few_after t ms) = after_decided t ms
decided (joinable minutes moves) = quick_iff 254 (record { minutes = minutes; moves = moves })
decided (early steps t) = early_decided steps t
decided (spare n steps t) = spare_decided n steps t

all_right : each (right (λ x. true) test) rows ≡ true
all_right = refl

pub few_say : FewSay
few_say = all_say Means (λ x. true) test (λ x e. decided x) rows all_right
