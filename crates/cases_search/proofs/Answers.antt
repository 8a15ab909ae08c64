-- The rows of answers, by one test.
use Rattle.std.proofs.Common.{◌≡◌, ℕ, ◌<◌, ◌≤◌, Bool, true, false, ◌&&◌, eqb, ltb, leb, ◌↔◌, List, length, slice_index_or, sym, refl, ap₂, subst, arith, ltb-true, leb-true, eqb-true, eq-eqb}
use mathlib.Core.Bool.{and-eq-true_iff, false≢true}
use Rattle.plans.specs.Flags.{has, every}
use Rattle.plans.specs.Plans.{Within}
use Rattle.plans.specs.Reach.{each}
use Rattle.plans.proofs.Flags.{every_at, at_every}
use Rattle.costs.specs.Costs.{Laws}
use Rattle.costs.specs.Models.{moves_laws, minutes_laws}
use Rattle.search.specs.Answers.{BestToGoal, RightChoice, Answers}
use Rattle.search.specs.declared.Choice.{Choice}
use Rattle.search.specs.declared.Choice.TheVariants.{None, There, Work}
use Rattle.cases_plans.proofs.Rows.{right, all_say}
use Rattle.cases_plans.proofs.Tests.{within_decided}
use Rattle.cases_search.specs.Answers.{Claim, costs, prices, best, answer, answers, as_told, Means, rows, AnswersSay}
use Rattle.cases_search.specs.Sluice.{moves, Measure, by_minutes, by_moves, model_of, Quest}
use Rattle.cases_search.proofs.Bounds as bounds
use Rattle.cases_search.proofs.Bounds.{one_answer, no_best, told_right}
use Rattle.cases_search.proofs.Runs.{same_cost, costs_tell, costs_test, costs_decided, prices_test, prices_decided}

pub laws_of : (u : Measure) → Laws (model_of u)
laws_of by_minutes = minutes_laws
laws_of by_moves = moves_laws

pub within : Within 4 moves
within = (within_decided 4 moves).0 refl

-- ── choices ──

abbrev pub same_choice : Choice (List ℕ) → Choice (List ℕ) → Bool
same_choice None None = true
same_choice None There = false
same_choice None (Work p g) = false
same_choice There None = false
same_choice There There = true
same_choice There (Work p g) = false
same_choice (Work o f) None = false
same_choice (Work o f) There = false
same_choice (Work o f) (Work p g) = eqb o p && same_cost f g

itself : (x : Choice (List ℕ)) → same_choice x x ≡ true
itself None = refl
itself There = refl
itself (Work o f) = (and-eq-true_iff (eqb o o) (same_cost f f)).1 (eq-eqb o o refl, (costs_tell f f).1 refl)

alike : (x y : Choice (List ℕ)) → same_choice x y ≡ true → x ≡ y
alike None None e = refl
alike None There e = absurd (false≢true e)
alike None (Work p g) e = absurd (false≢true e)
alike There None e = absurd (false≢true e)
alike There There e = refl
alike There (Work p g) e = absurd (false≢true e)
alike (Work o f) None e = absurd (false≢true e)
alike (Work o f) There e = absurd (false≢true e)
alike (Work o f) (Work p g) e = let h = (and-eq-true_iff (eqb o p) (same_cost f g)).0 e in ap₂ Work (eqb-true o p h.0) ((costs_tell f g).0 h.1)

-- ── what is answered ──

abbrev pub told : Quest → ℕ → Choice (List ℕ)
told w c = slice_index_or w.answers c None

-- the answers of a quest are right
abbrev pub quest_test : Quest → Bool
quest_test w = bounds.table_test (model_of w.measure) 4 moves (has w.keep) (has w.goal) w.answers

module _ (w : Quest) (tested : quest_test w ≡ true) where
  abbrev Says : ℕ → Choice (List ℕ) → Type 0
  Says c x = RightChoice (model_of w.measure) as_told moves (has w.keep) (has w.goal) c x

  told_says : (c : ℕ) → c < 4 → Says c (told w c)
  told_says c l = told_right (model_of w.measure) 4 moves (has w.keep) (has w.goal) w.answers (laws_of w.measure) within tested c l

  pub answer_decided : (c : ℕ) → c < 4 → (x : Choice (List ℕ)) → (same_choice x (told w c) ≡ true) ↔ Says c x
  answer_decided c l x = (
    λ e. subst (Says c) (sym (alike x (told w c) e)) (told_says c l),
    λ a.
        let q = one_answer (model_of w.measure) (laws_of w.measure) moves (has w.keep) (has w.goal) c x (told w c) a (told_says c l) in
        subst (λ y. same_choice x y ≡ true) q (itself x),
  )

  pub best_decided : (c o : ℕ) (f : List ℕ) → c < 4 → (same_choice (Work o f) (told w c) ≡ true) ↔ BestToGoal (model_of w.measure) moves (has w.keep) (has w.goal) c o f
  best_decided c o f l = (
    λ e. ((answer_decided c l (Work o f)).0 e).1,
    λ b. (answer_decided c l (Work o f)).1 (away (has w.goal c) refl b, b),
  )
    where
      away : (g : Bool) → has w.goal c ≡ g → BestToGoal (model_of w.measure) moves (has w.keep) (has w.goal) c o f → has w.goal c ≡ false
      away true q b = absurd (no_best (model_of w.measure) (laws_of w.measure) moves (has w.keep) (has w.goal) c o f q b)
      away false q b = q

  abbrev pub answers_test : ℕ → List (Choice (List ℕ)) → Bool
  answers_test n r = eqb (length r) n && every (λ c. same_choice (slice_index_or r c None) (told w c)) n

  pub answers_decided : (n : ℕ) (r : List (Choice (List ℕ))) → n ≤ 4 → (answers_test n r ≡ true) ↔ Answers n (model_of w.measure) as_told moves w.keep w.goal r
  answers_decided n r most = (
    λ e.
        let h = (and-eq-true_iff (eqb (length r) n) (every test n)).0 e in record {
          sized = eqb-true (length r) n h.0;
          each = λ c l. (answer_decided c (omega (arith, l, most)) (slice_index_or r c None)).0 (every_at test n h.1 c l);
        },
    λ a.
        (and-eq-true_iff (eqb (length r) n) (every test n)).1 (
          eq-eqb (length r) n a.sized,
          at_every test n (λ c l. (answer_decided c (omega (arith, l, most)) (slice_index_or r c None)).1 (a.each c l)),
        ),
  )
    where
      test : ℕ → Bool
      test c = same_choice (slice_index_or r c None) (told w c)

-- ── the rows ──

-- what the test decides: claims of quests whose answers are right, and of conditions that there are
abbrev decides : Claim → Bool
decides (costs u plan c f) = true
decides (prices u keep goal c f plan) = true
decides (best w c o f) = quest_test w && ltb c 4
decides (answer w c x) = quest_test w && ltb c 4
decides (answers w n r) = quest_test w && leb n 4

abbrev test : Claim → Bool
test (costs u plan c f) = costs_test (model_of u) moves plan c f
test (prices u keep goal c f plan) = prices_test (model_of u) moves keep goal c f plan
test (best w c o f) = same_choice (Work o f) (told w c)
test (answer w c x) = same_choice x (told w c)
test (answers w n r) = eqb (length r) n && every (λ c. same_choice (slice_index_or r c None) (told w c)) n

decided : (x : Claim) → decides x ≡ true → (test x ≡ true) ↔ Means x
decided (costs u plan c f) e = costs_decided (model_of u) moves plan c f
decided (prices u keep goal c f plan) e = prices_decided (model_of u) moves keep goal c f plan
decided (best w c o f) e = let h = (and-eq-true_iff (quest_test w) (ltb c 4)).0 e in best_decided w h.0 c o f (ltb-true c 4 h.1)
decided (answer w c x) e = let h = (and-eq-true_iff (quest_test w) (ltb c 4)).0 e in answer_decided w h.0 c (ltb-true c 4 h.1) x
decided (answers w n r) e = let h = (and-eq-true_iff (quest_test w) (leb n 4)).0 e in answers_decided w h.0 n r (leb-true n 4 h.1)

all_right : each (right decides test) rows ≡ true
all_right = refl

pub answers_say : AnswersSay
answers_say = all_say Means decides test decided rows all_right
