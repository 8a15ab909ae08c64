-- The rows of what plans cost at least, by one test.
use Rattle.std.proofs.Common.{◌≡◌, Bool, true, ◌&&◌, eqb, ltb, ◌↔◌, length, refl, eqb-true, ltb-true}
use mathlib.Core.Bool.{and-eq-true_iff}
use Rattle.plans.specs.Flags.{has}
use Rattle.plans.specs.Reach.{each}
use Rattle.cases_plans.proofs.Rows.{right, all_say}
use Rattle.cases_search.specs.Least.{Claim, Means, rows, LeastSay}
use Rattle.cases_search.specs.Sluice.{moves, model_of}
use Rattle.cases_search.proofs.Answers.{laws_of, within, quest_test}
use Rattle.cases_search.proofs.Bounds.{value}
use Rattle.cases_search.proofs.Prices.{forth, back}
use Rattle.cases_search.proofs.Worsts.{only}

abbrev decides : Claim → Bool
decides x = quest_test x.quest && (ltb x.condition 4 && eqb (length x.cost) (model_of x.quest.measure).columns)

abbrev test : Claim → Bool
test x = only (λ a. (model_of x.quest.measure).within x.cost a) (value (model_of x.quest.measure) 4 moves (has x.quest.keep) (has x.quest.goal) x.quest.answers x.condition)

decided : (x : Claim) → decides x ≡ true → (test x ≡ true) ↔ Means x
decided x e =
    let h = (and-eq-true_iff (quest_test x.quest) (ltb x.condition 4 && eqb (length x.cost) (model_of x.quest.measure).columns)).0 e in
    let i = (and-eq-true_iff (ltb x.condition 4) (eqb (length x.cost) (model_of x.quest.measure).columns)).0 h.1 in
    let l = ltb-true x.condition 4 i.0 in
    let sized = eqb-true (length x.cost) (model_of x.quest.measure).columns i.1 in
    let k = model_of x.quest.measure in
    let laws = laws_of x.quest.measure in (
      forth k laws moves within (has x.quest.keep) (has x.quest.goal) x.quest.answers h.0 x.condition l x.cost sized,
      back k laws moves within (has x.quest.keep) (has x.quest.goal) x.quest.answers h.0 x.condition l x.cost sized,
    )

all_right : each (right decides test) rows ≡ true
all_right = refl

pub least_say : LeastSay
least_say = all_say Means decides test decided rows all_right
