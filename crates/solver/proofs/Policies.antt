-- What a search answers is what a policy promises.
use Rattle.std.proofs.Common.{◌≡◌, ℕ, ◌<◌, Bool, true, ◌↔◌, List, [], sym, refl, ◌∙◌, true≢false}
use Rattle.port.specs.declared.Move.{Move}
use Rattle.plans.specs.Plans.{Plan, stop, work, IsRun, end, Attains}
use Rattle.plans.specs.Simulation.{WellFormed, Kept}
use Rattle.plans.specs.Flags.{task_at}
use Rattle.plans.proofs.Attain.{run_moves, stop_attains}
use Rattle.plans.proofs.Serve.{end_within}
use Rattle.search.specs.Answers.{RightChoice}
use Rattle.search.specs.declared.Choice.{Choice}
use Rattle.search.specs.declared.Choice.TheVariants.{None, There, Work}
use Rattle.solver.specs.Choices.{choice_entry, exact_of}
use Rattle.solver.specs.Policy.{World, Safe, Right}

module _ (w : World) (wf : WellFormed w.domain) (q : ℕ) (keep goal : ℕ → Bool)
    (keeps : (c : ℕ) → c < w.domain.conditions → keep c ≡ (task_at w.domain q).keep c)
    (goals : (c : ℕ) → c < w.domain.conditions → (goal c ≡ true) ↔ (((task_at w.domain q).reach c ≡ true) × Kept w.domain (task_at w.domain q).to c)) where
  abbrev moves : List Move
  moves = w.domain.moves

  -- to attain the goal is to be safe
  pub attains_safe : (plan : Plan) (c : ℕ) → c < w.domain.conditions → Attains moves keep goal plan c → Safe w q plan c
  attains_safe plan c l a = (
    (
      a.0,
      λ ms r. (
        λ m i. sym (keeps m.condition (wf.within m (run_moves moves plan c ms r m i)).0) ∙ (a.1 ms r).0 m i,
        ((goals (end c ms) (inside ms r)).0 (a.1 ms r).1).0,
      ),
    ),
    λ ms r. ((goals (end c ms) (inside ms r)).0 (a.1 ms r).1).1,
  )
    where
      inside : (ms : List Move) → IsRun moves plan c ms → end c ms < w.domain.conditions
      inside ms r = end_within w.domain.conditions moves wf.within plan c ms l r

  pub safe_attains : (plan : Plan) (c : ℕ) → c < w.domain.conditions → Safe w q plan c → Attains moves keep goal plan c
  safe_attains plan c l s = (
    s.0.0,
    λ ms r. (
      λ m i. keeps m.condition (wf.within m (run_moves moves plan c ms r m i)).0 ∙ (s.0.1 ms r).0 m i,
      (goals (end c ms) (inside ms r)).1 ((s.0.1 ms r).1, s.1 ms r),
    ),
  )
    where
      inside : (ms : List Move) → IsRun moves plan c ms → end c ms < w.domain.conditions
      inside ms r = end_within w.domain.conditions moves wf.within plan c ms l r

  -- an answer of the search is a right entry
  pub answer_right : {A : Type 0} (e : A → List ℕ) (c : ℕ) → c < w.domain.conditions → (x : Choice A) → RightChoice w.model e moves keep goal c x →
      Right w q c (choice_entry x) (exact_of w.model e x)
  answer_right e c l None a = (λ plan s. a plan (safe_attains plan c l s), refl)
  answer_right e c l There a = (attains_safe stop c l (stop_attains moves keep goal c a), refl)
  answer_right e c l (Work o x) a = (
    λ s. true≢false (sym ((safe_attains stop c l s).1 [] tt).1 ∙ a.0),
    record {
      begins = (a.1.next, attains_safe (work o a.1.next) c l a.1.prices.0, a.1.prices.1);
      least = λ plan s. a.1.least plan (safe_attains plan c l s);
      lowest = λ p b. a.1.lowest p b.0 (safe_attains (work p b.0) c l b.1, b.2);
    },
  )
