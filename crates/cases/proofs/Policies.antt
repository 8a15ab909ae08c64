-- The rows of policies: a world that passes a computed test is solved.
use Rattle.std.proofs.Common.{◌≡◌, ℕ, ◌<◌, Bool, true, ◌&&◌, eqb, ◌↔◌, List, length, sym, refl, ◌∙◌, subst, arith, eq-eqb, eqb-true}
use mathlib.Core.Bool.{and-eq-true_iff}
use Rattle.formula.specs.Truth.{read, truth}
use Rattle.plans.specs.Flags.{every, task_at}
use Rattle.plans.specs.Reach.{each}
use Rattle.plans.specs.Simulation.{WellFormed, InRange, Kept, Rank}
use Rattle.plans.proofs.Flags.{every_at}
use Rattle.plans.proofs.Ranks.{kept_rank, rank_unique}
use Rattle.costs.specs.Costs.{Laws}
use Rattle.costs.proofs.Order.{weaken}
use Rattle.solver.specs.declared.Entry.{Entry}
use Rattle.solver.specs.declared.Entry.TheVariants.{None, There, Work}
use Rattle.solver.specs.Choices.{choice_entry, exact_of}
use Rattle.solver.specs.Policy.{World, Right, Solved}
use Rattle.rounds.proofs.Freshness.{task_staged}
use Rattle.solver.proofs.KeptSets.{kept_largest, kept_simulates}
use Rattle.solver.proofs.Policies.{answer_right}
use Rattle.cases.specs.Policies.{Row, rows, world, PoliciesHold}
use Rattle.cases.proofs.Rows.{all_hold}
use Rattle.cases.proofs.Ranks.{formed, formed_well, ranked, is_rank}
use Rattle.cases.proofs.Costed.{choice, fits, answers, free}

-- request q may end in condition c: its pair there has rank 0
abbrev alive : World → ℕ → ℕ → Bool
alive w q c = eqb (w.rank (task_at w.domain q).to c) 0

abbrev goal : World → ℕ → ℕ → Bool
goal w q c = (task_at w.domain q).reach c && alive w q c

abbrev costed : World → ℕ → ℕ → Bool
costed w q = fits w.model w.domain.moves (task_at w.domain q).keep (goal w q) w.domain.conditions (w.entry q) (w.cost q)

abbrev all_costed : World → Bool
all_costed w = every (λ q. every (λ c. costed w q c) w.domain.conditions) (length w.domain.tasks)

abbrev pub solves : World → Bool
solves w = formed w.domain && (ranked w.domain w.rank && all_costed w)

none_work : (o : ℕ) → ◌≡◌ {A = Entry} None (Work o) → ⊥
none_work o e = let z : ◌≡◌ {A = ℕ} 0 1 = cc in omega arith

there_work : (o : ℕ) → ◌≡◌ {A = Entry} There (Work o) → ⊥
there_work o e = let z : ◌≡◌ {A = ℕ} 0 1 = cc in omega arith

module _ (w : World) (laws : Laws w.model) (e : solves w ≡ true) where
  wf : WellFormed w.domain
  wf = formed_well w.domain ((and-eq-true_iff (formed w.domain) (ranked w.domain w.rank && all_costed w)).0 e).0

  rest : (ranked w.domain w.rank ≡ true) × (all_costed w ≡ true)
  rest =
      (and-eq-true_iff (ranked w.domain w.rank) (all_costed w)).0
      ((and-eq-true_iff (formed w.domain) (ranked w.domain w.rank && all_costed w)).0 e).1

  rank_is : (s c : ℕ) → InRange w.domain s c → Rank w.domain s c (w.rank s c)
  rank_is = is_rank w.domain wf w.rank rest.0

  module _ (q : ℕ) (h : q < length w.domain.tasks) where
    kept : (c : ℕ) → c < w.domain.conditions → (alive w q c ≡ true) ↔ Kept w.domain (task_at w.domain q).to c
    kept c l =
        let s = (task_at w.domain q).to in
        let r = rank_is s c ((task_staged w.domain wf q h).1, l) in (
          λ a. (subst (Rank w.domain s c) (eqb-true (w.rank s c) 0 a) r).0,
          λ k. eq-eqb (w.rank s c) 0 (rank_unique w.domain s c (w.rank s c) 0 r (kept_rank w.domain s c k)),
        )

    ends : (c : ℕ) → c < w.domain.conditions → (goal w q c ≡ true) ↔ (((task_at w.domain q).reach c ≡ true) × Kept w.domain (task_at w.domain q).to c)
    ends c l =
        let two = and-eq-true_iff ((task_at w.domain q).reach c) (alive w q c) in
        (λ t. ((two.0 t).0, (kept c l).0 (two.0 t).1), λ p. two.1 (p.0, (kept c l).1 p.1))

    passes : (c : ℕ) → c < w.domain.conditions → costed w q c ≡ true
    passes = every_at (λ c. costed w q c) w.domain.conditions (every_at (λ q. every (λ c. costed w q c) w.domain.conditions) (length w.domain.tasks) rest.1 q h)

    answered : (c : ℕ) → c < w.domain.conditions → (x : Entry) → w.entry q c ≡ x →
        Right w q c (choice_entry (choice x (w.cost q c))) (exact_of w.model (λ (f : List ℕ). f) (choice x (w.cost q c)))
    answered c l x r =
        answer_right w wf q (task_at w.domain q).keep (goal w q) (λ c l. refl) ends (λ (f : List ℕ). f) c l (choice x (w.cost q c))
        (answers w.model w.domain.moves (task_at w.domain q).keep (goal w q) w.domain.conditions (w.entry q) (w.cost q) (weaken laws) wf.within passes c l x r)

    idle : (c : ℕ) → c < w.domain.conditions → ((o : ℕ) → w.entry q c ≡ Work o → ⊥) → w.cost q c ≡ w.model.zero
    idle = free w.model w.domain.moves (task_at w.domain q).keep (goal w q) w.domain.conditions (w.entry q) (w.cost q) (weaken laws) wf.within passes

    right : (c : ℕ) → c < w.domain.conditions → Right w q c (w.entry q c) (w.cost q c)
    right c l = go (w.entry q c) refl
      where
        go : (x : Entry) → w.entry q c ≡ x → Right w q c x (w.cost q c)
        go None r = subst (Right w q c None) (sym (idle c l (λ o p. none_work o (sym r ∙ p)))) (answered c l None r)
        go There r = subst (Right w q c There) (sym (idle c l (λ o p. there_work o (sym r ∙ p)))) (answered c l There r)
        go (Work o) r = answered c l (Work o) r

  pub solved : Solved w
  solved = record { ranked = rank_is; simulates = kept_simulates w rank_is; largest = kept_largest w rank_is; entered = λ q c h l. right q h c l }

all_right : each (λ (r : Row). solves (world r)) rows ≡ true
unfolding read truth
all_right = refl

pub policies_hold : PoliciesHold
policies_hold = all_hold (λ (r : Row). Solved (world r)) (λ (r : Row). solves (world r)) (λ r e. solved (world r) r.laws e) rows all_right
