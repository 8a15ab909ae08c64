-- The rows of ranks: ranks that pass a computed test are those of the port.
use Rattle.std.proofs.Common.{◌≡◌, ℕ, zero, suc, ◌*◌, ◌<◌, ◌≤◌, Bool, true, ◌&&◌, ◌||◌, eqb, ltb, leb, sym, refl, ◌∙◌, arith, ltb-true, le-ltb, lt-ltb, eq-eqb, ne_eqb, leb-true}
use mathlib.Core.Bool.{and-eq-true_iff}
use native.Mathlib.Decide.{dec_lt}
use Rattle.formula.specs.Truth.{read, truth}
use Rattle.plans.specs.Domains.{domain_of}
use Rattle.plans.specs.Flags.{every, rank_at}
use Rattle.plans.specs.Reach.{each, left_after, serves}
use Rattle.plans.specs.Simulation.{Domain, Task, WellFormed, InRange, Rank}
use Rattle.plans.proofs.Decide.{each_in, or_left, or_right, left_iterates, row_kept, serves_same}
use Rattle.plans.proofs.Flags.{every_at}
use Rattle.plans.proofs.Ranks.{kept_rank, left_serves}
use Rattle.plans.proofs.Shrink.{dropped_rank}
use Rattle.port.specs.declared.Move.{Move}
use Rattle.cases.specs.Ranks.{Row, rows, Holds, RanksHold}
use Rattle.cases.proofs.Rows.{all_hold, alike, alike_true}

-- what such ranks leave after k steps: rank 0 for ever, another rank until the step of its number
abbrev pub lasts : (ℕ → ℕ → ℕ) → ℕ → ℕ → ℕ → Bool
lasts rank k s c = eqb (rank s c) 0 || ltb k (rank s c)

-- a test for each pair of the domain
abbrev pairwise : Domain → (ℕ → ℕ → Bool) → Bool
pairwise D test = every (λ s. every (λ c. test s c) D.conditions) D.stages

pairwise_at : (D : Domain) (test : ℕ → ℕ → Bool) → pairwise D test ≡ true → (s c : ℕ) → InRange D s c → test s c ≡ true
pairwise_at D test e s c r =
    every_at (λ c. test s c) D.conditions (every_at (λ s. every (λ c. test s c) D.conditions) D.stages e s r.0) c r.1

-- each step of the iteration leaves what the ranks say, and no rank is above the number of pairs
abbrev pub ranked : Domain → (ℕ → ℕ → ℕ) → Bool
ranked D rank =
    every (λ k. pairwise D (λ s c. alike (serves D (lasts rank k) s c) (lasts rank (suc k) s c))) (D.stages * D.conditions)
    && pairwise D (λ s c. leb (rank s c) (D.stages * D.conditions))

module _ (D : Domain) (wf : WellFormed D) (rank : ℕ → ℕ → ℕ) (e : ranked D rank ≡ true) where
  abbrev most : ℕ
  most = D.stages * D.conditions

  steps : every (λ k. pairwise D (λ s c. alike (serves D (lasts rank k) s c) (lasts rank (suc k) s c))) most ≡ true
  steps = ((and-eq-true_iff (every (λ k. pairwise D (λ s c. alike (serves D (lasts rank k) s c) (lasts rank (suc k) s c))) most) (pairwise D (λ s c. leb (rank s c) most))).0 e).0

  few : (s c : ℕ) → InRange D s c → rank s c ≤ most
  few s c r =
      leb-true (rank s c) most (pairwise_at D (λ s c. leb (rank s c) most)
      ((and-eq-true_iff (every (λ k. pairwise D (λ s c. alike (serves D (lasts rank k) s c) (lasts rank (suc k) s c))) most) (pairwise D (λ s c. leb (rank s c) most))).0 e).1 s c r)

  at_first : (n : ℕ) → true ≡ (eqb n 0 || ltb 0 n)
  at_first n =
      elim (dec_lt 0 n) [
        | yes l ↦ sym (or_right (eqb n 0) (ltb 0 n) (lt-ltb 0 n l))
        | no l ↦ sym (or_left (eqb n 0) (ltb 0 n) (eq-eqb n 0 (omega arith)))
      ]

  -- the pairs left are as the ranks say
  left_lasts : (k : ℕ) → k ≤ most → (s c : ℕ) → InRange D s c → left_after D k s c ≡ lasts rank k s c
  left_lasts zero l s c r = at_first (rank s c)
  left_lasts (suc k) l s c r =
      serves_same D wf (left_after D k) (lasts rank k) (left_lasts k (omega arith)) s c r.1
      ∙ alike_true (serves D (lasts rank k) s c) (lasts rank (suc k) s c)
      (pairwise_at D (λ s c. alike (serves D (lasts rank k) s c) (lasts rank (suc k) s c))
      (every_at (λ k. pairwise D (λ s c. alike (serves D (lasts rank k) s c) (lasts rank (suc k) s c))) most steps k (omega arith)) s c r)

  pub is_rank : (s c : ℕ) → InRange D s c → Rank D s c (rank s c)
  is_rank s c r = go (rank s c) refl
    where
      go : (n : ℕ) → rank s c ≡ n → Rank D s c n
      go zero q =
          kept_rank D s c (row_kept D wf s c r
          ((left_serves D wf most s c r).0 (left_lasts most (omega arith) s c r ∙ or_left (eqb (rank s c) 0) (ltb most (rank s c)) (eq-eqb (rank s c) 0 q))))
      go (suc j) q =
          let l : suc j ≤ most = omega (arith, few s c r) in
          dropped_rank D wf (left_after D) (left_iterates D wf) j s c r
          (left_lasts j (omega arith) s c r ∙ or_right (eqb (rank s c) 0) (ltb j (rank s c)) (lt-ltb j (rank s c) (omega arith)))
          (left_lasts (suc j) l s c r ∙ rw (ne_eqb (rank s c) 0 (λ z. omega arith), le-ltb (suc j) (rank s c) (omega arith)) refl)

-- ── well-formed domains ──

-- the conditions of each move and the stages of each task exist
abbrev pub formed : Domain → Bool
formed D =
    each (λ (m : Move). ltb m.condition D.conditions && ltb m.outcome D.conditions) D.moves
    && each (λ (q : Task). ltb q.from D.stages && ltb q.to D.stages) D.tasks

below : (a b n : ℕ) → (ltb a n && ltb b n) ≡ true → (a < n) × (b < n)
below a b n e = let h = (and-eq-true_iff (ltb a n) (ltb b n)).0 e in (ltb-true a n h.0, ltb-true b n h.1)

pub formed_well : (D : Domain) → formed D ≡ true → WellFormed D
formed_well D e =
    let move-test : Move → Bool = λ m. ltb m.condition D.conditions && ltb m.outcome D.conditions in
    let task-test : Task → Bool = λ q. ltb q.from D.stages && ltb q.to D.stages in
    let h = (and-eq-true_iff (each move-test D.moves) (each task-test D.tasks)).0 e in
    record {
      within = λ m i. below m.condition m.outcome D.conditions (each_in move-test D.moves h.0 m i);
      staged = λ q i. below q.from q.to D.stages (each_in task-test D.tasks h.1 q i);
    }

-- ── the rows ──

-- a row's ranks, by stage and condition
abbrev rank_in : Row → ℕ → ℕ → ℕ
rank_in r = rank_at (domain_of r.port).conditions r.ranks

abbrev right : Row → Bool
right r = formed (domain_of r.port) && ranked (domain_of r.port) (rank_in r)

right_holds : (r : Row) → right r ≡ true → Holds r
right_holds r e =
    let h = (and-eq-true_iff (formed (domain_of r.port)) (ranked (domain_of r.port) (rank_in r))).0 e in
    is_rank (domain_of r.port) (formed_well (domain_of r.port) h.0) (rank_in r) h.1

all_right : each right rows ≡ true
unfolding read truth
all_right = refl

pub ranks_hold : RanksHold
ranks_hold = all_hold Holds right right_holds rows all_right
