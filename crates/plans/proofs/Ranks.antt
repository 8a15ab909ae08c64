-- The largest simulation, and the one rank of each pair.
use Rattle.std.proofs.Common.{◌≡◌, ℕ, zero, suc, ◌*◌, ◌≤◌, Bool, true, false, refl, ap, le_antisymm, arith}
use native.Mathlib.Decide.{dec_le}
use Rattle.plans.specs.Simulation.{Domain, WellFormed, InRange, Kept, Rank}
use Rattle.plans.specs.Iterate.{Stable}
use Rattle.plans.specs.Reach.{left_after}
use Rattle.plans.specs.Theorems.{LargestSimulation, OneRank, LeftServes}
use Rattle.plans.proofs.Serve.{kept_row}
use Rattle.plans.proofs.Shrink.{iteration_row, cut_of, stable_simulates, stable_kept, dropped_rank, out_dropped, stable_soon}
use Rattle.plans.proofs.Decide.{left_iterates}

pub left_serves : LeftServes
left_serves D wf = iteration_row D wf (left_after D) (left_iterates D wf)

pub largest_simulation : LargestSimulation
largest_simulation D wf =
    let it = left_iterates D wf in
    let t = stable_soon D wf (left_after D) it in (
      t.0,
      t.1,
      stable_simulates D wf (left_after D) it t.0 t.2,
      λ R sim s c h. let r = sim.ranged s c h in cut_of D (left_after D t.0) s c r ((left_serves D wf t.0 s c r).1 (kept_row D s c (R, sim, h) t.0)),
    )

pub kept_rank : (D : Domain) (s c : ℕ) → Kept D s c → Rank D s c 0
kept_rank D s c k = (k, kept_row D s c k)

rank_least : (D : Domain) (s c j k : ℕ) → Rank D s c (suc j) → Rank D s c (suc k) → j ≤ k
rank_least D s c j k a b = elim (dec_le j k) [ yes l ↦ l | no n ↦ absurd (b.2 j (omega arith) (a.1 j (omega arith))) ]

pub rank_unique : (D : Domain) (s c j k : ℕ) → Rank D s c j → Rank D s c k → j ≡ k
rank_unique D s c zero zero a b = refl
rank_unique D s c zero (suc k) a b = absurd (b.0 a.0)
rank_unique D s c (suc j) zero a b = absurd (a.0 b.0)
rank_unique D s c (suc j) (suc k) a b = ap suc (le_antisymm (rank_least D s c j k a b) (rank_least D s c k j b a))

pub rank_of : (D : Domain) → WellFormed D → (s c : ℕ) → InRange D s c → (k : ℕ) × (k ≤ D.stages * D.conditions) × Rank D s c k
rank_of D wf s c r = let t = stable_soon D wf (left_after D) (left_iterates D wf) in go t.0 t.1 t.2 (left_after D t.0 s c) refl
  where
    go : (k : ℕ) → k ≤ D.stages * D.conditions → Stable D (left_after D) k → (b : Bool) → left_after D k s c ≡ b →
        (j : ℕ) × (j ≤ D.stages * D.conditions) × Rank D s c j
    go k l st true e = (0, omega arith, kept_rank D s c ((stable_kept D wf (left_after D) (left_iterates D wf) k st s c r).0 e))
    go k l st false e =
        let it = left_iterates D wf in
        let d = out_dropped D wf (left_after D) it k s c r e in
        (suc d.0, omega (arith, d.1), dropped_rank D wf (left_after D) it d.0 s c r d.2 d.3)

pub one_rank : OneRank
one_rank D wf s c r =
    let t = rank_of D wf s c r in
    (t.0, t.1, t.2, λ j a. rank_unique D s c j t.0 a t.2)
