-- The pairs of rank 0 are the largest simulation.
use Rattle.std.proofs.Common.{◌≡◌, ℕ, zero, suc, Bool, true, false, ◌&&◌, eqb, ltb, refl, ap₂, arith, ltb-true, lt-ltb, eq-eqb, eqb-true}
use mathlib.Core.Bool.{false≢true}
use Rattle.plans.specs.Simulation.{Holds, InRange, Kept, Rank, Simulation}
use Rattle.plans.proofs.Serve.{serves_monotone}
use Rattle.solver.specs.Policy.{World, kept_set}

both_true : (a b : Bool) → (a && b) ≡ true → (a ≡ true) × (b ≡ true)
both_true true b h = (refl, h)
both_true false b h = absurd (false≢true h)

module _ (w : World) (ranked : (s c : ℕ) → InRange w.domain s c → Rank w.domain s c (w.rank s c)) where
  -- a kept pair has rank 0, and a pair of rank 0 is kept
  zero_rank : (s c k : ℕ) → Rank w.domain s c k → Kept w.domain s c → k ≡ 0
  zero_rank s c zero r h = refl
  zero_rank s c (suc k) r h = absurd (r.0 h)

  kept_rank : (s c k : ℕ) → Rank w.domain s c k → k ≡ 0 → Kept w.domain s c
  kept_rank s c zero r e = r.0
  kept_rank s c (suc k) r e = absurd (omega arith)

  in_set : (s c : ℕ) → InRange w.domain s c → Kept w.domain s c → Holds (kept_set w) s c
  in_set s c r h =
      ap₂ ◌&&◌ (lt-ltb s w.domain.stages r.0)
      (ap₂ ◌&&◌ (lt-ltb c w.domain.conditions r.1) (eq-eqb (w.rank s c) 0 (zero_rank s c (w.rank s c) (ranked s c r) h)))

  of_set : (s c : ℕ) → Holds (kept_set w) s c → InRange w.domain s c × Kept w.domain s c
  of_set s c h =
      let a = both_true (ltb s w.domain.stages) (ltb c w.domain.conditions && eqb (w.rank s c) 0) h in
      let b = both_true (ltb c w.domain.conditions) (eqb (w.rank s c) 0) a.1 in
      let r : InRange w.domain s c = (ltb-true s w.domain.stages a.0, ltb-true c w.domain.conditions b.0) in
      (r, kept_rank s c (w.rank s c) (ranked s c r) (eqb-true (w.rank s c) 0 b.1))

  pub kept_largest : (R : ℕ → ℕ → Bool) → Simulation w.domain R → (s c : ℕ) → Holds R s c → Holds (kept_set w) s c
  kept_largest R sim s c h = in_set s c (sim.ranged s c h) (R, sim, h)

  pub kept_simulates : Simulation w.domain (kept_set w)
  kept_simulates = record {
    ranged = λ s c h. (of_set s c h).0;
    closed = λ s c h.
        let k = (of_set s c h).1 in
        serves_monotone w.domain k.0 (kept_set w) (kept_largest k.0 k.1) s c (k.1.closed s c k.2);
  }
