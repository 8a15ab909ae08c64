-- The iteration's sets: the k-th holds what serves k requests in a row, and one that stands still holds what is kept.
use Rattle.std.proofs.Common.{◌≡◌, ℕ, zero, suc, ◌+◌, ◌*◌, ◌<◌, ◌≤◌, Bool, true, false, ◌&&◌, ltb, ◌⊎◌, ◌↔◌, sym, refl, ◌∙◌, inl, inr, true≢false, arith, ltb-true, lt-ltb}
use mathlib.Core.Bool.{and-eq-true_iff}
use Rattle.plans.specs.Simulation.{Domain, WellFormed, InRange, Holds, Serves, Simulation, Kept, ServesRow, Rank}
use Rattle.plans.specs.Iterate.{Iterates, Stable, cut}
use Rattle.plans.specs.Flags.{bit}
use Rattle.plans.proofs.Serve.{serves_mono_in, kept_row, row_le}
use Rattle.plans.proofs.Count.{same_or_less, sum, sum_most, bit_most, bit_shrinks}

-- The k-th set holds what serves k requests in a row.
pub iteration_row : (D : Domain) → WellFormed D → (W : ℕ → ℕ → ℕ → Bool) → Iterates D W →
    (k s c : ℕ) → InRange D s c → Holds (W k) s c ↔ ServesRow D k s c
iteration_row D wf W it zero s c r = (λ h. tt, λ h. it.start s c r)
iteration_row D wf W it (suc k) s c r = (
  λ h. serves_mono_in D wf (Holds (W k)) (ServesRow D k) (λ t d a b. (iteration_row D wf W it k t d (a, b)).0) s c r.1 ((it.step k s c r).0 h),
  λ h. (it.step k s c r).1 (serves_mono_in D wf (ServesRow D k) (Holds (W k)) (λ t d a b. (iteration_row D wf W it k t d (a, b)).1) s c r.1 h),
)

pub cut_in : (D : Domain) (R : ℕ → ℕ → Bool) (s c : ℕ) → Holds (cut D R) s c → InRange D s c × Holds R s c
cut_in D R s c h =
    let e = (and-eq-true_iff (ltb s D.stages && ltb c D.conditions) (R s c)).0 h in
    let d = (and-eq-true_iff (ltb s D.stages) (ltb c D.conditions)).0 e.0 in
    ((ltb-true s D.stages d.0, ltb-true c D.conditions d.1), e.1)

pub cut_of : (D : Domain) (R : ℕ → ℕ → Bool) (s c : ℕ) → InRange D s c → Holds R s c → Holds (cut D R) s c
cut_of D R s c r h =
    (and-eq-true_iff (ltb s D.stages && ltb c D.conditions) (R s c)).1
    ((and-eq-true_iff (ltb s D.stages) (ltb c D.conditions)).1 (lt-ltb s D.stages r.0, lt-ltb c D.conditions r.1), h)

-- Where the iteration stands still, it holds what is kept.
pub stable_simulates : (D : Domain) → WellFormed D → (W : ℕ → ℕ → ℕ → Bool) → Iterates D W →
    (k : ℕ) → Stable D W k → Simulation D (cut D (W k))
stable_simulates D wf W it k st = record { ranged = λ s c h. (cut_in D (W k) s c h).0; closed = closed }
  where
    closed : (s c : ℕ) → Holds (cut D (W k)) s c → Serves D (Holds (cut D (W k))) s c
    closed s c h =
        let i = cut_in D (W k) s c h in
        serves_mono_in D wf (Holds (W k)) (Holds (cut D (W k))) (λ t d a b e. cut_of D (W k) t d (a, b) e) s c i.0.1
        ((it.step k s c i.0).0 (st s c i.0 ∙ i.1))

pub stable_kept : (D : Domain) → WellFormed D → (W : ℕ → ℕ → ℕ → Bool) → Iterates D W →
    (k : ℕ) → Stable D W k → (s c : ℕ) → InRange D s c → Holds (W k) s c ↔ Kept D s c
stable_kept D wf W it k st s c r = (
  λ h. (cut D (W k), stable_simulates D wf W it k st, cut_of D (W k) s c r h),
  λ h. (iteration_row D wf W it k s c r).1 (kept_row D s c h k),
)

-- A pair that step j + 1 drops has rank j + 1.
pub dropped_rank : (D : Domain) → WellFormed D → (W : ℕ → ℕ → ℕ → Bool) → Iterates D W →
    (j s c : ℕ) → InRange D s c → Holds (W j) s c → W (suc j) s c ≡ false → Rank D s c (suc j)
dropped_rank D wf W it j s c r h f = (
  λ k. out (suc j) (omega arith) (kept_row D s c k (suc j)),
  λ i l. row_le D i j s c l ((iteration_row D wf W it j s c r).0 h),
  out,
)
  where
    out : (i : ℕ) → j < i → ServesRow D i s c → ⊥
    out i l b = true≢false (sym ((iteration_row D wf W it (suc j) s c r).1 (row_le D (suc j) i s c (omega arith) b)) ∙ f)

-- What is out was dropped by some step.
pub out_dropped : (D : Domain) → WellFormed D → (W : ℕ → ℕ → ℕ → Bool) → Iterates D W →
    (k s c : ℕ) → InRange D s c → W k s c ≡ false → (j : ℕ) × (j < k) × Holds (W j) s c × (W (suc j) s c ≡ false)
out_dropped D wf W it zero s c r f = absurd (true≢false (sym (it.start s c r) ∙ f))
out_dropped D wf W it (suc k) s c r f = go (W k s c) refl (out_dropped D wf W it k s c r)
  where
    go : (b : Bool) → W k s c ≡ b →
        (W k s c ≡ false → (j : ℕ) × (j < k) × Holds (W j) s c × (W (suc j) s c ≡ false)) →
        (j : ℕ) × (j < suc k) × Holds (W j) s c × (W (suc j) s c ≡ false)
    go true e before = (k, omega arith, e, f)
    go false e before = let d = before e in (d.0, omega (arith, d.1), d.2, d.3)

-- ── how soon it stands still ──

total : Domain → (ℕ → ℕ → Bool) → ℕ
total D R = sum (λ s. sum (λ c. bit (R s c)) D.conditions) D.stages

pub shrinks : (D : Domain) → WellFormed D → (W : ℕ → ℕ → ℕ → Bool) → Iterates D W →
    (k s c : ℕ) → InRange D s c → Holds (W (suc k)) s c → Holds (W k) s c
shrinks D wf W it k s c r h =
    (iteration_row D wf W it k s c r).1 (row_le D k (suc k) s c (omega arith) ((iteration_row D wf W it (suc k) s c r).0 h))

falls : (D : Domain) → WellFormed D → (W : ℕ → ℕ → ℕ → Bool) → Iterates D W → (k : ℕ) → Stable D W k ⊎ (total D (W (suc k)) < total D (W k))
unfolding total
falls D wf W it k = done (outer D.stages (λ s h. inner s h))
  where
    Row : ℕ → Type 0
    Row s = (c : ℕ) → c < D.conditions → W (suc k) s c ≡ W k s c

    inner : (s : ℕ) → s < D.stages →
        (Row s × (sum (λ c. bit (W (suc k) s c)) D.conditions ≡ sum (λ c. bit (W k s c)) D.conditions))
        ⊎ (sum (λ c. bit (W (suc k) s c)) D.conditions < sum (λ c. bit (W k s c)) D.conditions)
    inner s hs =
        same_or_less (λ c. W (suc k) s c ≡ W k s c) (λ c. bit (W (suc k) s c)) (λ c. bit (W k s c)) D.conditions
        (λ c hc. bit_shrinks (W (suc k) s c) (W k s c) (shrinks D wf W it k s c (hs, hc)))

    outer : (n : ℕ) → ((s : ℕ) → s < n →
        (Row s × (sum (λ c. bit (W (suc k) s c)) D.conditions ≡ sum (λ c. bit (W k s c)) D.conditions))
        ⊎ (sum (λ c. bit (W (suc k) s c)) D.conditions < sum (λ c. bit (W k s c)) D.conditions)) →
        (((s : ℕ) → s < n → Row s) × (sum (λ s. sum (λ c. bit (W (suc k) s c)) D.conditions) n ≡ sum (λ s. sum (λ c. bit (W k s c)) D.conditions) n))
        ⊎ (sum (λ s. sum (λ c. bit (W (suc k) s c)) D.conditions) n < sum (λ s. sum (λ c. bit (W k s c)) D.conditions) n)
    outer n rows =
        same_or_less Row (λ s. sum (λ c. bit (W (suc k) s c)) D.conditions) (λ s. sum (λ c. bit (W k s c)) D.conditions) n rows

    done : (((s : ℕ) → s < D.stages → Row s) × (total D (W (suc k)) ≡ total D (W k))) ⊎ (total D (W (suc k)) < total D (W k)) →
        Stable D W k ⊎ (total D (W (suc k)) < total D (W k))
    done (inl p) = inl (λ s c r. p.0 s r.0 c r.1)
    done (inr l) = inr l

find : (D : Domain) → WellFormed D → (W : ℕ → ℕ → ℕ → Bool) → Iterates D W →
    (j : ℕ) → ((k : ℕ) × (k < j) × Stable D W k) ⊎ (total D (W j) + j ≤ total D (W 0))
find D wf W it zero = inr (omega arith)
find D wf W it (suc j) = go (find D wf W it j) (falls D wf W it j)
  where
    go : ((k : ℕ) × (k < j) × Stable D W k) ⊎ (total D (W j) + j ≤ total D (W 0)) →
        Stable D W j ⊎ (total D (W (suc j)) < total D (W j)) →
        ((k : ℕ) × (k < suc j) × Stable D W k) ⊎ (total D (W (suc j)) + suc j ≤ total D (W 0))
    go (inl f) l = inl (f.0, omega (arith, f.1), f.2)
    go (inr a) (inl st) = inl (j, omega arith, st)
    go (inr a) (inr l) = inr (omega arith)

most : (D : Domain) (R : ℕ → ℕ → Bool) → total D R ≤ D.stages * D.conditions
unfolding total
most D R =
    sum_most (λ s. sum (λ c. bit (R s c)) D.conditions) D.conditions D.stages
    (λ s. bits s)
  where
    bits : (s : ℕ) → sum (λ c. bit (R s c)) D.conditions ≤ D.conditions
    bits s = omega (arith, sum_most (λ c. bit (R s c)) 1 D.conditions (λ c. bit_most (R s c)))

-- It stands still after as many steps as there are pairs, or before.
pub stable_soon : (D : Domain) → WellFormed D → (W : ℕ → ℕ → ℕ → Bool) → Iterates D W →
    (k : ℕ) × (k ≤ D.stages * D.conditions) × Stable D W k
stable_soon D wf W it = go (find D wf W it (suc (D.stages * D.conditions)))
  where
    go : ((k : ℕ) × (k < suc (D.stages * D.conditions)) × Stable D W k) ⊎ (total D (W (suc (D.stages * D.conditions))) + suc (D.stages * D.conditions) ≤ total D (W 0)) →
        (k : ℕ) × (k ≤ D.stages * D.conditions) × Stable D W k
    go (inl f) = (f.0, omega (arith, f.1), f.2)
    go (inr l) = absurd (omega (arith, most D (W 0)))
