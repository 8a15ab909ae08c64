-- What is served stays served when what it ends in grows. So a pair that serves k + 1 requests in a row serves k, and a kept pair serves any number.
use Rattle.std.proofs.Common.{ℕ, zero, suc, ◌<◌, ◌≤◌, Bool, List, [], ◌∷◌, arith}
use Rattle.port.specs.declared.Move.{Move}
use Rattle.plans.specs.Plans.{Plan, stop, work, IsRun, end, Within}
use Rattle.plans.specs.Simulation.{Domain, WellFormed, InRange, Holds, Serves, Kept, ServesRow}

pub serves_mono : (D : Domain) (X Y : ℕ → ℕ → Type 0) →
    ((s c : ℕ) → X s c → Y s c) → (s c : ℕ) → Serves D X s c → Serves D Y s c
serves_mono D X Y f s c serve q i e =
    let t = serve q i e in
    (t.0, t.1, λ ms r. f q.to (end c ms) (t.2 ms r))

pub serves_monotone : (D : Domain) (R S : ℕ → ℕ → Bool) →
    ((s c : ℕ) → Holds R s c → Holds S s c) → (s c : ℕ) → Serves D (Holds R) s c → Serves D (Holds S) s c
serves_monotone D R S = serves_mono D (Holds R) (Holds S)

pub row_le : (D : Domain) (i j s c : ℕ) → i ≤ j → ServesRow D j s c → ServesRow D i s c
row_le D zero j s c l h = tt
row_le D (suc i) zero s c l h = absurd (omega arith)
row_le D (suc i) (suc j) s c l h =
    serves_mono D (ServesRow D j) (ServesRow D i) (λ t d b. row_le D i j t d (omega arith) b) s c h

pub kept_row : (D : Domain) (s c : ℕ) → Kept D s c → (k : ℕ) → ServesRow D k s c
kept_row D s c (R, sim, h) k = go k s c h
  where
    go : (k s c : ℕ) → Holds R s c → ServesRow D k s c
    go zero s c h = tt
    go (suc k) s c h = serves_mono D (Holds R) (ServesRow D k) (go k) s c (sim.closed s c h)

pub kept_ranged : (D : Domain) (s c : ℕ) → Kept D s c → InRange D s c
kept_ranged D s c (R, sim, h) = sim.ranged s c h

-- From a kept pair every request is served, inside what is kept again.
pub kept_serves : (D : Domain) (s c : ℕ) → Kept D s c → Serves D (Kept D) s c
kept_serves D s c (R, sim, h) = serves_mono D (Holds R) (Kept D) (λ t d k. (R, sim, k)) s c (sim.closed s c h)

-- A run from a condition below n ends in one.
pub end_within : (n : ℕ) (moves : List Move) → Within n moves → (plan : Plan) (c : ℕ) (ms : List Move) →
    c < n → IsRun moves plan c ms → end c ms < n
end_within n moves wf stop c [] h r = h
end_within n moves wf stop c (m ∷ ms) h r = absurd r
end_within n moves wf (work o next) c [] h r = absurd r
end_within n moves wf (work o next) c (m ∷ ms) h r =
    end_within n moves wf (next m.outcome) m.outcome ms (wf m r.0.0).1 r.1

-- Within the domain's range it is enough to compare X and Y there.
pub serves_mono_in : (D : Domain) → WellFormed D → (X Y : ℕ → ℕ → Type 0) →
    ((s c : ℕ) → s < D.stages → c < D.conditions → X s c → Y s c) →
    (s c : ℕ) → c < D.conditions → Serves D X s c → Serves D Y s c
serves_mono_in D wf X Y f s c h serve q i e =
    let t = serve q i e in
    (t.0, t.1, λ ms r. f q.to (end c ms) (wf.staged q i).1 (end_within D.conditions D.moves wf.within t.0 c ms h r) (t.2 ms r))
