-- What a policy and its ranks promise, in the words of plans and simulations.
use Rattle.std.specs.Prelude.{◌≡◌, ℕ, ◌+◌, ◌*◌, ◌<◌, ◌≤◌, Bool, ◌&&◌, List, ◌++◌, map, length, codes, decimal, ◌==◌, nat_lt, slice_index_or}
use Rattle.plans.specs.Plans.{Plan, stop, work}
use Rattle.plans.specs.Simulation.{Domain, Meets, EndsIn, Holds, InRange, Kept, Rank, Simulation}
use Rattle.plans.specs.Flags.{task_at, rank_at}
use Rattle.costs.specs.Costs.{Model, Le}
use Rattle.search.specs.Answers.{Costs}
use Rattle.solver.specs.declared.Entry.{Entry}
use Rattle.solver.specs.declared.Entry.TheVariants.{None, There, Work}

-- The byte by which an entry is known: 255 for none, 254 for there, else the operation.
abbrev pub entry_byte : Entry → ℕ
entry_byte None = 255
entry_byte There = 254
entry_byte (Work o) = o

-- What an entry is printed as.
abbrev pub entry_text : Entry → List ℕ
entry_text None = codes "none"
entry_text There = codes "there"
entry_text (Work o) = codes "work " ++ decimal o

-- A domain, a way to cost runs, a policy with exact costs, by request and condition, and ranks, by stage and condition.
pub record World : Type 0 where
  pub domain : Domain
  pub model : Model
  pub entry : ℕ → ℕ → Entry
  pub cost : ℕ → ℕ → List ℕ
  pub rank : ℕ → ℕ → ℕ

-- The plan meets request q from c, and ends only in kept pairs.
abbrev pub Safe : World → ℕ → Plan → ℕ → Type 0
Safe w q plan c =
    Meets w.domain (task_at w.domain q) plan c × EndsIn w.domain plan c (Kept w.domain (task_at w.domain q).to)

-- The plan costs f from c: the greatest of its runs' costs.
abbrev pub Price : World → Plan → ℕ → List ℕ → Type 0
Price w plan c f = Costs w.model w.domain.moves plan c f

-- Operation o begins a safe plan that costs f.
abbrev pub Begins : World → ℕ → ℕ → ℕ → List ℕ → Type 0
Begins w q c o f = (next : ℕ → Plan) × Safe w q (work o next) c × Price w (work o next) c f

-- f is the least cost of a safe plan, and o is the lowest operation that begins one of that cost.
pub record Best (w : World) (q c o : ℕ) (f : List ℕ) : Type 0 where
  pub begins : Begins w q c o f
  -- every safe plan has a cost, and it is at least f
  pub least : (plan : Plan) → Safe w q plan c → (g : List ℕ) × Price w plan c g × Le w.model f g
  pub lowest : (p : ℕ) → Begins w q c p f → o ≤ p

-- What an entry and its cost say: no plan is safe; or stopping is; or else which operation is best.
abbrev pub Right : World → ℕ → ℕ → Entry → List ℕ → Type 0
Right w q c None f = ((plan : Plan) → Safe w q plan c → ⊥) × (f ≡ w.model.zero)
Right w q c There f = Safe w q stop c × (f ≡ w.model.zero)
Right w q c (Work o) f = (Safe w q stop c → ⊥) × Best w q c o f

-- The set of the port's pairs that have rank 0.
abbrev pub kept_set : World → ℕ → ℕ → Bool
kept_set w s c = nat_lt s w.domain.stages && (nat_lt c w.domain.conditions && w.rank s c == 0)

-- Each rank is the pair's, the pairs of rank 0 are the largest simulation, and each entry and cost is right.
pub record Solved (w : World) : Type 0 where
  pub ranked : (s c : ℕ) → InRange w.domain s c → Rank w.domain s c (w.rank s c)
  pub simulates : Simulation w.domain (kept_set w)
  pub largest : (R : ℕ → ℕ → Bool) → Simulation w.domain R → (s c : ℕ) → Holds R s c → Holds (kept_set w) s c
  pub entered : (q c : ℕ) → q < length w.domain.tasks → c < w.domain.conditions → Right w q c (w.entry q c) (w.cost q c)

-- The world that filled buffers tell. Entries and costs go by request, ranks by stage, and then each by condition.
abbrev pub world_of : {K : Type 0} → Domain → Model → (K → List ℕ) → List Entry → List K → List ℕ → World
world_of D k e entries costs ranks = record {
  domain = D;
  model = k;
  entry = λ q c. slice_index_or entries (q * D.conditions + c) None;
  cost = λ q c. slice_index_or (map e costs) (q * D.conditions + c) k.zero;
  rank = rank_at D.conditions ranks;
}
