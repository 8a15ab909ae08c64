-- Locks that are worked by a policy: which outcomes they take, and what their moves cost.
use Rattle.std.specs.Prelude.{◌≡◌, ℕ, false, List, [], ◌∷◌, map, drop, Some, slice_index}
use Rattle.port.specs.Limits.{In}
use Rattle.port.specs.Model.{Model as PortModel}
use Rattle.port.specs.declared.Move.{Move}
use Rattle.plans.specs.Plans.{Can, end}
use Rattle.plans.specs.Flags.{task_at}
use Rattle.costs.specs.Costs.{cost}
use Rattle.locks.specs.Places.{IsAt}
use Rattle.locks.specs.Targets.{named_by, Nearest}
use Rattle.locks.specs.Works.{change, outcomes, WorkedNth, WorkedLeast}
use Rattle.solver.specs.declared.Entry.TheVariants.{There, Work}
use Rattle.solver.specs.Policy.{World, Solved}
use Rattle.histories.specs.declared.Command.TheVariants.{Ask, Step, Close}
use Rattle.histories.specs.Calls.{At, Event, History, granted, worked, closed, start_at}
use Rattle.histories.specs.Errands.{errands}
use Rattle.cases.specs.Policies.{Row as PolicyRow, world, staithe_minutes, two}
use Rattle.cases.specs.Ports.{move}

-- how a lock picks an outcome: by the bytes of a script, or the nearest
pub data Picks : Type 0 where
  scripted : List ℕ → Picks
  nearest : Picks

-- of the outcomes of operation o in condition c, it picks d
abbrev pub Picked : PortModel → Picks → ℕ → ℕ → ℕ → Type 0
Picked M (scripted bytes) c o d = named_by (slice_index bytes 0) (outcomes M.moves c o) ≡ Some d
Picked M nearest c o d = Nearest (change M c) (outcomes M.moves c o) (Some d)

-- what it picks by when it is worked again: a script has used a byte
abbrev pub later : Picks → Picks
later (scripted bytes) = scripted (drop 1 bytes)
later nearest = nearest

-- The moves are those of such a lock from condition c, where it is worked by the entries for request q until one is There.
abbrev pub Goes : World → PortModel → ℕ → Picks → ℕ → List Move → Type 0
Goes w M q p c [] = w.entry q c ≡ There
Goes w M q p c (m ∷ ms) =
    (w.entry q c ≡ Work m.operation) × Can M.moves c m.operation m × Picked M p c m.operation m.outcome
    × Goes w M q (later p) m.outcome ms

-- what the two locks promise of the marks that they take, worked with operation o from the marks m
abbrev pub Promised : PortModel → Picks → ℕ → ℕ → ℕ → Type 0
Promised M (scripted bytes) m o m' = WorkedNth M m o (slice_index bytes 0) m'
Promised M nearest m o m' = WorkedLeast M m o m'

-- The marks are those that a lock with such a promise shows one after another, from the marks m, where it is worked in the same way.
abbrev pub Shows : World → PortModel → ℕ → Picks → ℕ → List ℕ → Type 0
Shows w M q p m [] = (c : ℕ) × (IsAt M c m × (w.entry q c ≡ There))
Shows w M q p m (m' ∷ ms) =
    (c o : ℕ) × (IsAt M c m × (w.entry q c ≡ Work o) × Promised M p m o m' × Shows w M q (later p) m' ms)

abbrev pub marks_of : PortModel → ℕ → ℕ
marks_of M c = slice_index M.conditions c

-- where a controller and its lock stand while request q is out
abbrev pub out_at : ℕ → ℕ → ℕ → At
out_at s q c = record { stage = s; out = Some q; place = Some c }

-- the calls that work these moves from condition c, and then close
abbrev pub steps : World → ℕ → ℕ → ℕ → List Move → List Event
steps w s q c [] =
    let t = (task_at w.domain q).to in
    record { before = out_at s q c; command = Close q; answer = closed t; after = start_at t (Some c) } ∷ []
steps w s q c (m ∷ ms) =
    record { before = out_at s q c; command = Step q; answer = worked m; after = out_at s q m.outcome } ∷ steps w s q m.outcome ms

-- the calls of an errand: request q is asked for at stage s in condition c, worked and closed
abbrev pub calls : World → ℕ → ℕ → ℕ → List Move → List Event
calls w s q c ms =
    record { before = start_at s (Some c); command = Ask q; answer = granted (w.cost q c); after = out_at s q c } ∷ steps w s q c ms

-- A policy, how a lock picks, a request with its stage, and the condition in which it is asked; the moves that are then made, the
-- conditions that they lead to and the marks that the lock shows there, what was quoted, and what the moves cost.
pub record Row : Type 0 where
  pub policy : PolicyRow
  pub picks : Picks
  pub stage : ℕ
  pub request : ℕ
  pub condition : ℕ
  pub moves : List Move
  pub visits : List ℕ
  pub shown : List ℕ
  pub quote : List ℕ
  pub spent : List ℕ

pub record Holds (r : Row) : Type 0 where
  -- the policy is that of a solved port
  pub solved : Solved (world r.policy)
  -- the lock makes these moves, and can make no others
  pub goes : Goes (world r.policy) r.policy.port r.request r.picks r.condition r.moves
  pub alone : (ms : List Move) → Goes (world r.policy) r.policy.port r.request r.picks r.condition ms → ms ≡ r.moves
  pub visits : map (λ (m : Move). m.outcome) r.moves ≡ r.visits
  -- a lock that keeps its promise shows these marks, and can show no others
  pub shows : Shows (world r.policy) r.policy.port r.request r.picks (marks_of r.policy.port r.condition) r.shown
  pub only : (ms : List ℕ) → Shows (world r.policy) r.policy.port r.request r.picks (marks_of r.policy.port r.condition) ms → ms ≡ r.shown
  -- asked, worked and closed, the moves are the errand of a history
  pub asked :
      History (world r.policy) (start_at r.stage (Some r.condition)) (calls (world r.policy) r.stage r.request r.condition r.moves)
      (start_at (task_at (world r.policy).domain r.request).to (Some (end r.condition r.moves)))
  pub errand :
      errands (calls (world r.policy) r.stage r.request r.condition r.moves)
      ≡ record { request = r.request; quote = r.quote; moves = r.moves; out = false } ∷ []
  pub spent : cost r.policy.model r.moves ≡ r.spent

abbrev pub rows : List Row
rows =
    -- by the second of two outcomes, and then by the only one, at the whole quote
    record {
      policy = staithe_minutes;
      picks = scripted (1 ∷ []);
      stage = 0;
      request = 0;
      condition = 0;
      moves = move 0 0 2 6 ∷ move 2 1 1 10 ∷ [];
      visits = 2 ∷ 1 ∷ [];
      shown = 2 ∷ 1 ∷ [];
      quote = two 16 2;
      spent = two 16 2;
    } ∷
    -- of two outcomes that change one mark each, to the lower
    record {
      policy = staithe_minutes;
      picks = nearest;
      stage = 0;
      request = 0;
      condition = 0;
      moves = move 0 0 1 4 ∷ [];
      visits = 1 ∷ [];
      shown = 1 ∷ [];
      quote = two 16 2;
      spent = two 4 1;
    } ∷
    []

abbrev pub ErrandsHold : Type 0
ErrandsHold = (r : Row) → In r rows → Holds r
